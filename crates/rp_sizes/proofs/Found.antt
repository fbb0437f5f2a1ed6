-- The fact of a definition, as a loop comes upon it.
use Rattle.std.proofs.Common.{◌≡◌, ℕ, ◌+◌, ◌<◌, ◌≤◌, List, length, get_or, drop, cond, eq-eqb, Option, Some, None, sym, ap, ◌∙◌}
use Rattle.std.proofs.lemmas.Bool.{ne_eqb}
use Rattle.std.proofs.lemmas.List.{drop_all, drop_more}
use Rattle.rp_sizes.specs.declared.need.Fact.{Fact}
use Rattle.rp_sizes.specs.Needs.{fact_of}

pub fact_here : (facts : List Fact) (file i : ℕ) (d : Fact) (whole : Option Fact) → i < length facts → (get_or facts i d).file ≡ file
    → fact_of (drop i facts) file ≡ whole → Some (get_or facts i d) ≡ whole
fact_here facts file i d whole below same is =
    sym (ap (λ b. cond b (Some (get_or facts i d)) (fact_of (drop (i + 1) facts) file)) (eq-eqb _ file same))
    ∙ ap (λ fs. fact_of fs file) (sym (drop_more facts i d below)) ∙ is

pub fact_past : (facts : List Fact) (file i : ℕ) (d : Fact) (whole : Option Fact) → i < length facts → ((get_or facts i d).file ≡ file → ⊥)
    → fact_of (drop i facts) file ≡ whole → fact_of (drop (i + 1) facts) file ≡ whole
fact_past facts file i d whole below other is =
    sym (ap (λ b. cond b (Some (get_or facts i d)) (fact_of (drop (i + 1) facts) file)) (ne_eqb _ file other))
    ∙ ap (λ fs. fact_of fs file) (sym (drop_more facts i d below)) ∙ is

pub no_fact : (facts : List Fact) (file i : ℕ) (whole : Option Fact) → length facts ≤ i → fact_of (drop i facts) file ≡ whole → None ≡ whole
no_fact facts file i whole all is = ap (λ fs. fact_of fs file) (sym (drop_all i facts all)) ∙ is
