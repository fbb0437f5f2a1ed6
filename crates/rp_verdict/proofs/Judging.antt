-- Verdicts, with or without a denial.
use Rattle.std.proofs.Common.{◌≡◌, ℕ, ◌+◌, ◌<◌, ◌++◌, List, [], ◌∷◌, length, get_or, map, take, Some, None, Ok, Err, refl, ap, sym, ◌∙◌}
use Rattle.std.proofs.lemmas.List.{map-append, map_more, take_more}
use Rattle.rp_base.specs.declared.table.Row.{Row}
use Rattle.rp_types.specs.declared.arch.Arch.{Arch}
use Rattle.rp_verdict.specs.Rows.{extra}
use Rattle.rp_verdict.specs.Verdicts.{first_denial, whole}
use Rattle.rp_verdict.specs.declared.verdict.DissectFault.{DissectFault}
use Rattle.rp_verdict.specs.declared.verdict.Verdict.{Verdict}

pub whole-denied : (arch : Arch) (rows : List Row) (list : List Verdict) (fault : DissectFault) → first_denial list ≡ Some fault
    → whole arch rows list ≡ Err fault
unfolding whole
whole-denied arch rows list fault denied = rw denied refl

pub whole-allowed : (arch : Arch) (rows : List Row) (list : List Verdict) (slots : List ℕ) → slots ≡ extra arch rows → first_denial list ≡ None
    → whole arch rows list ≡ Ok (record { list = list; extra = slots })
unfolding whole
whole-allowed arch rows list slots is allowed = rw (allowed, is) refl

-- one more item of a list, made of the next one of another
pub list-more : {A B : Type 0} (g : A → B) (xs : List A) (i : ℕ) (d : A) (old new : List B) (v : B) → i < length xs → old ≡ map g (take i xs)
    → new ≡ old ++ v ∷ [] → v ≡ g (get_or xs i d) → new ≡ map g (take (i + 1) xs)
list-more g xs i d old new v below e f is =
    f ∙ ap (λ s. s ++ v ∷ []) e ∙ ap (λ v. map g (take i xs) ++ v ∷ []) is ∙ sym (map_more g xs i d below)

-- one more item of a list, of which a part is the next one of another
pub order-more : {A B : Type 0} (g : A → B) (xs : List B) (i : ℕ) (d : B) (old new : List A) (v : A) → i < length xs → map g old ≡ take i xs
    → new ≡ old ++ v ∷ [] → g v ≡ get_or xs i d → map g new ≡ take (i + 1) xs
order-more g xs i d old new v below e f is =
    ap (map g) f ∙ map-append g old (v ∷ []) ∙ ap (λ s. s ++ g v ∷ []) e ∙ ap (λ w. take i xs ++ w ∷ []) is ∙ sym (take_more xs i d below)
