-- The first place that passes a test, as a loop comes upon it.
use Rattle.std.proofs.Common.{◌≡◌, ◌∙◌, ℕ, ◌<◌, ◌≤◌, Bool, true, false, cond, List, [], ◌∷◌, length, get_or, Option, Some, None, arith, refl, ap, sym, position}
use Rattle.std.specs.Prelude.{nat_lt}
use Rattle.std.specs.List.{position_or_len}
use Rattle.std.proofs.lemmas.Bool.{le-ltb, lt-ltb}
use Rattle.std.proofs.lemmas.List.Sums.{position_or_len_is}

abbrev reached : ℕ → ℕ → Option ℕ
reached place len = cond (nat_lt place len) (Some place) None

pub position_here : {X : Type 0} (p : X → Bool) (xs : List X) (i : ℕ) (d : X) → i < length xs
    → ((k : ℕ) (e : X) → k < i → p (get_or xs k e) ≡ false) → p (get_or xs i d) ≡ true → Some i ≡ position p xs
position_here p xs i d below before here =
    let at : position_or_len p xs ≡ i = position_or_len_is p xs i d (omega (arith, below)) (λ k less. before k d less) (λ _. here) in
    sym (ap (λ b. cond b (Some i) None) (lt-ltb i (length xs) below)) ∙ ap (λ n. reached n (length xs)) (sym at)

-- there is no such place
pub position_nowhere : {X : Type 0} (p : X → Bool) (xs : List X) (i : ℕ) → length xs ≤ i
    → ((k : ℕ) (e : X) → k < i → p (get_or xs k e) ≡ false) → None ≡ position p xs
position_nowhere p [] i all before = refl
position_nowhere p (x ∷ xs) i all before =
    let at : position_or_len p (x ∷ xs) ≡ length (x ∷ xs) = position_or_len_is p (x ∷ xs) (length (x ∷ xs)) x (omega arith)
    (λ k less. before k x (omega (arith, less, all))) (λ below. absurd (omega (arith, below))) in
    sym (ap (λ b. cond b (Some (length (x ∷ xs))) None) (le-ltb (length (x ∷ xs)) (length (x ∷ xs)) (omega arith)))
    ∙ ap (λ n. reached n (length (x ∷ xs))) (sym at)
