-- A tree has at most five levels.
use Rattle.std.proofs.Common.{◌≡◌, ℕ, ◌≤◌, ◌-◌, ◌/◌, ◌^◌, Bool, true, false, eqb, List, [], ◌∷◌, find, refl, arith, rules, All}
use Rattle.std.specs.Prelude.{unwrap_or}
use Rattle.std.specs.List.{range_with_len}
use Rattle.std.proofs.lemmas.List.Elements.{All-head, All-tail}
use Rattle.rp_base.specs.Trees.{levels}

found_few : (p : ℕ → Bool) (n : ℕ) (xs : List ℕ) → All (λ x. x ≤ n) xs → unwrap_or (find p xs) n ≤ n
found_few p n [] few = omega arith
found_few p n (x ∷ xs) few = by (p x) refl (found_few p n xs (All-tail (λ y. y ≤ n) x xs few)) where
  by : (b : Bool) → p x ≡ b → unwrap_or (find p xs) n ≤ n → unwrap_or (find p (x ∷ xs)) n ≤ n
  by true is later = rw is (All-head (λ y. y ≤ n) x xs few)
  by false is later = rw is later

five : All (λ x. x ≤ 5) (0 ∷ 1 ∷ 2 ∷ 3 ∷ 4 ∷ [])
five = search rules

pub few_levels : (blocks : ℕ) → levels blocks ≤ 5
unfolding levels
few_levels blocks = found_few (λ level. eqb ((blocks - 1) / 128 ^ level) 0) 5 (range_with_len 0 5) five
