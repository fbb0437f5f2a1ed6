-- The first value that a function gives of the elements of a list, as a loop comes upon it.
use Rattle.std.proofs.Common.{◌≡◌, ℕ, suc, ◌+◌, ◌<◌, ◌≤◌, List, [], ◌∷◌, length, map, get_or, drop, Option, None, Some, refl, ap, ◌∙◌, arith}
use Rattle.std.specs.Option.{option_or}
use Rattle.std.proofs.Math.Seq.{drop-cons}
use Rattle.std.proofs.Math.ListN.{drop_of_length-le}
use Rattle.rp_words.specs.Words.{first_of}

module _ {X Y : Type 0} (f : X → Option Y) (xs : List X) (i : ℕ) where
  -- an element that gives none is passed over
  pub passed : (d : X) → i < length xs → f (get_or xs i d) ≡ None → first_of f (drop i xs) ≡ first_of f (drop (i + 1) xs)
  passed d within none =
      let next : suc i ≡ i + 1 = omega arith in
      ap (first_of f) (drop-cons xs i d within) ∙ ap (λ o. option_or o (first_of f (drop (suc i) xs))) none ∙ ap (λ k. first_of f (drop k xs)) next

  -- one that gives a value is the first
  pub found_here : (d : X) → i < length xs → (y : Y) → f (get_or xs i d) ≡ Some y → first_of f (drop i xs) ≡ Some y
  found_here d within y some =
      ap (first_of f) (drop-cons xs i d within) ∙ ap (λ o. option_or o (first_of f (drop (suc i) xs))) some

  -- behind the last there is none
  pub found_none : length xs ≤ i → first_of f (drop i xs) ≡ None
  found_none past = ap (first_of f) (drop_of_length-le xs past)

-- over a list of what g makes
pub first_in_map : {W X Y : Type 0} (f : X → Option Y) (g : W → X) (xs : List W) → first_of f (map g xs) ≡ first_of (λ x. f (g x)) xs
first_in_map f g [] = refl
first_in_map f g (x ∷ xs) = ap (option_or (f (g x))) (first_in_map f g xs)
