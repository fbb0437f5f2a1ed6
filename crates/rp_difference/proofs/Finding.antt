-- Where the first that passes a test is found, from an index on.
use Rattle.std.proofs.Common.{◌≡◌, ℕ, ◌+◌, ◌<◌, ◌≤◌, Bool, true, false, List, length, drop, get_or, Some, None, add-one, drop-cons, refl}
use Rattle.std.specs.Prelude.{find}
use Rattle.std.proofs.Math.ListN.{drop_of_length-le}

-- the one at the index
pub find-here : {A : Type 0} (p : A → Bool) (xs : List A) (i : ℕ) (d : A) → i < length xs → p (get_or xs i d) ≡ true
    → find p (drop i xs) ≡ Some (get_or xs i d)
find-here p xs i d below passes = rw (drop-cons xs i d below) (rw passes refl)

-- one behind it
pub find-later : {A : Type 0} (p : A → Bool) (xs : List A) (i : ℕ) (d : A) → i < length xs → p (get_or xs i d) ≡ false
    → find p (drop i xs) ≡ find p (drop (i + 1) xs)
find-later p xs i d below fails = rw (drop-cons xs i d below, add-one) (rw fails refl)

-- none is left
pub find-end : {A : Type 0} (p : A → Bool) (xs : List A) (i : ℕ) → length xs ≤ i → find p (drop i xs) ≡ None
find-end p xs i past = rw (drop_of_length-le xs past) refl
