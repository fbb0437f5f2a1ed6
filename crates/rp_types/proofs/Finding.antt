-- The first element that passes a test, as a loop comes upon it.
use Rattle.std.proofs.Common.{◌≡◌, ℕ, suc, ◌+◌, ◌<◌, Bool, true, false, ◌&&◌, cond, List, [], ◌∷◌, length, get_or, take, drop, map, Option, None, Some, refl, sym, ap, subst, ◌∙◌}
use Rattle.std.specs.Prelude.{find, option_map}
use Rattle.std.specs.List.{list_all}
use Rattle.std.specs.Option.{option_or}
use Rattle.std.proofs.lemmas.List.{take_more, take-append-drop}
use Rattle.std.proofs.lemmas.List.Folds.{find-append}
use Rattle.std.proofs.Math.Seq.{drop-cons}

module _ {X : Type 0} (p : X → Bool) (xs : List X) (i : ℕ) (d : X) (within : i < length xs) (before : find p (take i xs) ≡ None) where
  -- no element up to here passes
  pub find_more : p (get_or xs i d) ≡ false → find p (take (i + 1) xs) ≡ None
  find_more fails =
      ap (find p) (take_more xs i d within) ∙ find-append p (take i xs) (get_or xs i d ∷ [])
      ∙ ap (λ o. option_or o (find p (get_or xs i d ∷ []))) before
      ∙ ap (λ b. cond b (Some (get_or xs i d)) None) fails

  -- this is the first that passes
  pub find_here : p (get_or xs i d) ≡ true → find p xs ≡ Some (get_or xs i d)
  find_here passes =
      ap (find p) (sym (take-append-drop i xs)) ∙ find-append p (take i xs) (drop i xs)
      ∙ ap (λ o. option_or o (find p (drop i xs))) before
      ∙ ap (find p) (drop-cons xs i d within)
      ∙ ap (λ b. cond b (Some (get_or xs i d)) (find p (drop (suc i) xs))) passes

found : {X Y : Type 0} (f : X → Y) (b : Bool) (x : X) (o : Option X) (o' : Option Y) → o' ≡ option_map f o
    → cond b (Some (f x)) o' ≡ option_map f (cond b (Some x) o)
found f true x o o' e = refl
found f false x o o' e = e

-- over a list of what f makes
pub find-map : {X Y : Type 0} (f : X → Y) (p : Y → Bool) (xs : List X) → find p (map f xs) ≡ option_map f (find (λ x. p (f x)) xs)
find-map f p [] = refl
find-map f p (x ∷ xs) = found f (p (f x)) x (find (λ y. p (f y)) xs) (find p (map f xs)) (find-map f p xs)

and_true : (a b : Bool) → (a && b) ≡ true → (a ≡ true) × (b ≡ true)
and_true true b h = (refl, h)
and_true false b h = absurd (cc)

found_first : {X : Type 0} (R : X → Type 0) (b : Bool) (y x : X) (o : Option X) → (b ≡ true → R y) → (o ≡ Some x → R x)
    → cond b (Some y) o ≡ Some x → R x
found_first R true y x o here later e = let same : y ≡ x = cc in subst R same (here refl)
found_first R false y x o here later e = later e

-- what is found passes the test, and any test that all pass
pub find_passes : {X : Type 0} (p q : X → Bool) (xs : List X) (x : X) → list_all q xs ≡ true → find p xs ≡ Some x
    → (p x ≡ true) × (q x ≡ true)
find_passes p q [] x all e = absurd (cc)
find_passes p q (y ∷ ys) x all e =
    let both = and_true (q y) (list_all q ys) all in
    found_first (λ z. (p z ≡ true) × (q z ≡ true)) (p y) y x (find p ys) (λ h. (h, both.0))
    (λ later. find_passes p q ys x both.1 later) e
