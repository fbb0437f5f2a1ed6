-- What is found of one more designator.
use Rattle.std.proofs.Common.{◌≡◌, ℕ, ◌+◌, ◌<◌, ◌++◌, List, [], ◌∷◌, length, get_or, map, take, sym, ◌∙◌, ap}
use Rattle.std.specs.Prelude.{slice_set}
use Rattle.std.proofs.lemmas.List.{map-append, take_more, take_more_set}

pub one_more : {X Y : Type 0} (f : X → Y) (xs : List X) (found : List Y) (i : ℕ) (y : Y) (d : X) → i < length xs → i < length found
    → take i found ≡ map f (take i xs) → y ≡ f (get_or xs i d) → take (i + 1) (slice_set found i y) ≡ map f (take (i + 1) xs)
one_more f xs found i y d inside within so_far is =
    take_more_set found i y within ∙ ap (λ front. front ++ y ∷ []) so_far ∙ ap (λ last. map f (take i xs) ++ last ∷ []) is
    ∙ sym (ap (map f) (take_more xs i d inside) ∙ map-append f (take i xs) (get_or xs i d ∷ []))
