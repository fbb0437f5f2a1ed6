-- Lists made of the elements of another and their places.
use Rattle.std.proofs.Common.{◌≡◌, ℕ, ◌+◌, ◌<◌, List, [], ◌∷◌, ◌++◌, length, get_or, take, map, arith, ap, ◌∙◌, zero-add, zero, suc, slice_get, Some}
use Rattle.std.specs.List.{enumerate_from}
use Rattle.std.proofs.lemmas.List.{take_more, map-append, get_or-map, length-map}
use Rattle.std.proofs.lemmas.List.FromFn.{get_or-enumerate_from, length-enumerate_from}

pub map-enumerate_more : {X Y : Type 0} (f : ℕ × X → Y) (xs : List X) (i : ℕ) (d : X) → i < length xs
    → map f (take (i + 1) (enumerate_from 0 xs)) ≡ map f (take i (enumerate_from 0 xs)) ++ f (i, get_or xs i d) ∷ []
map-enumerate_more f xs i d below =
    let l : i < length (enumerate_from 0 xs) = rw length-enumerate_from below in
    ap (map f) (take_more (enumerate_from 0 xs) i (0, d) l) ∙ map-append f (take i (enumerate_from 0 xs))
    (get_or (enumerate_from 0 xs) i (0, d) ∷ [])
    ∙ ap (λ e. map f (take i (enumerate_from 0 xs)) ++ f e ∷ []) (get_or-enumerate_from 0 xs i (0, d) below
    ∙ ap (λ n. (n, get_or xs i d)) (zero-add i))

pub get_or-map-enumerate : {X Y : Type 0} (f : ℕ × X → Y) (xs : List X) (i : ℕ) (d : X) (e : Y) → i < length xs
    → get_or (map f (enumerate_from 0 xs)) i e ≡ f (i, get_or xs i d)
get_or-map-enumerate f xs i d e below =
    let l : i < length (enumerate_from 0 xs) = rw length-enumerate_from below in
    get_or-map f (enumerate_from 0 xs) i (0, d) e l ∙ ap f (get_or-enumerate_from 0 xs i (0, d) below
    ∙ ap (λ n. (n, get_or xs i d)) (zero-add i))

pub length-map-enumerate : {X Y : Type 0} (f : ℕ × X → Y) (xs : List X) → length (map f (enumerate_from 0 xs)) ≡ length xs
length-map-enumerate f xs = length-map (enumerate_from 0 xs) f ∙ length-enumerate_from 0 xs

-- the element at a place, as `slice_get` has it
pub read_at : {X : Type 0} (xs : List X) (k : ℕ) (d x : X) → k < length xs → get_or xs k d ≡ x → slice_get xs k ≡ Some x
read_at [] k d x below is = absurd (omega (arith, below))
read_at (y ∷ ys) zero d x below is = ap (λ z. Some z) is
read_at (y ∷ ys) (suc k) d x below is = read_at ys k d x (omega (arith, below)) is
