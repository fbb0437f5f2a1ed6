-- Lists of pairs, and lists joined end to end.
use Rattle.std.proofs.Common.{◌≡◌, ◌==◌, ℕ, zero, suc, ◌+◌, ◌<◌, List, [], ◌∷◌, ◌++◌, length, get_or, map, Option, Some, None, IfSome, Bool, true, false, All, AllPairs, slice_get, take, drop, arith, refl, ap, sym, ◌∙◌, subst, zero-add}
use Rattle.std.specs.List.{AllZip, Contains, cons_option, enumerate_from, filter_map, find, flat_map}
use Rattle.std.specs.Option.{option_map}
use Rattle.std.proofs.lemmas.Bool.{both_ways, cond_both, eq-eqb}
use Rattle.std.proofs.lemmas.List.{get_or-map, length-map, map-append, take_at}
use Rattle.std.proofs.lemmas.List.Elements.{All-append, All-cons, All-contains, All-head, All-map, All-nil, All-tail, Contains-append_left, Contains-append_right}
use Rattle.std.proofs.lemmas.List.FromFn.{get_or-enumerate_from, length-enumerate_from}
use Rattle.std.proofs.lemmas.List.Kept.{AllPairs-cons}
use Rattle.std.proofs.lemmas.Option.{get_or_from_slice_get, slice_get-get_or, slice_get_within}

pub AllPairs-nil : {X : Type 0} (R : X → X → Type 0) → AllPairs R []
AllPairs-nil R i j d before below = absurd (omega (arith, before, below))

pub AllPairs-head : {X : Type 0} (R : X → X → Type 0) (x : X) (xs : List X) → AllPairs R (x ∷ xs) → All (R x) xs
AllPairs-head R x xs each k d below = each 0 (suc k) d (omega arith) (omega (arith, below))

pub AllPairs-tail : {X : Type 0} (R : X → X → Type 0) (x : X) (xs : List X) → AllPairs R (x ∷ xs) → AllPairs R xs
AllPairs-tail R x xs each i j d before below = each (suc i) (suc j) d (omega (arith, before)) (omega (arith, below))

pub AllPairs-append : {X : Type 0} (R : X → X → Type 0) (xs ys : List X) → AllPairs R xs → AllPairs R ys → All (λ x. All (R x) ys) xs
    → AllPairs R (xs ++ ys)
AllPairs-append R [] ys first second between = second
AllPairs-append R (x ∷ xs) ys first second between =
    AllPairs-cons R x (xs ++ ys) (All-append (R x) xs ys (AllPairs-head R x xs first) (All-head (λ z. All (R z) ys) x xs between))
    (AllPairs-append R xs ys (AllPairs-tail R x xs first) second (All-tail (λ z. All (R z) ys) x xs between))

-- what holds of each part of a joined list
pub All-flat_map : {X Y : Type 0} (P : Y → Type 0) (f : X → List Y) (xs : List X) → All (λ x. All P (f x)) xs → All P (flat_map f xs)
All-flat_map P f [] each = All-nil P
All-flat_map P f (x ∷ xs) each = All-append P (f x) (flat_map f xs) (All-head (λ z. All P (f z)) x xs each)
    (All-flat_map P f xs (All-tail (λ z. All P (f z)) x xs each))

-- what holds of each element here holds of each element of what is made of it
pub All-both : {X : Type 0} (P Q : X → Type 0) (xs : List X) → All P xs → All Q xs → All (λ x. P x × Q x) xs
All-both P Q xs ps qs k d below = (ps k d below, qs k d below)

-- pairs within each part, and between any two parts
pub AllPairs-flat_map : {X Y : Type 0} (R : Y → Y → Type 0) (f : X → List Y) (xs : List X) → All (λ x. AllPairs R (f x)) xs
    → AllPairs (λ a b. All (λ y. All (R y) (f b)) (f a)) xs → AllPairs R (flat_map f xs)
AllPairs-flat_map R f [] each between = AllPairs-nil R
AllPairs-flat_map R f (x ∷ xs) each between =
    AllPairs-append R (f x) (flat_map f xs) (All-head (λ z. AllPairs R (f z)) x xs each)
    (AllPairs-flat_map R f xs (All-tail (λ z. AllPairs R (f z)) x xs each)
    (AllPairs-tail (λ a b. All (λ y. All (R y) (f b)) (f a)) x xs between))
    (λ k d below. All-flat_map (R (get_or (f x) k d)) f xs (λ j e inside.
    AllPairs-head (λ a b. All (λ y. All (R y) (f b)) (f a)) x xs between j e inside k d below))

-- an element with its place
pub enumerated_at : {X : Type 0} (xs : List X) (k : ℕ) (d : ℕ × X) → k < length xs → get_or (enumerate_from 0 xs) k d ≡ (k, get_or xs k d.1)
enumerated_at xs k d below = get_or-enumerate_from 0 xs k d below ∙ ap (λ n. (n, get_or xs k d.1)) (zero-add k)

pub All-enumerated : {X : Type 0} (P : ℕ × X → Type 0) (xs : List X) → ((i : ℕ) (x : X) → slice_get xs i ≡ Some x → P (i, x))
    → All P (enumerate_from 0 xs)
All-enumerated P xs each k d below =
    let inside : k < length xs = omega (arith, below, length-enumerate_from 0 xs) in
    subst P (sym (enumerated_at xs k d inside)) (each k (get_or xs k d.1) (slice_get-get_or xs k d.1 inside))

pub AllPairs-enumerated : {X : Type 0} (R : ℕ × X → ℕ × X → Type 0) (xs : List X)
    → ((i j : ℕ) (d : X) → i < j → j < length xs → R (i, get_or xs i d) (j, get_or xs j d)) → AllPairs R (enumerate_from 0 xs)
AllPairs-enumerated R xs each i j d before below =
    let inside : j < length xs = omega (arith, below, length-enumerate_from 0 xs) in
    subst (λ e. R e (get_or (enumerate_from 0 xs) j d)) (sym (enumerated_at xs i d (omega (arith, before, inside))))
    (subst (R (i, get_or xs i d.1)) (sym (enumerated_at xs j d inside)) (each i j d.1 before inside))

pub Contains-cons : {X : Type 0} (x y : X) (ys : List X) → Contains ys x → Contains (y ∷ ys) x
Contains-cons x y ys has = (suc has.0, omega (arith, has.1), has.2)

pub map-flat_map : {X Y Z : Type 0} (g : Y → Z) (f : X → List Y) (xs : List X) → map g (flat_map f xs) ≡ flat_map (λ x. map g (f x)) xs
map-flat_map g f [] = refl
map-flat_map g f (x ∷ xs) = map-append g (f x) (flat_map f xs) ∙ ap (λ zs. map g (f x) ++ zs) (map-flat_map g f xs)

pub flat_map_same : {X Y : Type 0} (f g : X → List Y) (xs : List X) → All (λ x. f x ≡ g x) xs → flat_map f xs ≡ flat_map g xs
flat_map_same f g [] each = refl
flat_map_same f g (x ∷ xs) each =
    ap (λ ys. ys ++ flat_map f xs) (All-head (λ z. f z ≡ g z) x xs each)
    ∙ ap (λ ys. g x ++ ys) (flat_map_same f g xs (All-tail (λ z. f z ≡ g z) x xs each))

-- what holds of each element holds of the one at a place
pub All-slice_get : {X : Type 0} (P : X → Type 0) (xs : List X) (i : ℕ) → All P xs → IfSome (slice_get xs i) P
All-slice_get P [] i each = tt
All-slice_get P (x ∷ xs) zero each = All-head P x xs each
All-slice_get P (x ∷ xs) (suc i) each = All-slice_get P xs i (All-tail P x xs each)

pub slice_get-enumerate_from : {X : Type 0} (n : ℕ) (xs : List X) (k : ℕ)
    → slice_get (enumerate_from n xs) k ≡ option_map (λ x. (n + k, x)) (slice_get xs k)
slice_get-enumerate_from n [] k = refl
slice_get-enumerate_from n (x ∷ xs) zero = ap (λ i. Some (i, x)) (let e : n ≡ n + 0 = omega arith in e)
slice_get-enumerate_from n (x ∷ xs) (suc k) =
    slice_get-enumerate_from (n + 1) xs k ∙ ap (λ (i : ℕ). option_map (λ y. (i, y)) (slice_get xs k)) (omega arith)

-- what is made of an element is among what is made of all
pub mapped_Contains : {X Y : Type 0} (f : X → Y) (xs : List X) → All (λ x. Contains (map f xs) (f x)) xs
mapped_Contains f xs k d below =
    (k, omega (arith, below, length-map xs f), get_or-map f xs k d (f (get_or xs k d)) below)

pub AllPairs-unmapped : {X Y : Type 0} (R : Y → Y → Type 0) (f : X → Y) (xs : List X) → AllPairs R (map f xs)
    → AllPairs (λ a b. R (f a) (f b)) xs
AllPairs-unmapped R f xs each i j d before below =
    let at_i : get_or (map f xs) i (f d) ≡ f (get_or xs i d) = get_or-map f xs i d (f d) (omega (arith, before, below)) in
    let at_j : get_or (map f xs) j (f d) ≡ f (get_or xs j d) = get_or-map f xs j d (f d) below in
    subst (λ y. R y (f (get_or xs j d))) at_i
    (subst (R (get_or (map f xs) i (f d))) at_j (each i j (f d) before (omega (arith, below, length-map xs f))))

-- what is found passes and is there
pub find-Some : {X : Type 0} (p : X → Bool) (P : X → Type 0) (xs : List X) → All P xs → IfSome (find p xs) (λ x. P x × (p x ≡ true))
find-Some p P [] each = tt
find-Some p P (x ∷ xs) each = cond_both (p x) (Some x) (find p xs) (λ o. IfSome o (λ x. P x × (p x ≡ true)))
    (λ passes. (All-head P x xs each, passes)) (λ _. find-Some p P xs (All-tail P x xs each))

-- where nothing is found, nothing passes
pub find-None : {X : Type 0} (p : X → Bool) (xs : List X) → find p xs ≡ None → All (λ x. p x ≡ false) xs
find-None p [] none = All-nil (λ x. p x ≡ false)
find-None p (x ∷ xs) none = cond_both (p x) (Some x) (find p xs) (λ o. o ≡ None → All (λ y. p y ≡ false) (x ∷ xs))
    (λ _ is. absurd (let e : Some x ≡ None = is in cc))
    (λ fails is. All-cons (λ y. p y ≡ false) x xs fails (find-None p xs is))
    none

-- where nothing passes, nothing is found
pub None-find : {X : Type 0} (p : X → Bool) (xs : List X) → All (λ x. p x ≡ false) xs → find p xs ≡ None
None-find p [] each = refl
None-find p (x ∷ xs) each = cond_both (p x) (Some x) (find p xs) (λ o. o ≡ None)
    (λ passes. absurd (both_ways (p x) (All-head (λ y. p y ≡ false) x xs each) passes))
    (λ _. None-find p xs (All-tail (λ y. p y ≡ false) x xs each))

-- what holds of an option's value, if it has one
pub IfSome-from : {X : Type 0} (o : Option X) (P : X → Type 0) → ((x : X) → o ≡ Some x → P x) → IfSome o P
IfSome-from None P each = tt
IfSome-from (Some x) P each = each x refl

pub IfSome-at : {X : Type 0} (o : Option X) (P : X → Type 0) (x : X) → o ≡ Some x → IfSome o P → P x
IfSome-at {X = X} o P x is each = subst (λ (q : Option X). IfSome q P) is each

pub All-cons_option : {X : Type 0} (P : X → Type 0) (o : Option X) (xs : List X) → IfSome o P → All P xs → All P (cons_option o xs)
All-cons_option P None xs first rest = rest
All-cons_option P (Some x) xs first rest = All-cons P x xs first rest

pub AllPairs-cons_option : {X : Type 0} (R : X → X → Type 0) (o : Option X) (xs : List X) → IfSome o (λ x. All (R x) xs) → AllPairs R xs
    → AllPairs R (cons_option o xs)
AllPairs-cons_option R None xs first rest = rest
AllPairs-cons_option R (Some x) xs first rest = AllPairs-cons R x xs first rest

-- what is made of some elements
pub All-filter_map : {X Y : Type 0} (P : Y → Type 0) (f : X → Option Y) (xs : List X) → All (λ x. IfSome (f x) P) xs
    → All P (filter_map f xs)
All-filter_map P f [] each = All-nil P
All-filter_map P f (x ∷ xs) each = All-cons_option P (f x) (filter_map f xs) (All-head (λ z. IfSome (f z) P) x xs each)
    (All-filter_map P f xs (All-tail (λ z. IfSome (f z) P) x xs each))

pub AllPairs-filter_map : {X Y : Type 0} (R : Y → Y → Type 0) (f : X → Option Y) (xs : List X)
    → AllPairs (λ a b. IfSome (f a) (λ y. IfSome (f b) (R y))) xs → AllPairs R (filter_map f xs)
AllPairs-filter_map R f [] each = AllPairs-nil R
AllPairs-filter_map R f (x ∷ xs) each = AllPairs-cons_option R (f x) (filter_map f xs)
    (IfSome-from (f x) (λ y. All (R y) (filter_map f xs)) (λ y is. All-filter_map (R y) f xs (λ k d below.
    IfSome-at (f x) (λ z. IfSome (f (get_or xs k d)) (R z)) y is
    (AllPairs-head (λ a b. IfSome (f a) (λ z. IfSome (f b) (R z))) x xs each k d below))))
    (AllPairs-filter_map R f xs (AllPairs-tail (λ a b. IfSome (f a) (λ z. IfSome (f b) (R z))) x xs each))

pub AllPairs-mapped : {X Y : Type 0} (R : Y → Y → Type 0) (f : X → Y) (xs : List X) → AllPairs (λ a b. R (f a) (f b)) xs
    → AllPairs R (map f xs)
AllPairs-mapped R f [] each = AllPairs-nil R
AllPairs-mapped R f (x ∷ xs) each = AllPairs-cons R (f x) (map f xs)
    (All-map (R (f x)) f xs (AllPairs-head (λ a b. R (f a) (f b)) x xs each))
    (AllPairs-mapped R f xs (AllPairs-tail (λ a b. R (f a) (f b)) x xs each))

pub All-unmapped : {X Y : Type 0} (P : Y → Type 0) (f : X → Y) (xs : List X) → All P (map f xs) → All (λ x. P (f x)) xs
All-unmapped P f [] each = All-nil (λ x. P (f x))
All-unmapped P f (x ∷ xs) each =
    All-cons (λ z. P (f z)) x xs (All-head P (f x) (map f xs) each) (All-unmapped P f xs (All-tail P (f x) (map f xs) each))

-- what holds of each element and what is made of it
pub AllZip-mapped : {X Y : Type 0} (R : X → Y → Type 0) (f : ℕ × X → Y) (n : ℕ) (xs : List X) → All (λ e. R e.1 (f e)) (enumerate_from n xs)
    → AllZip R xs (map f (enumerate_from n xs))
AllZip-mapped R f n [] each = tt
AllZip-mapped R f n (x ∷ xs) each = (
  All-head (λ e. R e.1 (f e)) (n, x) (enumerate_from (n + 1) xs) each,
  AllZip-mapped R f (n + 1) xs (All-tail (λ e. R e.1 (f e)) (n, x) (enumerate_from (n + 1) xs) each),
)

-- as many items written over others
pub put_back : {X : Type 0} (n : ℕ) (xs ys : List X) → length ys ≡ n → take n (ys ++ drop (length ys) xs) ≡ ys
put_back n xs ys same = take_at ys (drop (length ys) xs) n same

Contains-flat_map_at : {X Y : Type 0} (f : X → List Y) (xs : List X) (x : X) (y : Y) (k : ℕ) → k < length xs → get_or xs k x ≡ x
    → Contains (f x) y → Contains (flat_map f xs) y
Contains-flat_map_at f [] x y k below at has = absurd (omega (arith, below))
Contains-flat_map_at f (z ∷ xs) x y zero below at has =
    Contains-append_left (f z) (flat_map f xs) y (subst (λ w. Contains (f w) y) (sym at) has)
Contains-flat_map_at f (z ∷ xs) x y (suc k) below at has =
    Contains-append_right (f z) (flat_map f xs) y (Contains-flat_map_at f xs x y k (omega (arith, below)) at has)

-- what is among what is made of one element is among what is made of all
pub Contains-enumerated : {X Y : Type 0} (f : ℕ × X → List Y) (xs : List X) (i : ℕ) (x : X) (y : Y) → slice_get xs i ≡ Some x
    → Contains (f (i, x)) y → Contains (flat_map f (enumerate_from 0 xs)) y
Contains-enumerated f xs i x y at has =
    let below : i < length xs = slice_get_within xs i x at in
    Contains-flat_map_at f (enumerate_from 0 xs) (i, x) y i (omega (arith, below, length-enumerate_from 0 xs))
    (enumerated_at xs i (i, x) below ∙ ap (λ z. (i, z)) (get_or_from_slice_get xs i x x at)) has

-- an option that isn't empty has a value
pub some_of : {X : Type 0} (o : Option X) → (o ≡ None → ⊥) → (x : X) × (o ≡ Some x)
some_of None not = absurd (not refl)
some_of (Some x) not = (x, refl)

-- what has a number is found under it
pub found_mapped : {X : Type 0} (f : X → ℕ) (xs : List X) (n : ℕ) → Contains (map f xs) n → (x : X) × (find (λ y. f y == n) xs ≡ Some x)
found_mapped f xs n has = some_of (find (λ y. f y == n) xs) (λ none.
    both_ways (n == n)
    (All-contains (λ g. (g == n) ≡ false) (map f xs) n (All-map (λ g. (g == n) ≡ false) f xs (find-None (λ y. f y == n) xs none)) has)
    (eq-eqb n n refl))

pub none_of : {X : Type 0} (o : Option X) → ((x : X) → o ≡ Some x → ⊥) → o ≡ None
none_of None not = refl
none_of (Some x) not = absurd (not x refl)

-- as many on each side, and what holds of two at one place
pub length-zipped : {X Y : Type 0} (R : X → Y → Type 0) (xs : List X) (ys : List Y) → AllZip R xs ys → length xs ≡ length ys
length-zipped R [] [] each = refl
length-zipped R [] (y ∷ ys) each = absurd each
length-zipped R (x ∷ xs) [] each = absurd each
length-zipped R (x ∷ xs) (y ∷ ys) each = omega (arith, length-zipped R xs ys each.1)

pub zipped_at : {X Y : Type 0} (R : X → Y → Type 0) (xs : List X) (ys : List Y) (i : ℕ) (d : X) (e : Y) → AllZip R xs ys → i < length xs
    → R (get_or xs i d) (get_or ys i e)
zipped_at R [] ys i d e each below = absurd (omega (arith, below))
zipped_at R (x ∷ xs) [] i d e each below = absurd each
zipped_at R (x ∷ xs) (y ∷ ys) zero d e each below = each.0
zipped_at R (x ∷ xs) (y ∷ ys) (suc i) d e each below = zipped_at R xs ys i d e each.1 (omega (arith, below))

All-left : {X : Type 0} (P : X → Type 0) (xs ys : List X) → All P (xs ++ ys) → All P xs
All-left P [] ys each = All-nil P
All-left P (x ∷ xs) ys each = All-cons P x xs (All-head P x (xs ++ ys) each) (All-left P xs ys (All-tail P x (xs ++ ys) each))

All-right : {X : Type 0} (P : X → Type 0) (xs ys : List X) → All P (xs ++ ys) → All P ys
All-right P [] ys each = each
All-right P (x ∷ xs) ys each = All-right P xs ys (All-tail P x (xs ++ ys) each)

-- what holds of all of a joined list holds of each part
pub All-flat_map_back : {X Y : Type 0} (P : Y → Type 0) (f : X → List Y) (xs : List X) → All P (flat_map f xs) → All (λ x. All P (f x)) xs
All-flat_map_back P f [] each = All-nil (λ x. All P (f x))
All-flat_map_back P f (x ∷ xs) each = All-cons (λ z. All P (f z)) x xs (All-left P (f x) (flat_map f xs) each)
    (All-flat_map_back P f xs (All-right P (f x) (flat_map f xs) each))
