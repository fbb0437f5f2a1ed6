-- Lists made place by place, and what is found in them.
use Rattle.std.proofs.Common.{◌≡◌, ◌∙◌, ℕ, zero, suc, ◌+◌, ◌<◌, Bool, true, false, cond, List, [], ◌∷◌, length, map, Option, Some, None, All, arith, refl, ap, sym, subst, slice_get}
use Rattle.std.specs.Prelude.{count_by, find}
use Rattle.std.specs.List.{cons_option, enumerate_from, filter, filter_map}
use Rattle.std.proofs.lemmas.List.Elements.{All-head, All-tail}
use Rattle.std.proofs.lemmas.List.Sums.{sum_by-cons}

-- what leaves each item of a list with places as it is
pub map_same_items : {X : Type 0} (f : ℕ × X → X) (n : ℕ) (xs : List X)
    → ((k m : ℕ) (x : X) → m ≡ n + k → slice_get xs k ≡ Some x → f (m, x) ≡ x) → map f (enumerate_from n xs) ≡ xs
map_same_items f n [] same = refl
map_same_items f n (x ∷ xs) same =
    ap (λ y. y ∷ map f (enumerate_from (n + 1) xs)) (same 0 n x (omega arith) refl)
    ∙ ap (λ ys. x ∷ ys) (map_same_items f (n + 1) xs (λ k m y e at. same (suc k) m y (omega (arith, e)) at))

-- none passes
none_passes_step : {X : Type 0} (b : Bool) (x : X) (xs : List X) → b ≡ false → xs ≡ [] → cond b (x ∷ xs) xs ≡ []
none_passes_step true x xs lacks is = absurd (cc)
none_passes_step false x xs lacks is = is

pub none_passes : {X : Type 0} (p : ℕ × X → Bool) (n : ℕ) (xs : List X)
    → ((k m : ℕ) (x : X) → m ≡ n + k → slice_get xs k ≡ Some x → p (m, x) ≡ false) → filter p (enumerate_from n xs) ≡ []
none_passes p n [] lacks = refl
none_passes p n (x ∷ xs) lacks = none_passes_step (p (n, x)) (n, x) (filter p (enumerate_from (n + 1) xs)) (lacks 0 n x (omega arith) refl)
    (none_passes p (n + 1) xs (λ k m y e at. lacks (suc k) m y (omega (arith, e)) at))

-- none has an answer
no_answer_step : {Y : Type 0} (o : Option Y) (ys : List Y) → o ≡ None → ys ≡ [] → cons_option o ys ≡ []
no_answer_step None ys lacks is = is
no_answer_step (Some y) ys lacks is = absurd (cc)

pub no_answers : {X Y : Type 0} (f : ℕ × X → Option Y) (n : ℕ) (xs : List X)
    → ((k m : ℕ) (x : X) → m ≡ n + k → slice_get xs k ≡ Some x → f (m, x) ≡ None) → filter_map f (enumerate_from n xs) ≡ []
no_answers f n [] lacks = refl
no_answers f n (x ∷ xs) lacks = no_answer_step (f (n, x)) (filter_map f (enumerate_from (n + 1) xs)) (lacks 0 n x (omega arith) refl)
    (no_answers f (n + 1) xs (λ k m y e at. lacks (suc k) m y (omega (arith, e)) at))

-- so none has, where there are no answers
answer_step : {Y : Type 0} (o : Option Y) (ys : List Y) → cons_option o ys ≡ [] → (o ≡ None) × (ys ≡ [])
answer_step None ys is = (refl, is)
answer_step (Some y) ys is = absurd (cc)

pub none_answered : {X Y : Type 0} (f : ℕ × X → Option Y) (n : ℕ) (xs : List X) → filter_map f (enumerate_from n xs) ≡ []
    → (k m : ℕ) (x : X) → m ≡ n + k → slice_get xs k ≡ Some x → f (m, x) ≡ None
none_answered f n [] is k m x e at = absurd (cc)
none_answered f n (y ∷ ys) is zero m x e at =
    let same : y ≡ x = cc in
    let place : m ≡ n = omega (arith, e) in
    ap (λ p. f (p, x)) place ∙ ap (λ z. f (n, z)) (sym same)
    ∙ (answer_step (f (n, y)) (filter_map f (enumerate_from (n + 1) ys)) is).0
none_answered f n (y ∷ ys) is (suc k) m x e at =
    none_answered f (n + 1) ys (answer_step (f (n, y)) (filter_map f (enumerate_from (n + 1) ys)) is).1 k m x (omega (arith, e)) at

-- what holds of all holds of what is found, and it passes
found_step : {X : Type 0} (P : X → Type 0) (p : X → Bool) (b : Bool) (x y : X) (rest : Option X) → p x ≡ b → P x
    → (rest ≡ Some y → P y × (p y ≡ true)) → cond b (Some x) rest ≡ Some y → P y × (p y ≡ true)
found_step P p true x y rest test holds more is =
    let same : x ≡ y = cc in (subst P same holds, subst (λ z. p z ≡ true) same test)
found_step P p false x y rest test holds more is = more is

pub found_holds : {X : Type 0} (P : X → Type 0) (p : X → Bool) (xs : List X) (y : X) → All P xs → find p xs ≡ Some y → P y × (p y ≡ true)
found_holds P p [] y all is = absurd (cc)
found_holds P p (x ∷ xs) y all is =
    found_step P p (p x) x y (find p xs) refl (All-head P x xs all) (found_holds P p xs y (All-tail P x xs all)) is

-- the item at a place, with its place, through a function
pub item_at_place : {X Y : Type 0} (f : ℕ × X → Y) (n : ℕ) (xs : List X) (k m : ℕ) (y : Y) → m ≡ n + k
    → slice_get (map f (enumerate_from n xs)) k ≡ Some y → (x : X) × (slice_get xs k ≡ Some x) × (f (m, x) ≡ y)
item_at_place f n [] k m y e at = absurd (cc)
item_at_place f n (x ∷ xs) zero m y e at =
    let place : m ≡ n = omega (arith, e) in
    let same : f (n, x) ≡ y = cc in (x, refl, ap (λ p. f (p, x)) place ∙ same)
item_at_place f n (x ∷ xs) (suc k) m y e at = item_at_place f (n + 1) xs k m y (omega (arith, e)) at

-- how many pass, with one more in front
pub count_step : {X : Type 0} (p : X → Bool) (x : X) (xs : List X) → count_by p (x ∷ xs) ≡ cond (p x) 1 0 + count_by p xs
count_step p x xs = sum_by-cons (λ y. cond (p y) 1 0) x xs

-- there is an item at each place below the length
pub no_past : {X : Type 0} (xs : List X) (k : ℕ) → k < length xs → slice_get xs k ≡ None → ⊥
no_past [] k below e = omega (arith, below)
no_past (x ∷ xs) zero below e = absurd (cc)
no_past (x ∷ xs) (suc k) below e = no_past xs k (omega (arith, below)) e
