-- Where exactly one element passes a test, its place is the first that passes.
use Rattle.std.proofs.Common.{◌≡◌, ℕ, zero, suc, ◌+◌, ◌<◌, ◌≤◌, Bool, true, false, cond, List, [], ◌∷◌, length, get_or, count_by, arith}
use Rattle.std.proofs.Common.{refl, ap, sym, ◌∙◌}
use Rattle.std.specs.Prelude.{find, not, Option, Some, None}
use Rattle.std.specs.List.{position_or_len}
use Rattle.std.proofs.lemmas.List.Sums.{sum_by-cons, get_or-le-sum_by}

-- one that passes, so many times
abbrev counts : {X : Type 0} → (X → Bool) → X → ℕ
counts p x = cond (p x) 1 0

none_else : {X : Type 0} (p : X → Bool) (b : Bool) (xs : List X) (i : ℕ) (d : X) (n : ℕ) → n ≡ count_by p xs → cond b 1 0 + n ≡ 1
    → i < length xs → p (get_or xs i d) ≡ true → b ≡ false
none_else p false xs i d n is one within passes = refl
none_else p true xs i d n is one within passes =
    let least : counts p (get_or xs i d) ≤ count_by p xs = get_or-le-sum_by (counts p) xs i d within in
    let here : counts p (get_or xs i d) ≡ 1 = ap {B = ℕ} (λ (b : Bool). cond b 1 0) passes in
    absurd (omega (arith, least, here, is, one))

pub only_place : {X : Type 0} (p : X → Bool) (xs : List X) (i : ℕ) (d : X) → count_by p xs ≡ 1 → i < length xs → p (get_or xs i d) ≡ true
    → position_or_len p xs ≡ i
only_place p [] i d one within passes = absurd (omega arith)
only_place p (x ∷ xs) zero d one within passes = ap {B = ℕ} (λ (b : Bool). cond (not b) (1 + position_or_len p xs) 0) passes
only_place p (x ∷ xs) (suc i) d one within passes =
    let split : cond (p x) 1 0 + count_by p xs ≡ 1 = sym (sum_by-cons (counts p) x xs) ∙ one in
    let other : p x ≡ false = none_else p (p x) xs i d (count_by p xs) refl split (omega arith) passes in
    let rest : count_by p xs ≡ 1 = omega (arith, split, ap {B = ℕ} (λ (b : Bool). cond b 1 0) other) in
    let place : position_or_len p xs ≡ i = only_place p xs i d rest (omega arith) passes in
    ap {B = ℕ} (λ (b : Bool). cond (not b) (1 + position_or_len p xs) 0) other ∙ omega (arith, place)

first_there : {X : Type 0} (p : X → Bool) (b : Bool) (xs : List X) (n : ℕ) → cond b 1 0 + n ≡ 1 → (n ≡ 1 → position_or_len p xs < length xs)
    → cond (not b) (1 + position_or_len p xs) 0 < suc (length xs)
first_there p true xs n one rest = omega arith
first_there p false xs n one rest = omega (arith, rest (omega arith))

pub place_there : {X : Type 0} (p : X → Bool) (xs : List X) → count_by p xs ≡ 1 → position_or_len p xs < length xs
place_there p [] one = absurd (omega arith)
place_there p (x ∷ xs) one = first_there p (p x) xs (count_by p xs) (sym (sum_by-cons (counts p) x xs) ∙ one) (place_there p xs)

none_first : {X : Type 0} (p : X → Bool) (b : Bool) (xs : List X) → b ≡ false → length xs ≡ position_or_len p xs
    → suc (length xs) ≡ cond (not b) (1 + position_or_len p xs) 0
none_first p true xs fails rest = absurd (cc)
none_first p false xs fails rest = omega (arith, rest)

-- where none passes, the first place is the length
pub no_place : {X : Type 0} (p : X → Bool) (xs : List X) → ((k : ℕ) (d : X) → k < length xs → p (get_or xs k d) ≡ false)
    → length xs ≡ position_or_len p xs
no_place p [] none = refl
no_place p (x ∷ xs) none = none_first p (p x) xs (none 0 x (omega arith)) (no_place p xs (λ k d below. none (suc k) d (omega arith)))

failed : {X : Type 0} (b : Bool) (x : X) (o : Option X) → cond (not b) (Some x) o ≡ None → (b ≡ true) × (o ≡ None)
failed true x o h = (refl, h)
failed false x o h = absurd (cc)

-- where none is found that fails, each passes
pub each_passes : {X : Type 0} (p : X → Bool) (xs : List X) (i : ℕ) (d : X) → find (λ x. not (p x)) xs ≡ None → i < length xs
    → p (get_or xs i d) ≡ true
each_passes p [] i d none within = absurd (omega arith)
each_passes p (x ∷ xs) zero d none within = (failed (p x) x _ none).0
each_passes p (x ∷ xs) (suc i) d none within = each_passes p xs i d (failed (p x) x _ none).1 (omega arith)
