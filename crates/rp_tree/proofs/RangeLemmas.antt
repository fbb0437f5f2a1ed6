-- Parts of parts, and searches over ranges.
use Rattle.std.proofs.Common.{◌≡◌, ℕ, zero, suc, ◌+◌, ◌-◌, ◌<◌, ◌≤◌, Bool, true, false, List, ◌++◌, Some, None, take, drop, refl, ◌∙◌, ap, arith}
use Rattle.std.specs.Prelude.{find, option_map, if◌then◌else◌}
use Rattle.std.specs.Option.{option_or}
use Rattle.std.specs.List.{range_with_len}
use Rattle.std.proofs.lemmas.List.{drop-drop, drop-take, take-take}
use Rattle.std.proofs.lemmas.List.Folds.{find-append}
use Rattle.rp_base.specs.Image.{bytes_at}

-- a part of a part
pub part-part : (bytes : List ℕ) (at count inner size : ℕ) → inner + size ≤ count
    → bytes_at (bytes_at bytes at count) inner size ≡ bytes_at bytes (at + inner) size
part-part bytes at count inner size fits =
    let outer : at + count - at ≡ count = omega arith in
    let part : inner + size - inner ≡ size = omega arith in
    let whole : at + inner + size - (at + inner) ≡ size = omega arith in
    let left : count ≡ inner + (count - inner) = omega arith in
    rw (outer, part, whole)
    (ap (take size) (ap (λ (n : ℕ). drop inner (take n (drop at bytes))) left ∙ drop-take inner (count - inner) (drop at bytes))
    ∙ take-take size (count - inner) (drop inner (drop at bytes)) (omega arith)
    ∙ ap (take size) (drop-drop inner at bytes))

-- the front of a part
pub part-front : (bytes : List ℕ) (at count : ℕ) → at + count ≤ 4096 → bytes_at (take 4096 bytes) at count ≡ bytes_at bytes at count
part-front bytes at count fits =
    let part : at + count - at ≡ count = omega arith in
    let left : 4096 ≡ at + (4096 - at) = omega arith in
    rw part
    (ap (take count) (ap (λ (n : ℕ). drop at (take n bytes)) left ∙ drop-take at (4096 - at) bytes)
    ∙ take-take count (4096 - at) (drop at bytes) (omega arith))

-- numbers one behind another
pub range-append : (a m n : ℕ) → range_with_len a (m + n) ≡ range_with_len a m ++ range_with_len (a + m) n
range-append a zero n =
    let e : zero + n ≡ n = omega arith in
    let f : a + zero ≡ a = omega arith in
    rw (e, f) refl
range-append a (suc m) n =
    let e : suc m + n ≡ suc (m + n) = omega arith in
    let f : a + suc m ≡ a + 1 + m = omega arith in
    rw (e, f, range-append (a + 1) m n) refl

-- a search over more numbers
pub find-ranges : (p : ℕ → Bool) (m n : ℕ) → find p (range_with_len 0 (m + n)) ≡ option_or (find p (range_with_len 0 m)) (find p (range_with_len m n))
find-ranges p m n =
    let start : 0 + m ≡ m = omega arith in
    ap (find p) (rw start at (range-append 0 m n)) ∙ find-append p (range_with_len 0 m) (range_with_len m n)

pub find-shifted : (p : ℕ → Bool) (a n from : ℕ) → find p (range_with_len (a + from) n) ≡ option_map (λ k. a + k) (find (λ k. p (a + k)) (range_with_len from n))
find-shifted p a zero from = refl
find-shifted p a (suc n) from =
    let next : a + from + 1 ≡ a + (from + 1) = omega arith in
    step (p (a + from)) refl (rw next (find-shifted p a n (from + 1))) where
      step : (t : Bool) → p (a + from) ≡ t
          → find p (range_with_len (a + from + 1) n) ≡ option_map (λ k. a + k) (find (λ k. p (a + k)) (range_with_len (from + 1) n))
          → find p (range_with_len (a + from) (suc n)) ≡ option_map (λ k. a + k) (find (λ k. p (a + k)) (range_with_len from (suc n)))
      step true is rest = rw is refl
      step false is rest = rw is rest

-- one number more
pub find-one_more : (p : ℕ → Bool) (n : ℕ) → find p (range_with_len 0 (n + 1)) ≡ option_or (find p (range_with_len 0 n)) (if p n then Some n else None)
find-one_more p n = find-ranges p n 1

-- two tests that agree below an end find the same
pub find-same : (p q : ℕ → Bool) (a n : ℕ) → ((k : ℕ) → a ≤ k → k < a + n → p k ≡ q k) → find p (range_with_len a n) ≡ find q (range_with_len a n)
find-same p q a zero same = refl
find-same p q a (suc n) same =
    let here : p a ≡ q a = same a (omega arith) (omega arith) in
    let rest : find p (range_with_len (a + 1) n) ≡ find q (range_with_len (a + 1) n) =
    find-same p q (a + 1) n (λ k low high. same k (omega arith) (omega arith)) in
    rw (here, rest) refl

-- the first number that passes, of more numbers
pub find-longer : (p : ℕ → Bool) (m n k : ℕ) → m ≤ n → find p (range_with_len 0 m) ≡ Some k → find p (range_with_len 0 n) ≡ Some k
find-longer p m n k less found =
    let all : n ≡ m + (n - m) = omega arith in
    rw all (find-ranges p m (n - m) ∙ rw found refl)

-- the first numbers fail, and the next ones are those of a part
pub find-part : (p : ℕ → Bool) (a n : ℕ) → find p (range_with_len 0 a) ≡ None
    → find p (range_with_len 0 (a + n)) ≡ option_map (λ k. a + k) (find (λ k. p (a + k)) (range_with_len 0 n))
find-part p a n none =
    let start : a + 0 ≡ a = omega arith in
    find-ranges p a n ∙ rw none (rw start at (find-shifted p a n 0))

pub find-none_more : (p : ℕ → Bool) (n : ℕ) → find p (range_with_len 0 n) ≡ None → p n ≡ false → find p (range_with_len 0 (n + 1)) ≡ None
find-none_more p n none fails = find-one_more p n ∙ rw (none, fails) refl

pub find-first : (p : ℕ → Bool) (k n : ℕ) → k < n → find p (range_with_len 0 k) ≡ None → p k ≡ true → find p (range_with_len 0 n) ≡ Some k
find-first p k n below none passes =
    find-longer p (k + 1) n k (omega arith) (find-one_more p k ∙ rw (none, passes) refl)
