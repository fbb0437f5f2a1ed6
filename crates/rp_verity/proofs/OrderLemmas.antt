-- Each block of the tree is in the order of puts once.
use Rattle.std.proofs.Common.{◌≡◌, ◌≢◌, ℕ, zero, suc, ◌+◌, ◌-◌, ◌*◌, ◌/◌, ◌%◌, ◌<◌, ◌≤◌, ◌==◌, List, [], ◌∷◌, ◌++◌, cond, inl, inr, refl, ◌∙◌, ap, arith, append-nil, zero-add}
use Rattle.std.specs.Prelude.{sum_by, count_by, All}
use Rattle.std.specs.List.{flat_map, range_with_len}
use Rattle.std.proofs.lemmas.Bool.{ne_eqb}
use Rattle.std.proofs.lemmas.Bool.Decides.{eqb_tells}
use Rattle.std.proofs.lemmas.Grind.{flat_map-append}
use Rattle.std.proofs.lemmas.List.Elements.{All-append, All-nil}
use Rattle.std.proofs.lemmas.List.Sums.{sum_by-append, sum_by-cons}
use Rattle.rp_verity.specs.Tree.{runs}
use Rattle.rp_verity.specs.Order.{blocks_over, full_with, last_blocks, left_over, order_over, place_of}
use Rattle.rp_verity.proofs.TreeLemmas.{full_with-inside, left_over-inside}

-- how often a number is in a list
unfoldable pub count : ℕ → List ℕ → ℕ
count i xs = sum_by (λ each. cond (each == i) 1 0) xs

count-append : (i : ℕ) (xs ys : List ℕ) → count i (xs ++ ys) ≡ count i xs + count i ys
unfolding count
count-append i xs ys = sum_by-append (λ each. cond (each == i) 1 0) xs ys

count-cons : (i x : ℕ) (xs : List ℕ) → count i (x ∷ xs) ≡ count i (x ∷ []) + count i xs
count-cons i x xs = count-append i (x ∷ []) xs

count-none : (i : ℕ) → count i [] ≡ 0
unfolding count
count-none i = refl

-- numbers one behind another
range-more : (a n : ℕ) → range_with_len a (n + 1) ≡ range_with_len a n ++ (a + n) ∷ []
range-more a zero = ap (λ (k : ℕ). k ∷ []) (omega arith)
range-more a (suc n) =
    let e : suc n + 1 ≡ suc (n + 1) = omega arith in
    let last : a + 1 + n ≡ a + suc n = omega arith in
    rw (e, range-more (a + 1) n, last) refl

count-more : (i a n : ℕ) → count i (range_with_len a (n + 1)) ≡ count i (range_with_len a n) + count i ((a + n) ∷ [])
count-more i a n = rw (range-more a n) (count-append i (range_with_len a n) ((a + n) ∷ []))

count-range : (i a m k : ℕ) → count i (range_with_len a (m + k)) ≡ count i (range_with_len a m) + count i (range_with_len (a + m) k)
count-range i a zero k =
    let e : zero + k ≡ k = omega arith in
    let f : a + zero ≡ a = omega arith in
    rw (e, f) (omega (arith, count-none i))
count-range i a (suc m) k =
    let e : suc m + k ≡ suc (m + k) = omega arith in
    let f : a + suc m ≡ a + 1 + m = omega arith in
    let rest : count i (range_with_len (a + 1) (m + k)) ≡ count i (range_with_len (a + 1) m) + count i (range_with_len (a + 1 + m) k) =
    count-range i (a + 1) m k in
    rw (e, f) (omega (arith, count-cons i a (range_with_len (a + 1) (m + k)), count-cons i a (range_with_len (a + 1) m), rest))

-- the places of a range are in it once
count-outside : (i a n : ℕ) → i < a → count i (range_with_len a n) ≡ 0
unfolding count
count-outside i a zero below = refl
count-outside i a (suc n) below =
    let other : a ≢ i = omega arith in
    sum_by-cons (λ each. cond (each == i) 1 0) a (range_with_len (a + 1) n) ∙ rw (ne_eqb a i other) (zero-add (count i (range_with_len (a + 1) n)) ∙ count-outside i (a + 1) n (omega arith))

pub count-inside : (i a n : ℕ) → a ≤ i → i < a + n → count i (range_with_len a n) ≡ 1
unfolding count
count-inside i a zero low high = absurd (omega arith)
count-inside i a (suc n) low high =
    elim (eqb_tells a i) [
      | inl w ↦
          let past : i < a + 1 = omega (arith, w.1) in
          sum_by-cons (λ each. cond (each == i) 1 0) a (range_with_len (a + 1) n)
          ∙ rw (w.0, count-outside i (a + 1) n past) refl
      | inr w ↦
          let other : a ≢ i = w.1 in
          sum_by-cons (λ each. cond (each == i) 1 0) a (range_with_len (a + 1) n)
          ∙ rw w.0 (zero-add (count i (range_with_len (a + 1) n)) ∙ count-inside i (a + 1) n (omega arith) (omega arith))
    ]

-- the blocks that are full with the first so many digests
unfoldable filled_by : ℕ → ℕ → ℕ → List ℕ
filled_by n digests m = flat_map (full_with n digests) (range_with_len 1 m)

filled_by-more : (n digests m : ℕ) → filled_by n digests (m + 1) ≡ filled_by n digests m ++ full_with n digests (m + 1)
unfolding filled_by
filled_by-more n digests m =
    let e : 1 + m ≡ m + 1 = omega arith in
    rw (range-more 1 m, e) (flat_map-append (full_with n digests) (range_with_len 1 m) ((m + 1) ∷ [])
    ∙ ap (λ (rest : List ℕ). flat_map (full_with n digests) (range_with_len 1 m) ++ rest) (append-nil (full_with n digests (m + 1))))

filled_by-none : (n digests : ℕ) → filled_by n digests 0 ≡ []
unfolding filled_by
filled_by-none n digests = refl

filled-count : (i n digests m : ℕ) → count i (filled_by n digests (m + 1)) ≡ count i (filled_by n digests m) + count i (full_with n digests (m + 1))
filled-count i n digests m = rw (filled_by-more n digests m) (count-append i (filled_by n digests m) (full_with n digests (m + 1)))

filled_by-zero : (digests m : ℕ) → filled_by 0 digests m ≡ []
filled_by-zero digests zero = filled_by-none 0 digests
filled_by-zero digests (suc m) =
    let e : suc m ≡ m + 1 = omega arith in
    rw (e, filled_by-more 0 digests m, filled_by-zero digests m) (unfold full_with in refl)

-- a digest that ends no run fills no block, and one that does fills its block and what is full with that above
full_with-short : (n digests reached : ℕ) → reached % 128 ≢ 0 → full_with (suc n) digests reached ≡ []
unfolding full_with
full_with-short n digests reached short = rw (ne_eqb (reached % 128) 0 short) refl

full_with-full : (n digests reached q : ℕ) → reached ≡ 128 * (q + 1)
    → full_with (suc n) digests reached ≡ (blocks_over n (runs digests) + q) ∷ full_with n (runs digests) (q + 1)
unfolding full_with
full_with-full n digests reached q full =
    let whole : reached % 128 ≡ 0 = omega arith in
    let count : runs reached ≡ q + 1 = omega arith in
    let place : place_of n digests reached ≡ blocks_over n (runs digests) + q = omega arith in
    rw (whole, place, count) refl

-- the blocks of the lowest level that are full are so many, and those above are full with these
grouped : (i n digests m : ℕ)
    → count i (filled_by (suc n) digests m)
    ≡ count i (range_with_len (blocks_over n (runs digests)) (m / 128)) + count i (filled_by n (runs digests) (m / 128))
grouped i n digests zero =
    let e : zero / 128 ≡ 0 = omega arith in
    rw (e, filled_by-none (suc n) digests, filled_by-none n (runs digests)) (omega (arith, count-none i))
grouped i n digests (suc m) =
    let next : suc m ≡ m + 1 = omega arith in
    let q : ℕ = m / 128 in
    let above : ℕ = blocks_over n (runs digests) in
    let so_far : count i (filled_by (suc n) digests m) ≡ count i (range_with_len above q) + count i (filled_by n (runs digests) q) =
    grouped i n digests m in
    let step : count i (filled_by (suc n) digests (m + 1)) ≡ count i (filled_by (suc n) digests m) + count i (full_with (suc n) digests (m + 1)) =
    filled-count i (suc n) digests m in
    elim (eqb_tells ((m + 1) % 128) 0) [
      | inl w ↦
          let whole : (m + 1) % 128 ≡ 0 = w.1 in
          let reached : m + 1 ≡ 128 * (q + 1) = omega arith in
          let more : (m + 1) / 128 ≡ q + 1 = omega arith in
          let put : count i (full_with (suc n) digests (m + 1)) ≡ count i ((above + q) ∷ full_with n (runs digests) (q + 1)) =
          ap (count i) (full_with-full n digests (m + 1) q reached) in
          let split : count i ((above + q) ∷ full_with n (runs digests) (q + 1)) ≡ count i ((above + q) ∷ []) + count i (full_with n (runs digests) (q + 1)) =
          count-cons i (above + q) (full_with n (runs digests) (q + 1)) in
          let here : count i (range_with_len above (q + 1)) ≡ count i (range_with_len above q) + count i ((above + q) ∷ []) = count-more i above q in
          let up : count i (filled_by n (runs digests) (q + 1)) ≡ count i (filled_by n (runs digests) q) + count i (full_with n (runs digests) (q + 1)) =
          filled-count i n (runs digests) q in
          rw (next, more) (omega arith)
      | inr w ↦
          let short : (m + 1) % 128 ≢ 0 = w.1 in
          let same : (m + 1) / 128 ≡ q = omega arith in
          let put : count i (full_with (suc n) digests (m + 1)) ≡ 0 = ap (count i) (full_with-short n digests (m + 1) short) ∙ count-none i in
          rw (next, same) (omega arith)
    ]

-- all but the last block of each level are full, and then the last ones are put
last_counted : (i n digests : ℕ) → 1 ≤ digests
    → count i (filled_by n digests (digests - 1)) + count i (last_blocks n digests) ≡ count i (range_with_len 0 (blocks_over n digests))
unfolding last_blocks blocks_over
last_counted i zero digests some = rw (filled_by-zero digests (digests - 1)) (omega (arith, count-none i))
last_counted i (suc n) digests some =
    let up : ℕ = runs digests in
    let above : ℕ = blocks_over n up in
    let q : ℕ = up - 1 in
    let below : (digests - 1) / 128 ≡ q = omega arith in
    let full : count i (filled_by (suc n) digests (digests - 1)) ≡ count i (range_with_len above q) + count i (filled_by n up q) =
    rw below at (grouped i n digests (digests - 1)) in
    let place : place_of n digests digests ≡ above + q = omega arith in
    let put : count i (place_of n digests digests ∷ last_blocks n up) ≡ count i ((above + q) ∷ []) + count i (last_blocks n up) =
    ap (λ (k : ℕ). count i (k ∷ last_blocks n up)) place ∙ count-cons i (above + q) (last_blocks n up) in
    let size : q + 1 ≡ up = omega arith in
    let here : count i (range_with_len above up) ≡ count i (range_with_len above q) + count i ((above + q) ∷ []) =
    rw size at (count-more i above q) in
    let higher : count i (filled_by n up q) + count i (last_blocks n up) ≡ count i (range_with_len 0 above) = last_counted i n up (omega arith) in
    let start : 0 + above ≡ above = omega arith in
    let whole : count i (range_with_len 0 (above + up)) ≡ count i (range_with_len 0 above) + count i (range_with_len above up) =
    rw start at (count-range i 0 above up) in
    omega (arith, full, put, here, higher, whole)

order_counted : (i n digests : ℕ) → count i (order_over n digests) ≡ count i (filled_by n digests digests) + count i (left_over n digests)
unfolding order_over filled_by
order_counted i n digests = count-append i (flat_map (full_with n digests) (range_with_len 1 digests)) (left_over n digests)

left_over-full : (n digests : ℕ) → digests % 128 ≡ 0 → left_over (suc n) digests ≡ left_over n (runs digests)
unfolding left_over
left_over-full n digests full = rw full refl

left_over-part : (n digests : ℕ) → digests % 128 ≢ 0 → left_over (suc n) digests ≡ place_of n digests digests ∷ last_blocks n (runs digests)
unfolding left_over last_blocks
left_over-part n digests short = rw (ne_eqb (digests % 128) 0 short) refl

-- the blocks of all levels, each once
pub all_counted : (i n digests : ℕ) → 1 ≤ digests → count i (order_over n digests) ≡ count i (range_with_len 0 (blocks_over n digests))
unfolding left_over blocks_over
all_counted i zero digests some = rw (order_counted i zero digests, filled_by-zero digests digests) (omega (arith, count-none i))
all_counted i (suc n) digests some =
    let up : ℕ = runs digests in
    let above : ℕ = blocks_over n up in
    let full : count i (filled_by (suc n) digests digests) ≡ count i (range_with_len above (digests / 128)) + count i (filled_by n up (digests / 128)) =
    grouped i n digests digests in
    let whole : count i (range_with_len 0 (above + up)) ≡ count i (range_with_len 0 above) + count i (range_with_len (0 + above) up) =
    count-range i 0 above up in
    let start : 0 + above ≡ above = omega arith in
    let level : count i (range_with_len 0 (above + up)) ≡ count i (range_with_len 0 above) + count i (range_with_len above up) = rw start at whole in
    let parts : count i (order_over (suc n) digests) ≡ count i (filled_by (suc n) digests digests) + count i (left_over (suc n) digests) =
    order_counted i (suc n) digests in
    elim (eqb_tells (digests % 128) 0) [
      | inl w ↦
          let same : digests / 128 ≡ up = omega (arith, w.1) in
          let rest : count i (left_over (suc n) digests) ≡ count i (left_over n up) = ap (count i) (left_over-full n digests w.1) in
          let higher : count i (order_over n up) ≡ count i (range_with_len 0 above) = all_counted i n up (omega arith) in
          let both : count i (order_over n up) ≡ count i (filled_by n up up) + count i (left_over n up) = order_counted i n up in
          parts ∙ (omega (arith, rw same at full))
      | inr w ↦
          let short : digests % 128 ≢ 0 = w.1 in
          let q : ℕ = digests / 128 in
          let size : up ≡ q + 1 = omega arith in
          let before : up - 1 ≡ q = omega arith in
          let place : place_of n digests digests ≡ above + q = omega arith in
          let rest : count i (left_over (suc n) digests) ≡ count i ((above + q) ∷ last_blocks n up) =
          ap (count i) (left_over-part n digests short) ∙ ap (λ (k : ℕ). count i (k ∷ last_blocks n up)) place in
          let split : count i ((above + q) ∷ last_blocks n up) ≡ count i ((above + q) ∷ []) + count i (last_blocks n up) =
          count-cons i (above + q) (last_blocks n up) in
          let here : count i (range_with_len above (q + 1)) ≡ count i (range_with_len above q) + count i ((above + q) ∷ []) = count-more i above q in
          let higher : count i (filled_by n up q) + count i (last_blocks n up) ≡ count i (range_with_len 0 above) =
          rw before at (last_counted i n up (omega arith)) in
          parts ∙ (omega (arith, rw (← size) at here))
    ]

-- a place of the tree is in the order once
pub put_once : (i n digests : ℕ) → 1 ≤ digests → i < blocks_over n digests → count_by (λ each. each == i) (order_over n digests) ≡ 1
unfolding count
put_once i n digests some below = all_counted i n digests some ∙ count-inside i 0 (blocks_over n digests) (omega arith) (omega arith)

-- each place in the order is one of the tree
filled-inside : (n digests a m : ℕ) → 1 ≤ a → a + m ≤ digests + 1
    → All (λ place. place < blocks_over n digests) (flat_map (full_with n digests) (range_with_len a m))
filled-inside n digests a zero some few = All-nil (λ place. place < blocks_over n digests)
filled-inside n digests a (suc m) some few =
    All-append (λ place. place < blocks_over n digests) (full_with n digests a) (flat_map (full_with n digests) (range_with_len (a + 1) m))
    (full_with-inside n digests a some (omega arith)) (filled-inside n digests (a + 1) m (omega arith) (omega arith))

pub order-inside : (n digests : ℕ) → 1 ≤ digests → All (λ place. place < blocks_over n digests) (order_over n digests)
unfolding order_over
order-inside n digests some =
    All-append (λ place. place < blocks_over n digests) (flat_map (full_with n digests) (range_with_len 1 digests)) (left_over n digests)
    (filled-inside n digests 1 digests (omega arith) (omega arith)) (left_over-inside n digests some)
