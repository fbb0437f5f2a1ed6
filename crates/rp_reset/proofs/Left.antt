-- The rows that stay are the others of the table, in their order.
use Rattle.std.proofs.Common.{◌≡◌, ◌≢◌, ◌∙◌, ℕ, zero, suc, ◌+◌, ◌<◌, Bool, true, false, cond, List, [], ◌∷◌, length, Option, Some, None, All, AllPairs, arith, ap, sym, subst, slice_get}
use Rattle.std.specs.Prelude.{Contains, filter_map}
use Rattle.std.specs.List.{cons_option, enumerate_from}
use Rattle.std.proofs.lemmas.List.Elements.{All-cons, All-contains_itself, All-head, All-nil, All-tail}
use Rattle.std.proofs.lemmas.List.Kept.{AllPairs-cons}
use Rattle.std.proofs.lemmas.Option.{get_or_from_slice_get, slice_get_within}
use Rattle.rp_base.specs.declared.table.Row.{Row}

-- a row, given with its place, where that isn't one of those that are left out
abbrev pub left_by : (ℕ → Bool) → (ℕ × Row) → Option Row
left_by out e = cond (out e.0) None (Some e.1)

abbrev pub left_from : (ℕ → Bool) → ℕ → List Row → List Row
left_from out n rows = filter_map (left_by out) (enumerate_from n rows)

-- what holds of each row holds of each that stays
pub all_left : (P : Row → Type 0) (out : ℕ → Bool) (n : ℕ) (rows : List Row) → All P rows → All P (left_from out n rows)
all_left P out n [] all = All-nil P
all_left P out n (row ∷ rows) all = by (out n) (all_left P out (n + 1) rows (All-tail P row rows all)) where
  by : (b : Bool) → All P (left_from out (n + 1) rows) → All P (cons_option (cond b None (Some row)) (left_from out (n + 1) rows))
  by true rest = rest
  by false rest = All-cons P row (left_from out (n + 1) rows) (All-head P row rows all) rest

-- what holds of two rows in their order holds of two that stay
pub pairs_left : (R : Row → Row → Type 0) (out : ℕ → Bool) (n : ℕ) (rows : List Row) → AllPairs R rows → AllPairs R (left_from out n rows)
pairs_left R out n [] pairs = λ i j d before below. absurd (omega (arith, below))
pairs_left R out n (row ∷ rows) pairs = by (out n) (pairs_left R out (n + 1) rows
    (λ i j d before below. pairs (suc i) (suc j) d (omega (arith, before)) (omega (arith, below)))) where
      firsts : All (R row) rows
      firsts k d below = pairs 0 (suc k) d (omega arith) (omega (arith, below))

      by : (b : Bool) → AllPairs R (left_from out (n + 1) rows)
          → AllPairs R (cons_option (cond b None (Some row)) (left_from out (n + 1) rows))
      by true rest = rest
      by false rest = AllPairs-cons R row (left_from out (n + 1) rows) (all_left (R row) out (n + 1) rows firsts) rest

-- each is one of the table's
pub left_are_old : (out : ℕ → Bool) (rows : List Row) → All (Contains rows) (left_from out 0 rows)
left_are_old out rows = all_left (Contains rows) out 0 rows (All-contains_itself rows)

-- a row behind another is there
behind : (first row : Row) (rows : List Row) → Contains rows row → Contains (first ∷ rows) row
behind first row rows has = (suc has.0, omega (arith, has.1), has.2)

-- a row whose place isn't left out is there
pub stays : (out : ℕ → Bool) (n : ℕ) (rows : List Row) (place : ℕ) (row : Row) → slice_get rows place ≡ Some row → out (n + place) ≡ false
    → Contains (left_from out n rows) row
stays out n [] place row at in' = absurd (cc)
stays out n (first ∷ rows) zero row at in' =
    let same : first ≡ row = cc in
    let here : out n ≡ false = ap out (omega arith) ∙ in' in
    subst (λ b. Contains (cons_option (cond b None (Some first)) (left_from out (n + 1) rows)) row) (sym here) (0, omega arith, same)
stays out n (first ∷ rows) (suc place) row at in' = by (out n) (stays out (n + 1) rows place row at (ap out (omega arith) ∙ in')) where
  by : (b : Bool) → Contains (left_from out (n + 1) rows) row
      → Contains (cons_option (cond b None (Some first)) (left_from out (n + 1) rows)) row
  by true rest = rest
  by false rest = behind first row (left_from out (n + 1) rows) rest

-- where the slots rise, none has the slot of a row whose place is left out
pub gone : (out : ℕ → Bool) (n : ℕ) (rows : List Row) (place : ℕ) (row : Row) → AllPairs (λ (a b : Row). a.slot < b.slot) rows
    → slice_get rows place ≡ Some row → out (n + place) ≡ true → All (λ (left : Row). left.slot ≢ row.slot) (left_from out n rows)
gone out n [] place row rising at is_out = absurd (cc)
gone out n (first ∷ rows) zero row rising at is_out =
    let same : first ≡ row = cc in
    let here : out n ≡ true = ap out (omega arith) ∙ is_out in
    subst (λ b. All (λ (left : Row). left.slot ≢ row.slot) (cons_option (cond b None (Some first)) (left_from out (n + 1) rows))) (sym here)
    (all_left (λ left. left.slot ≢ row.slot) out (n + 1) rows
    (λ k d below e. let more = rising 0 (suc k) d (omega arith) (omega (arith, below)) in
    omega (arith, more, e, ap (λ (r : Row). r.slot) same)))
gone out n (first ∷ rows) (suc place) row rising at is_out = by (out n) (gone out (n + 1) rows place row
    (λ i j d before below. rising (suc i) (suc j) d (omega (arith, before)) (omega (arith, below))) at (ap out (omega arith) ∙ is_out)) where
      earlier : first.slot ≢ row.slot
      earlier e =
          let below : place < length rows = slice_get_within rows place row at in
          let more = rising 0 (suc place) first (omega arith) (omega (arith, below)) in
          omega (arith, more, e, ap (λ (r : Row). r.slot) (get_or_from_slice_get rows place row first at))

      by : (b : Bool) → All (λ (left : Row). left.slot ≢ row.slot) (left_from out (n + 1) rows)
          → All (λ (left : Row). left.slot ≢ row.slot) (cons_option (cond b None (Some first)) (left_from out (n + 1) rows))
      by true rest = rest
      by false rest = All-cons (λ (left : Row). left.slot ≢ row.slot) first (left_from out (n + 1) rows) earlier rest
