-- Rows share a unit exactly where their spans, by rising first unit, aren't chained.
use Rattle.std.proofs.Common.{◌≡◌, ℕ, ◌+◌, ◌<◌, ◌≤◌, suc, Bool, true, false, cond, List, [], ◌∷◌, length, map, max, Option, Some, None, All, AllPairs, drop, refl, sym, ap, ◌∙◌, inl, inr, arith}
use Rattle.std.specs.Prelude.{◌&&◌, not, IsTrue, IsSome, nat_lt, nat_le, find, sum_by}
use Rattle.std.specs.List.Sorted.{IsPermutation, IsNonDecreasingBy}
use Rattle.std.specs.List.{refill}
use Rattle.std.proofs.Math.Seq.{take-append_seam}
use Rattle.std.proofs.lemmas.Bool.{ltb-true, ltb-false, leb-true, leb-false}
use Rattle.std.proofs.lemmas.Bool.Decides.{nat_tests}
use Rattle.std.proofs.lemmas.List.Sums.{sum_by-cons}
use Rattle.std.proofs.lemmas.List.Sorted.{All-permutation, sum_by-IsPermutation}
use Rattle.std.proofs.lemmas.List.Elements.{All-nil, All-cons}
use Rattle.rp_base.specs.declared.table.Row.{Row}
use Rattle.rp_base.specs.Table.{AreApart}
use Rattle.rp_gpt.specs.Shown.{share_unit, overlap}
use Rattle.rp_gpt.proofs.InPlace.{all_apart}
use Rattle.rp_table.specs.Spans.{IsChained, IsSpan, span_of}

-- how many units of a span are this one: one, or none
abbrev covers : ℕ → ℕ × ℕ → ℕ
covers x span = cond (nat_le span.0 x && nat_lt x span.1) 1 0

-- how many spans have this unit
abbrev covered : ℕ → List (ℕ × ℕ) → ℕ
covered x spans = sum_by (covers x) spans

covered-cons : (x : ℕ) (span : ℕ × ℕ) (spans : List (ℕ × ℕ)) → covered x (span ∷ spans) ≡ covers x span + covered x spans
covered-cons x span spans = sum_by-cons (covers x) span spans

covers_in : (x : ℕ) (span : ℕ × ℕ) → span.0 ≤ x → x < span.1 → covers x span ≡ 1
covers_in x span low high = grind (arith, nat_tests)

covers_below : (x : ℕ) (span : ℕ × ℕ) → x < span.0 → covers x span ≡ 0
covers_below x span low = grind (arith, nat_tests)

covers_above : (x : ℕ) (span : ℕ × ℕ) → span.1 ≤ x → covers x span ≡ 0
covers_above x span high = grind (arith, nat_tests)

covers_most : (x : ℕ) (span : ℕ × ℕ) → covers x span ≤ 1
covers_most x span = grind (arith, nat_tests)

-- spans have units
abbrev AllSized : List (ℕ × ℕ) → Type 0
AllSized [] = Unit {0}
AllSized (span ∷ spans) = (span.0 < span.1) × AllSized spans

all_sized : (spans : List (ℕ × ℕ)) → All (λ (span : ℕ × ℕ). span.0 < span.1) spans → AllSized spans
all_sized [] all = tt
all_sized (span ∷ spans) all = (all 0 span (omega arith), all_sized spans (λ k d inside. all (suc k) d (omega arith)))

-- each unit is in one span at most, and none before the first that they may begin at
abbrev IsApartFrom : ℕ → List (ℕ × ℕ) → Type 0
IsApartFrom low spans = (x : ℕ) → (covered x spans ≤ 1) × (x < low → covered x spans ≡ 0)

apart_chained : (low : ℕ) (spans : List (ℕ × ℕ)) → AllSized spans → IsChained low spans → IsApartFrom low spans
apart_chained low [] sized chained = λ x. (omega arith, λ below. refl)
apart_chained low (span ∷ spans) sized chained = λ x.
    let later = apart_chained span.1 spans sized.1 chained.1 x in
    (by_end x later (nat_lt x span.1) refl, λ under. none_below x later under) where
      none_below : (x : ℕ) → (covered x spans ≤ 1) × (x < span.1 → covered x spans ≡ 0) → x < low → covered x (span ∷ spans) ≡ 0
      none_below x later under =
          let step = covered-cons x span spans in
          let here = covers_below x span (omega (arith, under, chained.0)) in
          let none = later.1 (omega (arith, under, chained.0, sized.0)) in
          omega (arith, step, here, none)

      by_end : (x : ℕ) → (covered x spans ≤ 1) × (x < span.1 → covered x spans ≡ 0) → (b : Bool) → nat_lt x span.1 ≡ b → covered x (span ∷ spans) ≤ 1
      by_end x later true is =
          let step = covered-cons x span spans in
          let most = covers_most x span in
          let none = later.1 (ltb-true x span.1 is) in
          omega (arith, step, most, none)
      by_end x later false is =
          let step = covered-cons x span spans in
          let here = covers_above x span (ltb-false x span.1 is) in
          omega (arith, step, here, later.0)

-- two rows that share a unit have the greater of their starts
shared_at : (a b : Row) → a.start < a.start + a.size → b.start < b.start + b.size → share_unit a b ≡ true
    → (covers (max a.start b.start) (span_of a) ≡ 1) × (covers (max a.start b.start) (span_of b) ≡ 1)
shared_at a b a_sized b_sized is =
    let under : a.start < b.start + b.size = grind (arith, nat_tests, is) in
    let over : b.start < a.start + a.size = grind (arith, nat_tests, is) in
    (covers_in (max a.start b.start) (span_of a) (omega arith) (omega arith), covers_in (max a.start b.start) (span_of b) (omega arith) (omega arith))

none_found : (row : Row) (rows : List Row) → row.start < row.start + row.size → AllSized (map span_of rows) → ((x : ℕ) → covers x (span_of row) + covered x (map span_of rows) ≤ 1)
    → find (share_unit row) rows ≡ None
none_found row [] here sized most = refl
none_found row (y ∷ ys) here sized most =
    by_test (share_unit row y) refl (none_found row ys here sized.1 (λ x. let step = covered-cons x (span_of y) (map span_of ys) in omega (arith, most x, step))) where
      by_test : (b : Bool) → share_unit row y ≡ b → find (share_unit row) ys ≡ None → cond b (Some y) (find (share_unit row) ys) ≡ None
      by_test true is rest =
          let both = shared_at row y here sized.0 is in
          let step = covered-cons (max row.start y.start) (span_of y) (map span_of ys) in
          absurd (omega (arith, both.0, both.1, step, most (max row.start y.start)))
      by_test false is rest = rest

none_share : (rows : List Row) → AllSized (map span_of rows) → ((x : ℕ) → covered x (map span_of rows) ≤ 1) → overlap rows ≡ None
unfolding overlap
none_share [] sized most = refl
none_share (row ∷ rows) sized most =
    let found : find (share_unit row) rows ≡ None = none_found row rows sized.0 sized.1 (λ x. let step = covered-cons x (span_of row) (map span_of rows) in omega (arith, most x, step)) in
    rw found (none_share rows sized.1 (λ x. let step = covered-cons x (span_of row) (map span_of rows) in omega (arith, most x, step)))

-- a unit of a row is in no row apart from it
apart_covered : (row : Row) (rows : List Row) (x : ℕ) → row.start ≤ x → x < row.start + row.size → All (AreApart row) rows → covered x (map span_of rows) ≡ 0
apart_covered row [] x low high apart = refl
apart_covered row (y ∷ ys) x low high apart =
    let rest = apart_covered row ys x low high (λ k d inside. apart (suc k) d (omega arith)) in
    let step = covered-cons x (span_of y) (map span_of ys) in
    let here = outside (apart 0 y (omega arith)) in
    omega (arith, rest, step, here) where
      outside : AreApart row y → covers x (span_of y) ≡ 0
      outside (inl before) = covers_below x (span_of y) (omega arith)
      outside (inr behind) = covers_above x (span_of y) (omega arith)

pairs_covered : (rows : List Row) (x : ℕ) → AllPairs AreApart rows → covered x (map span_of rows) ≤ 1
pairs_covered [] x apart = omega arith
pairs_covered (row ∷ rows) x apart =
    by_start (pairs_covered rows x (λ i j d before inside. apart (suc i) (suc j) d (omega arith) (omega arith))) (nat_le row.start x) refl (nat_lt x (row.start + row.size)) refl where
      by_start : covered x (map span_of rows) ≤ 1 → (b : Bool) → nat_le row.start x ≡ b → (c : Bool) → nat_lt x (row.start + row.size) ≡ c → covered x (map span_of (row ∷ rows)) ≤ 1
      by_start rest false b_is c c_is =
          let step = covered-cons x (span_of row) (map span_of rows) in let here = covers_below x (span_of row) (leb-false row.start x b_is) in omega (arith, rest, step, here)
      by_start rest true b_is false c_is =
          let step = covered-cons x (span_of row) (map span_of rows) in let here = covers_above x (span_of row) (ltb-false x (row.start + row.size) c_is) in omega (arith, rest, step, here)
      by_start rest true b_is true c_is =
          let step = covered-cons x (span_of row) (map span_of rows) in let most = covers_most x (span_of row) in
          let none = apart_covered row rows x (leb-true row.start x b_is) (ltb-true x (row.start + row.size) c_is) (λ k d inside. apart 0 (suc k) d (omega arith) (omega arith)) in omega (arith, none, step, most)

-- rising spans that have no unit twice are chained
chained_behind : (span : ℕ × ℕ) (spans : List (ℕ × ℕ)) → AllSized (span ∷ spans) → IsNonDecreasingBy (λ (s : ℕ × ℕ). s.0) (span ∷ spans) → ((x : ℕ) → covered x (span ∷ spans) ≤ 1) → IsChained span.1 spans
chained_behind span [] sized rising most = tt
chained_behind span (next ∷ rest) sized rising most = (
  behind (nat_lt next.0 span.1) refl,
  chained_behind next rest sized.1 (λ i j d le inside. rising (suc i) (suc j) d (omega arith) (omega arith)) (λ x. let step = covered-cons x span (next ∷ rest) in omega (arith, most x, step)),
) where
  behind : (b : Bool) → nat_lt next.0 span.1 ≡ b → span.1 ≤ next.0
  behind false is = ltb-false next.0 span.1 is
  behind true is =
      let first : span.0 ≤ next.0 = rising 0 1 span (omega arith) (omega arith) in
      let one = covers_in next.0 span first (ltb-true next.0 span.1 is) in
      let other = covers_in next.0 next (omega arith) sized.1.0 in
      let step = covered-cons next.0 span (next ∷ rest) in
      let again = covered-cons next.0 next rest in
      absurd (omega (arith, one, other, step, again, most next.0))

chained : (spans : List (ℕ × ℕ)) → AllSized spans → IsNonDecreasingBy (λ (s : ℕ × ℕ). s.0) spans → ((x : ℕ) → covered x spans ≤ 1) → IsChained 0 spans
chained [] sized rising most = tt
chained (span ∷ spans) sized rising most = (omega arith, chained_behind span spans sized rising most)

spans_sized : (rows : List Row) → All IsSpan rows → All (λ (span : ℕ × ℕ). span.0 < span.1) (map span_of rows)
spans_sized [] all = All-nil _
spans_sized (row ∷ rows) all =
    All-cons (λ (span : ℕ × ℕ). span.0 < span.1) (span_of row) (map span_of rows) (let size = (all 0 row (omega arith)).size in omega (arith, size)) (spans_sized rows (λ k d inside. all (suc k) d (omega arith)))

module _ (rows : List Row) (spans : List (ℕ × ℕ)) (all : All IsSpan rows) (same : IsPermutation (map span_of rows) spans) where
  sorted_sized : AllSized spans
  sorted_sized = all_sized spans (All-permutation (λ (span : ℕ × ℕ). span.0 < span.1) (map span_of rows) spans same (spans_sized rows all))

  covered_same : (x : ℕ) → covered x spans ≡ covered x (map span_of rows)
  covered_same x = sum_by-IsPermutation (covers x) (map span_of rows) spans same

  pub chained-none : IsChained 0 spans → overlap rows ≡ None
  chained-none chain =
      none_share rows (all_sized (map span_of rows) (spans_sized rows all)) (λ x. let one = apart_chained 0 spans sorted_sized chain x in let e = covered_same x in omega (arith, one.0, e))

  pub none-chained : IsNonDecreasingBy (λ (s : ℕ × ℕ). s.0) spans → overlap rows ≡ None → IsChained 0 spans
  none-chained rising none = chained spans sorted_sized rising (λ x. let one = pairs_covered rows x (all_apart rows none) in let e = covered_same x in omega (arith, one, e))

-- an answer that is the other way round
pub other_way : {X : Type 0} (r : Bool) (o : Option X) (C : Type 0) → (IsTrue r → C) → (C → IsTrue r) → (C → o ≡ None) → (o ≡ None → C) → (IsTrue (not r) → IsSome o) × (IsSome o → IsTrue (not r))
other_way true None C gives given none some = (λ h. cc, λ h. cc)
other_way true (Some x) C gives given none some = let e = none (gives refl) in (λ h. cc, λ h. cc)
other_way false None C gives given none some = let e = given (some refl) in (λ h. cc, λ h. cc)
other_way false (Some x) C gives given none some = (λ h. refl, λ h. refl)

-- a slice written whole
pub refilled : {X : Type 0} (xs ws : List X) → length ws ≡ length xs → refill (length xs) xs ws ≡ ws
refilled xs ws same = ap (λ n. refill n xs ws) (sym same) ∙ take-append_seam ws (drop (length ws) xs)
