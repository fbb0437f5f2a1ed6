-- Two shares of a span are the same.
use Rattle.std.proofs.Common.{ℕ, suc, ◌≡◌, ◌≢◌, ◌<◌, ◌≤◌, ◌+◌, ◌*◌, List, [], ◌∷◌, length, set, sum, slice_index, sym, subst, ◌∙◌, arith, inl, inr, length-set, get_or-set_same, get_or-set_other}
use Rattle.std.proofs.lemmas.Bool.{cases_eq, cases_lt}
use Rattle.std.proofs.lemmas.List.{ext_get_or}
use Rattle.std.proofs.lemmas.List.Sums.{sum_by-cons, sum_by-set}
use Rattle.std.proofs.Math.Nat.{mul-le-mul_right}
use Rattle.rp_share.specs.declared.item.Item.{Item}
use Rattle.rp_share.specs.Share.{IsFair, IsFull, IsShare, OneShare, ComesBefore, item_at}

-- larger numbers have a larger sum
sum_le : (x y : List ℕ) → length x ≡ length y → ((k : ℕ) → k < length x → slice_index x k ≤ slice_index y k) → sum x ≤ sum y
sum_le [] y same each = omega arith
sum_le (x ∷ xs) [] same each = absurd (omega arith)
sum_le (x ∷ xs) (y ∷ ys) same each =
    omega (
      arith,
      sum_by-cons (λ (n : ℕ). n) x xs,
      sum_by-cons (λ (n : ℕ). n) y ys,
      each 0 (omega arith),
      sum_le xs ys (omega arith)
          (λ k below. each (suc k) (omega arith)),
    )

-- and one that is larger makes it larger
sum_lt : (x y : List ℕ) (i : ℕ) → length x ≡ length y → i < length x → slice_index x i < slice_index y i
    → ((k : ℕ) → k < length x → slice_index x k ≤ slice_index y k) → sum x < sum y
sum_lt x y i same place more each =
    let raised = set x i (slice_index y i) in
    let at_each : (k : ℕ) → k < length raised → slice_index raised k ≤ slice_index y k =
    λ k below. elim (cases_eq k i) [
      | inl here ↦ rw (here, get_or-set_same x i (slice_index y i) 0 place) (omega arith)
      | inr apart ↦ rw (get_or-set_other x i k (slice_index y i) 0 apart) (each k (omega (arith, below, length-set x i (slice_index y i))))
    ] in
    omega (arith, sum_by-set (λ (n : ℕ). n) x i (slice_index y i) 0 place, sum_le raised y (length-set x i _ ∙ same) at_each)

module _ (items : List Item) (x y : List ℕ) (fair_x : IsFair items x) (fair_y : IsFair items y) where
  -- an item with another share in x than in y has weight
  weighs : (i : ℕ) → i < length items → slice_index x i ≢ slice_index y i → 0 < (item_at items i).weight
  weighs i place differs =
      elim (cases_eq (item_at items i).weight 0) [
        | inl none ↦ absurd (differs (fair_x.idle i place none ∙ sym (fair_y.idle i place none)))
        | inr some ↦ omega arith
      ]

  -- no item has more in y than in x, if one has less
  no_exchange : (i j : ℕ) → i < length items → j < length items → slice_index y i < slice_index x i → slice_index y j ≤ slice_index x j
  no_exchange i j at_i at_j more =
      elim (cases_lt (slice_index x j) (slice_index y j)) [
        | inr enough ↦ enough
        | inl less ↦
            let apart : i ≢ j = λ same. (let P : ℕ → Type 0 = λ k. slice_index y k < slice_index x k in let here : slice_index y
            j < slice_index x j = subst P same more in omega arith) in
            let weighs_i : 0 < (item_at items i).weight = weighs i at_i (λ e. omega arith) in
            let weighs_j : 0 < (item_at items j).weight = weighs j at_j (λ e. omega arith) in
            let first : ComesBefore items i (slice_index x i) j (slice_index x j + 1) =
            fair_x.in_turn i j apart
            (record { place = at_i; weighs = weighs_i; above = omega (arith, fair_y.least i at_i) })
            (record { place = at_j; weighs = weighs_j; below = omega (arith, fair_y.most j at_j) }) in
            let second : ComesBefore items j (slice_index y j) i (slice_index y i + 1) =
            fair_y.in_turn j i (λ same. apart (sym same))
            (record { place = at_j; weighs = weighs_j; above = omega (arith, fair_x.least j at_j) })
            (record { place = at_i; weighs = weighs_i; below = omega (arith, fair_x.most i at_i) }) in
            let one : (slice_index y i + 1) * (item_at items j).weight ≤ slice_index x i * (item_at items j).weight = mul-le-mul_right
            (item_at items j).weight (omega arith) in
            let other : (slice_index x j + 1) * (item_at items i).weight ≤ slice_index y j * (item_at items i).weight = mul-le-mul_right
            (item_at items i).weight (omega arith) in
            let i_first : i < j = first.tie (omega (arith, first.fewer, second.fewer)) in
            let j_first : j < i = second.tie (omega (arith, first.fewer, second.fewer)) in
            absurd (omega arith)
      ]

  -- no item has more in x, if y has no less in all
  no_more : sum x ≤ sum y → (i : ℕ) → i < length items → slice_index x i ≤ slice_index y i
  no_more total i place =
      elim (cases_lt (slice_index y i) (slice_index x i)) [
        | inr enough ↦ enough
        | inl more ↦ absurd (omega (
          arith,
          sum_lt y x i (fair_y.one_each ∙ sym fair_x.one_each) (omega (arith, fair_y.one_each)) more
              (λ k below. no_exchange i k place (omega (arith, fair_y.one_each)) more),
        ))
      ]

  -- shares where each item with weight has its maximum are the greatest
  full_is_most : IsFull items y → sum x ≤ sum y
  full_is_most full =
      sum_le x y (fair_x.one_each ∙ sym fair_y.one_each) (λ k below.
      let place : k < length items = omega (arith, fair_x.one_each) in
      elim (cases_eq (item_at items k).weight 0) [
        | inl none ↦ omega (arith, fair_x.idle k place none, fair_y.idle k place none)
        | inr some ↦ omega (arith, fair_x.most k place, full k place (omega arith))
      ])

-- no share has less in all than another
no_less : (span : ℕ) (items : List Item) (x y : List ℕ) → IsShare span items x → IsShare span items y → sum x ≤ sum y
no_less span items x y share_x share_y =
    elim share_y.whole [
      | inr filled ↦ full_is_most items x y share_x.fair share_y.fair filled.1
      | inl spent ↦ elim share_x.whole [ inl same ↦ omega arith | inr filled ↦ let less : sum x < span = filled.0 in omega arith ]
    ]

pub one_share : (span : ℕ) (items : List Item) → OneShare span items
one_share span items x y share_x share_y =
    ext_get_or 0 x y (share_x.fair.one_each ∙ sym share_y.fair.one_each) (λ i below.
    let place : i < length items = omega (arith, share_x.fair.one_each) in
    let most : slice_index x i ≤ slice_index y i = no_more items x y share_x.fair share_y.fair (no_less span items x y share_x share_y) i
    place in
    let least : slice_index y i ≤ slice_index x i = no_more items y x share_y.fair share_x.fair (no_less span items y x share_y share_x)
    i place in
    omega arith)
