-- A grain to the item whose grain is next.
use Rattle.std.proofs.Common.{ℕ, ◌≡◌, ◌≢◌, ◌<◌, ◌≤◌, ◌+◌, List, None, length, set, sum, slice_index, sym, subst, ◌∙◌, arith, inl, inr, length-set, get_or-set_same, get_or-set_other}
use Rattle.std.proofs.lemmas.Bool.{cases_eq}
use Rattle.std.proofs.lemmas.List.Sums.{sum_by-set}
use Rattle.rp_share.specs.declared.item.Item.{Item}
use Rattle.rp_share.specs.Share.{IsAbove, IsBelow, IsFair, IsFull, ComesBefore, item_at}
use Rattle.rp_share.specs.Due.{HasNext, IsNext}

-- where no item can take a grain, each with weight has its maximum
pub full_of_none : (items : List Item) (shares : List ℕ) → IsFair items shares → IsNext items shares (length items) None
    → IsFull items shares
full_of_none items shares fair none i place weighs =
    elim (cases_eq (slice_index shares i) (item_at items i).max) [
      | inl same ↦ same
      | inr differs ↦ absurd (none i place (record { place = place; weighs = weighs; below = omega (arith, fair.most i place) }))
    ]

module _ (items : List Item) (shares : List ℕ) (next : ℕ) (fair : IsFair items shares) (due : HasNext items shares (length items) next)
  where
    -- the shares after the grain
    abbrev pub given : List ℕ
    given = set shares next (slice_index shares next + 1)

    given_same : slice_index given next ≡ slice_index shares next + 1
    given_same = get_or-set_same shares next _ 0 (omega (arith, due.takes.place, fair.one_each))

    given_other : (i : ℕ) → i ≢ next → slice_index given i ≡ slice_index shares i
    given_other i apart = get_or-set_other shares next i _ 0 apart

    pub sum_given : sum given ≡ sum shares + 1
    sum_given = omega (arith, sum_by-set (λ x. x) shares next (slice_index shares next + 1) 0 (omega (arith, due.takes.place, fair.one_each)))

    -- the order of the item that had the grain and another, of another and that one, and of two others
    turn_first : (j : ℕ) → next ≢ j → IsBelow items given j → ComesBefore items next (slice_index given next) j (slice_index given j + 1)
    turn_first j apart below =
        let other : slice_index given j ≡ slice_index shares j = given_other j (λ e. apart (sym e)) in
        rw (given_same, other) (due.first j below.place apart (record {
          place = below.place;
          weighs = below.weighs;
          below = omega
              (arith, below.below, other);
        }))

    turn_second : (i : ℕ) → i ≢ next → IsAbove items given i → ComesBefore items i (slice_index given i) next (slice_index given next + 1)
    turn_second i apart above =
        let other : slice_index given i ≡ slice_index shares i = given_other i apart in
        let before = fair.in_turn i next apart (record {
          place = above.place;
          weighs = above.weighs;
          above = omega
              (arith, above.above, other);
        }) due.takes in
        let weighs = above.weighs in
        rw (given_same, other) (record { fewer = omega (arith, before.fewer); tie = λ e. omega (arith, before.fewer) })

    turn_others : (i j : ℕ) → i ≢ j → i ≢ next → j ≢ next → IsAbove items given i → IsBelow items given j
        → ComesBefore items i (slice_index given i) j (slice_index given j + 1)
    turn_others i j apart first second above below =
        let other : slice_index given i ≡ slice_index shares i = given_other i first in
        let another : slice_index given j ≡ slice_index shares j = given_other j second in
        rw (other, another) (fair.in_turn i j apart
        (record { place = above.place; weighs = above.weighs; above = omega (arith, above.above, other) })
        (record { place = below.place; weighs = below.weighs; below = omega (arith, below.below, another) }))

    in_turn : (i j : ℕ) → i ≢ j → IsAbove items given i → IsBelow items given j
        → ComesBefore items i (slice_index given i) j (slice_index given j + 1)
    in_turn i j =
        let First : ℕ → Type 0 = λ i. i ≢ j → IsAbove items given i → IsBelow items given j
        → ComesBefore items i (slice_index given i) j (slice_index given j + 1) in
        let Second : ℕ → Type 0 = λ j. i ≢ j → IsAbove items given i → IsBelow items given j
        → ComesBefore items i (slice_index given i) j (slice_index given j + 1) in
        elim (cases_eq i next) [
          | inl first ↦ subst First (sym first) (λ apart _ below. turn_first j apart below)
          | inr first ↦ elim (cases_eq j next) [
            | inl second ↦ subst Second (sym second) (λ apart above _. turn_second i apart above)
            | inr second ↦ λ apart above below. turn_others i j apart first second above below
          ]
        ]

    -- a fact of each item's share holds after the grain, if it holds of the share that grew
    at_each : (P : ℕ → ℕ → Type 0) → P next (slice_index shares next + 1) → ((i : ℕ) → i < length items → P i (slice_index shares i))
        → (i : ℕ) → i < length items → P i (slice_index given i)
    at_each P at_next at_all i place =
        elim (cases_eq i next) [
          | inl same ↦ subst (λ (k : ℕ). P k (slice_index given k)) (sym same) (subst (P next) (sym given_same) at_next)
          | inr apart ↦ subst (P i) (sym (given_other i apart)) (at_all i place)
        ]

    pub fair_of_given : IsFair items given
    fair_of_given = record {
      one_each = length-set shares next _ ∙ fair.one_each;
      least = at_each (λ i x. (item_at items i).min ≤ x) (omega (arith, fair.least next due.takes.place)) fair.least;
      most = at_each (λ i x. x ≤ (item_at items i).max) (omega (arith, due.takes.below)) fair.most;
      idle = at_each (λ i x. (item_at items i).weight ≡ 0 → x ≡ (item_at items i).min) (λ none. absurd (omega (arith, due.takes.weighs)))
          fair.idle;
      in_turn = in_turn;
    }
