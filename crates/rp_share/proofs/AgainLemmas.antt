-- A part of the items that shares anew what it has, gets what it has.
use Rattle.std.proofs.Common.{ℕ, zero, suc, ◌≡◌, ◌≢◌, ◌<◌, ◌≤◌, ◌+◌, ◌-◌, ◌⊎◌, List, [], ◌∷◌, length, take, drop, sum, sum_by, slice_index, refl, sym, subst, ap, arith, inl, inr, max}
use Rattle.std.specs.List.{All}
use Rattle.std.proofs.lemmas.List.{drop_all}
use Rattle.std.proofs.lemmas.List.Elements.{All-cons, All-nil}
use Rattle.std.proofs.lemmas.List.Sums.{sum_by-take-drop, sum_by-drop_more, sum_by-cons}
use Rattle.rp_share.specs.declared.item.Item.{Item}
use Rattle.rp_share.specs.Again.{IsAgain, IsPart, IsSpanAt, asked}
use Rattle.rp_share.specs.Share.{IsAbove, IsBelow, IsFair, IsFull, IsShare, ComesBefore, item_at}
use Rattle.rp_share.specs.Value.{shares_of}
use Rattle.rp_share.proofs.ValueLemmas.{value_of_share}

module _ (items : List Item) (shares : List ℕ) (fair : IsFair items shares) (at : ℕ) (again : List Item) (part : List ℕ)
    (is : IsPart items shares at again part) where
  place : (k : ℕ) → k < length again → at + k < length items
  place k below = omega (arith, is.within)

  -- an item above its least in the part is so among all, and one below its maximum too
  above : (i : ℕ) → IsAbove again part i → IsAbove items shares (at + i)
  above i more =
      let item = is.item i more.place in
      record {
        place = place i more.place;
        weighs = omega (arith, more.weighs, item.weight);
        above = omega
            (arith, more.above, item.more, is.share i more.place);
      }

  below : (j : ℕ) → IsBelow again part j → IsBelow items shares (at + j)
  below j less =
      let item = is.item j less.place in
      let weighs : 0 < (item_at items (at + j)).weight = omega (arith, less.weighs, item.weight) in
      record {
        place = place j less.place;
        weighs = weighs;
        below = omega
            (arith, less.below, item.same_most weighs, is.share j less.place);
      }

  in_turn : (i j : ℕ) → i ≢ j → IsAbove again part i → IsBelow again part j
      → ComesBefore again i (slice_index part i) j (slice_index part j + 1)
  in_turn i j apart more less =
      let first = is.item i more.place in
      let second = is.item j less.place in
      let before = fair.in_turn (at + i) (at + j) (λ same. apart (omega (arith, same))) (above i more) (below j less) in
      let xi : slice_index part i ≡ slice_index shares (at + i) = is.share i more.place in
      let xj : slice_index part j ≡ slice_index shares (at + j) = is.share j less.place in
      let wi : (item_at again i).weight ≡ (item_at items (at + i)).weight = first.weight in
      let wj : (item_at again j).weight ≡ (item_at items (at + j)).weight = second.weight in
      record {
        fewer = rw (xi, xj, wi, wj) before.fewer;
        tie = rw (xi, xj, wi, wj) (λ e. omega (arith, before.tie e));
      }

  idle : (k : ℕ) → k < length again → (item_at again k).weight ≡ 0 → slice_index part k ≡ (item_at again k).min
  idle k small none =
      let item = is.item k small in
      let nothing : (item_at items (at + k)).weight ≡ 0 = omega (arith, item.weight, none) in
      omega (arith, fair.idle (at + k) (place k small) nothing, is.share k small, item.more, item.least)

  pub fair_part : IsFair again part
  fair_part = record {
    one_each = is.one_each;
    least = λ k small. let item = is.item k small in item.least;
    most = λ k small. let item = is.item k small in item.most;
    idle = idle;
    in_turn = in_turn;
  }

  pub full_part : IsFull items shares → IsFull again part
  full_part full k small weighs =
      let item = is.item k small in
      let some : 0 < (item_at items (at + k)).weight = omega (arith, weighs, item.weight) in
      omega (arith, full (at + k) (place k small) some, item.same_most some, is.share k small)

  -- over what the part has, or more where each item with weight has its maximum, it has its share
  pub share_part : (span : ℕ) → (sum part ≡ span) ⊎ ((sum part < span) × IsFull items shares) → IsShare span again part
  share_part span whole = record {
    fair = fair_part;
    whole = elim whole [ inl spent ↦ inl spent | inr filled ↦ inr (filled.0, full_part filled.1) ];
  }

-- a size and its padding
abbrev pub pair : List Item → ℕ → Item → List Item
pair items at size = size ∷ item_at items (at + 1) ∷ []

abbrev pub shares_at : List ℕ → ℕ → List ℕ
shares_at shares at = slice_index shares at ∷ slice_index shares (at + 1) ∷ []

-- an item that stays as it is
same_again : (items : List Item) (shares : List ℕ) → IsFair items shares → (i : ℕ) → i < length items
    → IsAgain (item_at items i) (slice_index shares i) (item_at items i)
same_again items shares fair i place = record {
  more = omega arith;
  least = fair.least i place;
  most = fair.most i place;
  weight = refl;
  same_most = λ _. refl;
}

module _ (span : ℕ) (items : List Item) (shares : List ℕ) (share : IsShare span items shares) (at : ℕ) (fits : at + 2 ≤ length items)
    (size : Item) (is : IsAgain (item_at items at) (slice_index shares at) size) (mine : ℕ) (spans : IsSpanAt span items shares at mine)
  where
    padding : IsAgain (item_at items (at + 1)) (slice_index shares (at + 1)) (item_at items (at + 1))
    padding = same_again items shares share.fair (at + 1) (omega (arith, fits))

    part : IsPart items shares at (pair items at size) (shares_at shares at)
    part = record {
      one_each = refl;
      within = omega (arith, fits);
      share = λ k below. (elim k as (λ k. k < 2 → slice_index (shares_at shares at) k ≡ slice_index shares (at + k)) [
        | zero ↦ λ _. ap (slice_index shares) (omega arith)
        | suc j ↦ elim j as (λ j. suc j < 2 → slice_index (shares_at shares at) (suc j) ≡ slice_index shares (at + suc j)) [
          | zero ↦ λ _. refl
          | suc m ↦ λ small. absurd (omega arith)
        ]
      ]) below;
      item = λ k below. (elim k as (λ k. k < 2 → IsAgain (item_at items (at + k)) (slice_index (shares_at shares at) k)
          (item_at (pair items at size) k)) [
            | zero ↦ λ _. subst (λ (i : ℕ). IsAgain (item_at items i) (slice_index shares at) size) (omega arith) is
            | suc j ↦ elim j as (λ j. suc j < 2 → IsAgain (item_at items (at + suc j)) (slice_index (shares_at shares at) (suc j))
                (item_at (pair items at size) (suc j))) [
                  | zero ↦ λ _. padding
                  | suc m ↦ λ small. absurd (omega arith)
                ]
          ]) below;
    }

    -- what all have is what those before have, what the two have, and what those behind have
    sum_split : sum shares ≡ sum (take at shares) + (slice_index shares at + (slice_index shares (at + 1) + sum (drop (at + 1 + 1) shares)))
    sum_split =
        let place : at < length shares = omega (arith, share.fair.one_each, fits) in
        let next : at + 1 < length shares = omega (arith, share.fair.one_each, fits) in
        omega (
          arith,
          sum_by-take-drop (λ (n : ℕ). n) shares at,
          sum_by-drop_more (λ (n : ℕ). n) shares at 0 place,
          sum_by-drop_more
              (λ (n : ℕ). n) shares (at + 1) 0 next,
        )

    whole : (sum (shares_at shares at) ≡ mine) ⊎ ((sum (shares_at shares at) < mine) × IsFull items shares)
    whole = elim spans [
      | inl own ↦ inl (omega (arith, own))
      | inr last ↦
          let none : sum (drop (at + 1 + 1) shares) ≡ 0 = ap sum (drop_all (at + 1 + 1) shares
          (omega (arith, last.0, share.fair.one_each))) in
          elim share.whole [
            | inl spent ↦ inl (omega (arith, spent, last.1, sum_split, none))
            | inr filled ↦ inr (omega (arith, filled.0, last.1, sum_split, none), filled.1)
          ]
    ]

    -- the two have what they have, shared anew over what they have together, or, behind the last two, over all that those before them leave
    pub share_again : IsShare mine (pair items at size) (shares_at shares at)
    share_again = share_part items shares share.fair at (pair items at size) (shares_at shares at) part mine whole

    -- what all have is at most the span
    most_is_span : sum shares ≤ span
    most_is_span = elim share.whole [ inl spent ↦ omega (arith, spent) | inr filled ↦ omega (arith, filled.0) ]

    -- their minima fit
    pub minima_again : sum_by (λ item. item.min) (pair items at size) ≤ mine
    minima_again =
        let pad = padding in
        elim spans [
          | inl own ↦ omega (arith, own, is.least, pad.least)
          | inr last ↦ omega (arith, last.1, sum_split, is.least, pad.least, most_is_span)
        ]

    limits_again : All (λ item. item.min ≤ item.max) (pair items at size)
    limits_again =
        let pad = padding in
        All-cons (λ (item : Item). item.min ≤ item.max) size (item_at items (at + 1) ∷ []) (omega (arith, is.least, is.most))
        (All-cons (λ (item : Item). item.min ≤ item.max) (item_at items (at + 1)) [] (omega (arith, pad.least, pad.most))
        (All-nil (λ (item : Item). item.min ≤ item.max)))

    -- so that is what sharing gives
    pub shares_again : shares_of mine (pair items at size) ≡ shares_at shares at
    shares_again = sym (value_of_share (pair items at size) limits_again mine minima_again (shares_at shares at) share_again)

-- of a row that was there and could grow
pub again_of_row : (has least most weight share : ℕ) → least ≤ most → max has least ≤ share → share ≤ max has most
    → IsAgain (asked has least most weight) share (asked share least most weight)
again_of_row has least most weight share limits more fits = record {
  more = omega arith;
  least = omega arith;
  most = omega arith;
  weight = refl;
  same_most = λ _. omega arith;
}

-- of a new one, which asked for a minimum of its own that may be above the definition's
pub again_of_new : (own least most weight share : ℕ) → least ≤ own → own ≤ share → share ≤ most
    → IsAgain (record { min = own; max = most; weight = weight }) share (asked share least most weight)
again_of_new own least most weight share limits more fits = record {
  more = omega arith;
  least = omega arith;
  most = omega arith;
  weight = refl;
  same_most = λ _. omega arith;
}

-- of a new one of an exact size, whose definition has no weight
pub again_of_exact : (own least most weight share : ℕ) → least ≤ own → share ≡ own → weight ≡ 0
    → IsAgain (record { min = own; max = own; weight = 0 }) share (asked share least most weight)
again_of_exact own least most weight share limits same none = record {
  more = omega arith;
  least = omega arith;
  most = omega arith;
  weight = none;
  same_most = λ some. absurd (omega arith);
}

-- the first two items apart, the others have their share of what is left
module _ (span : ℕ) (first second : Item) (items : List Item) (x y : ℕ) (shares : List ℕ)
    (share : IsShare span (first ∷ second ∷ items) (x ∷ y ∷ shares)) where
  rest_again : (k : ℕ) → k < length items → IsAgain (item_at items k) (slice_index shares k) (item_at items k)
  rest_again k below =
      let all = same_again (first ∷ second ∷ items) (x ∷ y ∷ shares) share.fair (suc (suc k)) (omega (arith, below)) in
      all

  rest_part : IsPart (first ∷ second ∷ items) (x ∷ y ∷ shares) 2 items shares
  rest_part = record {
    one_each = let each = share.fair.one_each in omega (arith, each);
    within = omega arith;
    share = λ k below. let place : suc (suc k) ≡ 2 + k = omega arith in ap (slice_index (x ∷ y ∷ shares)) place;
    item = λ k below. let place : suc (suc k) ≡ 2 + k = omega arith in subst
        (λ (i : ℕ). IsAgain (item_at (first ∷ second ∷ items) i) (slice_index shares k) (item_at items k)) place (rest_again k below);
  }

  pub rest_share : IsShare (span - (x + y)) items shares
  rest_share =
      let both : sum (x ∷ y ∷ shares) ≡ x + (y + sum shares) = omega (
        arith,
        sum_by-cons (λ (n : ℕ). n) x (y ∷ shares),
        sum_by-cons
            (λ (n : ℕ). n) y shares,
      ) in
      share_part (first ∷ second ∷ items) (x ∷ y ∷ shares) share.fair 2 items shares rest_part (span - (x + y)) (elim share.whole [
        | inl spent ↦ inl (omega (arith, spent, both))
        | inr filled ↦ inr (omega (arith, filled.0, both), filled.1)
      ])
