-- The value is the share.
use Rattle.std.proofs.Common.{ℕ, zero, suc, ◌≡◌, ◌≢◌, ◌<◌, ◌≤◌, ◌+◌, ◌-◌, ◌*◌, true, ltb, Option, None, Some, List, length, map, sum, sum_by, slice_index, refl, sym, subst, arith, inl, inr, add-one}
use Rattle.std.specs.List.{All}
use Rattle.std.proofs.lemmas.Bool.{ltb-true, ltb-false, lt-ltb, and_parts, and_from, cond_both, cases_eq, both_ways}
use Rattle.std.proofs.lemmas.List.{get_or-map, length-map}
use Rattle.std.proofs.lemmas.List.Sums.{sum-map}
use Rattle.rp_share.specs.declared.item.Item.{Item}
use Rattle.rp_share.specs.Due.{HasNext, IsNext}
use Rattle.rp_share.specs.Share.{IsBelow, IsFair, IsShare, ComesBefore, item_at}
use Rattle.rp_share.specs.Value.{can_take, sooner_of, next_below, with_grain, with_grains, shares_of}
use Rattle.rp_share.proofs.LawLemmas.{one_share}
use Rattle.rp_share.proofs.NextLemmas.{next_takes}
use Rattle.rp_share.proofs.RestLemmas.{fair_of_given, full_of_none, sum_given}

module _ (items : List Item) (shares : List ℕ) where
  -- the test says what the fact says
  takes_of : (i : ℕ) → i < length items → can_take items shares i ≡ true → IsBelow items shares i
  unfolding can_take
  takes_of i place test =
      let both = and_parts (ltb 0 (item_at items i).weight) (ltb (slice_index shares i) (item_at items i).max) test in
      record { place = place; weighs = ltb-true _ _ both.0; below = ltb-true _ _ both.1 }

  test_of : (i : ℕ) → IsBelow items shares i → can_take items shares i ≡ true
  unfolding can_take
  test_of i below =
      and_from (ltb 0 (item_at items i).weight) (ltb (slice_index shares i) (item_at items i).max) (lt-ltb _ _ below.weighs)
      (lt-ltb _ _ below.below)

  -- a fact of each place below one, and of that one
  one_more : (P : ℕ → Type 0) (place : ℕ) → ((j : ℕ) → j < place → P j) → P place → (j : ℕ) → j < suc place → P j
  one_more P place before here j below =
      elim (cases_eq j place) [ inl same ↦ subst P (sym same) here | inr apart ↦ before j (omega arith) ]

  step_skips : (place : ℕ) → ¬ IsBelow items shares place → (next : Option ℕ) → IsNext items shares place next
      → IsNext items shares (suc place) next
  step_skips place full None none = one_more (λ i. ¬ IsBelow items shares i) place none full
  step_skips place full (Some i) next = record {
    earlier = let before = next.earlier in omega arith;
    takes = next.takes;
    first = one_more (λ j. i ≢ j → IsBelow items shares j → ComesBefore items i (slice_index shares i + 1) j (slice_index shares j + 1))
        place
        next.first (λ apart below. absurd (full below));
  }

  step_takes : (place : ℕ) → IsBelow items shares place → (next : Option ℕ) → IsNext items shares place next
      → IsNext items shares (suc place) (sooner_of items shares next place)
  unfolding sooner_of
  step_takes place takes None none = record {
    earlier = omega arith;
    takes = takes;
    first = one_more (λ j. place ≢ j → IsBelow items shares j → ComesBefore items place (slice_index shares place + 1) j
        (slice_index shares j + 1)) place
        (λ j before apart below. absurd (none j before below)) (λ apart below. absurd (apart refl));
  }
  step_takes place takes (Some i) next =
      cond_both (ltb ((slice_index shares place + 1) * (item_at items i).weight)
      ((slice_index shares i + 1) * (item_at items place).weight)) (Some place) (Some i)
      (IsNext items shares (suc place))
      (λ sooner. subst (λ (p : ℕ). HasNext items shares p place) (add-one place)
      (next_takes items shares place i next takes (ltb-true _ _ sooner)))
      (λ later. record {
        earlier = let before = next.earlier in omega arith;
        takes = next.takes;
        first = one_more (λ j. i ≢ j → IsBelow items shares j → ComesBefore items i (slice_index shares i + 1) j
            (slice_index shares j + 1)) place
            next.first (λ apart below. record { fewer = ltb-false _ _ later; tie = λ _. next.earlier });
      })

  -- the value is the item whose grain is next
  next_is : (place : ℕ) → place ≤ length items → IsNext items shares place (next_below items shares place)
  unfolding next_below
  next_is zero fits = λ i before. absurd (omega arith)
  next_is (suc place) fits =
      cond_both (can_take items shares place) (sooner_of items shares (next_below items shares place) place) (next_below items shares place)
      (IsNext items shares (suc place))
      (λ takes. step_takes place (takes_of place (omega arith) takes) (next_below items shares place) (next_is place (omega arith)))
      (λ full. step_skips place (λ below. both_ways _ full (test_of place below)) (next_below items shares place)
      (next_is place (omega arith)))

-- a share of a span, with a grain more, is a share of a grain more
share_with_grain : (span : ℕ) (items : List Item) (shares : List ℕ) (next : Option ℕ) → IsShare span items shares
    → IsNext items shares (length items) next
    → IsShare (suc span) items (with_grain shares next)
unfolding with_grain
share_with_grain span items shares None share none = record {
  fair = share.fair;
  whole = inr (
    elim share.whole [ inl spent ↦ omega arith | inr filled ↦ let less : sum shares < span = filled.0 in omega arith ],
    full_of_none items shares share.fair none,
  );
}
share_with_grain span items shares (Some next) share due = record {
  fair = fair_of_given items shares next share.fair due;
  whole = elim share.whole [
    | inl spent ↦ inl (omega (arith, sum_given items shares next share.fair due))
    | inr filled ↦ let takes = due.takes in absurd (omega (arith, filled.1 next takes.place takes.weighs, takes.below))
  ];
}

-- grain by grain, from fair shares
share_with_grains : (items : List Item) (shares : List ℕ) → IsFair items shares → (grains : ℕ)
    → IsShare (sum shares + grains) items (with_grains grains items shares)
unfolding with_grains
share_with_grains items shares fair zero = record { fair = fair; whole = inl (omega arith) }
share_with_grains items shares fair (suc grains) =
    let before = with_grains grains items shares in
    let span : suc (sum shares + grains) ≡ sum shares + suc grains = omega arith in
    subst (λ (n : ℕ). IsShare n items (with_grain before (next_below items before (length items)))) span
    (share_with_grain (sum shares + grains) items before _ (share_with_grains items shares fair grains)
    (next_is items before (length items) (omega arith)))

module _ (items : List Item) (limits : All (λ item. item.min ≤ item.max) items) where
  abbrev minima : List ℕ
  minima = map (λ item. item.min) items

  at_place : (i : ℕ) → i < length items → slice_index minima i ≡ (item_at items i).min
  at_place i place = get_or-map (λ (item : Item). item.min) items i _ 0 place

  fair_minima : IsFair items minima
  fair_minima = record {
    one_each = length-map items (λ item. item.min);
    least = λ i place. omega (arith, at_place i place);
    most = λ i place. omega (arith, at_place i place, limits i (item_at items i) place);
    idle = λ i place _. at_place i place;
    in_turn = λ i j apart above below. let more = above.above in absurd (omega (arith, at_place i above.place));
  }

  pub share_is : (span : ℕ) → sum_by (λ item. item.min) items ≤ span → IsShare span items (shares_of span items)
  unfolding shares_of
  share_is span fits =
      let whole : sum minima + (span - sum_by (λ item. item.min) items) ≡ span = omega (arith, sum-map (λ (item : Item). item.min) items) in
      subst (λ (n : ℕ). IsShare n items (with_grains (span - sum_by (λ item. item.min) items) items minima)) whole
      (share_with_grains items minima fair_minima (span - sum_by (λ item. item.min) items))

  -- a share is the value
  pub value_of_share : (span : ℕ) → sum_by (λ item. item.min) items ≤ span → (shares : List ℕ) → IsShare span items shares
      → shares ≡ shares_of span items
  value_of_share span fits shares share = one_share span items shares (shares_of span items) share (share_is span fits)
