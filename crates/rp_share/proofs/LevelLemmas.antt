-- The shares at a level are fair.
use Rattle.std.proofs.Common.{ℕ, zero, suc, ◌≡◌, ◌≢◌, ◌<◌, ◌≤◌, ◌+◌, ◌*◌, ◌⊎◌, List, [], ◌∷◌, length, map, sum, sum_by, slice_index, ap, sym, subst, arith, inl, inr}
use Rattle.std.specs.List.{All}
use Rattle.std.proofs.lemmas.List.{get_or-map, length-map}
use Rattle.std.proofs.lemmas.List.Elements.{All-head, All-tail}
use Rattle.std.proofs.lemmas.List.Sums.{sum_by-cons, sum-map, get_or-le-sum_by}
use Rattle.std.proofs.Math.Nat.{mul-le-mul_left}
use Rattle.rp_share.specs.declared.item.Item.{Item}
use Rattle.rp_share.specs.declared.TheConstants.{LEVEL_SCALE}
use Rattle.rp_share.specs.Level.{grains_at}
use Rattle.rp_share.specs.Share.{IsAbove, IsBelow, IsFair, IsFull, IsShare, ComesBefore, item_at}
use Rattle.rp_share.proofs.Numbers.{within_then_below}

-- the grains of one item at a level
module _ (level : ℕ) (item : Item) (limits : item.min ≤ item.max) where
  at_least : item.min ≤ grains_at level item
  at_least = omega arith

  at_most : grains_at level item ≤ item.max
  at_most = omega arith

  at_no_weight : item.weight ≡ 0 → grains_at level item ≡ item.min
  at_no_weight none =
      let nothing : level * item.weight ≡ 0 = rw none (omega arith) in
      omega arith

  within_level : item.min < grains_at level item → grains_at level item * LEVEL_SCALE ≤ level * item.weight
  within_level above = omega arith

  -- the next level has at most a grain more
  next_level : item.weight ≤ 1000000 → grains_at (level + 1) item ≤ grains_at level item + 1
  next_level light = omega arith

  above_level : grains_at level item < item.max → level * item.weight < (grains_at level item + 1) * LEVEL_SCALE
  above_level below = omega arith

module _ (level : ℕ) (items : List Item) (limits : All (λ item. item.min ≤ item.max) items) where
  abbrev shares : List ℕ
  shares = map (grains_at level) items

  at_place : (i : ℕ) → i < length items → slice_index shares i ≡ grains_at level (item_at items i)
  at_place i place = get_or-map (grains_at level) items i _ 0 place

  limits_at : (i : ℕ) → i < length items → (item_at items i).min ≤ (item_at items i).max
  limits_at i place = limits i _ place

  -- a fact of each item's grains holds of its share
  at_each : (P : Item → ℕ → Type 0) → ((item : Item) → item.min ≤ item.max → P item (grains_at level item)) → (i : ℕ) → i < length items
      → P (item_at items i) (slice_index shares i)
  at_each P at_item i place = rw at_place (at_item (item_at items i) (limits_at i place))

  in_turn : (i j : ℕ) → i ≢ j → IsAbove items shares i → IsBelow items shares j
      → ComesBefore items i (slice_index shares i) j (slice_index shares j + 1)
  in_turn i j apart above below =
      let within = at_each (λ item x. item.min < x → x * LEVEL_SCALE ≤ level * item.weight) (within_level level) i above.place
      above.above in
      let beyond = at_each (λ item x. x < item.max → level * item.weight < (x + 1) * LEVEL_SCALE) (above_level level) j below.place
      below.below in
      let before = within_then_below _ _ level LEVEL_SCALE _ _ above.weighs within beyond in
      record { fewer = omega (arith, before); tie = λ e. absurd (omega (arith, before)) }

  pub fair_at : IsFair items shares
  fair_at = record {
    one_each = length-map items (grains_at level);
    least = at_each (λ item x. item.min ≤ x) (at_least level);
    most = at_each (λ item x. x ≤ item.max) (at_most level);
    idle = at_each (λ item x. item.weight ≡ 0 → x ≡ item.min) (at_no_weight level);
    in_turn = in_turn;
  }

abbrev HasLimits : Item → Type 0
HasLimits item = item.min ≤ item.max

abbrev IsLight : Item → Type 0
IsLight item = item.weight ≤ 1000000

-- the sum at the next level has at most a grain more an item
next_sum : (level : ℕ) (items : List Item) → All HasLimits items → All IsLight items
    → sum_by (grains_at (level + 1)) items ≤ sum_by (grains_at level) items + length items
next_sum level [] limits light = omega arith
next_sum level (item ∷ items) limits light =
    omega (
      arith,
      sum_by-cons (grains_at (level + 1)) item items,
      sum_by-cons (grains_at level) item items,
      next_level level item (All-head HasLimits item items limits) (All-head IsLight item items light),
      next_sum level items (All-tail HasLimits item items limits) (All-tail IsLight item items light),
    )

-- at the level at which one weight has the span, the span is spent or each item with weight has its maximum
full_at_top : (span : ℕ) (items : List Item) → All HasLimits items → sum_by (grains_at (span * LEVEL_SCALE)) items < span
    → IsFull items (map (grains_at (span * LEVEL_SCALE)) items)
full_at_top span items limits left i place weighs =
    let top = span * LEVEL_SCALE in
    let item = item_at items i in
    let whole : top * 1 ≤ top * item.weight = mul-le-mul_left top weighs in
    let part : grains_at top item ≤ sum_by (grains_at top) items = get_or-le-sum_by (grains_at top) items i _ place in
    rw (at_place top items limits i place) (omega (arith, limits i item place, above_level top item (limits i _ place)))

-- what the greatest level leaves is at most a grain an item, or no item can take it
pub few_left : (span level rest : ℕ) (items : List Item) → All HasLimits items → All IsLight items
    → (level ≡ span * LEVEL_SCALE) ⊎ (span < sum_by (grains_at (level + 1)) items) → sum_by (grains_at level) items + rest ≡ span
    → (rest ≤ length items) ⊎ IsFull items (map (grains_at level) items)
few_left span level rest items limits light (inr more) left = inl (omega (arith, next_sum level items limits light))
few_left span level zero items limits light (inl top) left = inl (omega arith)
few_left span level (suc rest) items limits light (inl top) left =
    inr (subst (λ (l : ℕ). IsFull items (map (grains_at l) items)) (sym top)
    (full_at_top span items limits (subst (λ (l : ℕ). sum_by (grains_at l) items < span) top (omega arith))))

-- what the shares at a level and the rest make up is the span
pub share_of_span : (span level rest : ℕ) (items : List Item) (at_level shares : List ℕ) → at_level ≡ map (grains_at level) items
    → sum_by (grains_at level) items + rest ≡ span → IsShare (sum at_level + rest) items shares → IsShare span items shares
share_of_span span level rest items at_level shares filled left share =
    let whole : sum at_level + rest ≡ span = omega (arith, ap sum filled, sum-map (grains_at level) items) in
    subst (λ (n : ℕ). IsShare n items shares) whole share
