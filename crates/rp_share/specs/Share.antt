-- The share of a span among items with limits and weights (`Weight=` and `PaddingWeight=` of repart.d(5)), exact to the grain.
use Rattle.std.specs.Prelude.{ℕ, ◌≡◌, ◌≢◌, ◌<◌, ◌≤◌, ◌+◌, ◌*◌, ◌⊎◌, List, length, sum, slice_index, slice_index_or}
use Rattle.rp_share.specs.declared.item.Item.{Item}

-- the item at place i
abbrev pub item_at : List Item → ℕ → Item
item_at items i = slice_index_or items i (record { min = 0; max = 0; weight = 0 })

-- item i has weight, and more than its minimum
pub record IsAbove (items : List Item) (shares : List ℕ) (i : ℕ) : Type 0 where
  pub place : i < length items
  pub weighs : 0 < (item_at items i).weight
  pub above : (item_at items i).min < slice_index shares i

-- item i has weight, and less than its maximum
pub record IsBelow (items : List Item) (shares : List ℕ) (i : ℕ) : Type 0 where
  pub place : i < length items
  pub weighs : 0 < (item_at items i).weight
  pub below : slice_index shares i < (item_at items i).max

-- grain a of item i comes before grain b of item j: a / weight of i is less than b / weight of j, or as much and i precedes j
pub record ComesBefore (items : List Item) (i a j b : ℕ) : Type 0 where
  pub fewer : a * (item_at items j).weight ≤ b * (item_at items i).weight
  pub tie : a * (item_at items j).weight ≡ b * (item_at items i).weight → i < j

-- each share is within its item's limits, an item of weight 0 has its minimum, and the last grain of an item comes before the next one
-- of another
pub record IsFair (items : List Item) (shares : List ℕ) : Type 0 where
  pub one_each : length shares ≡ length items
  pub least : (i : ℕ) → i < length items → (item_at items i).min ≤ slice_index shares i
  pub most : (i : ℕ) → i < length items → slice_index shares i ≤ (item_at items i).max
  pub idle : (i : ℕ) → i < length items → (item_at items i).weight ≡ 0 → slice_index shares i ≡ (item_at items i).min
  pub in_turn : (i j : ℕ) → i ≢ j → IsAbove items shares i → IsBelow items shares j
      → ComesBefore items i (slice_index shares i) j (slice_index shares j + 1)

-- each item with weight has its maximum
abbrev pub IsFull : List Item → List ℕ → Type 0
IsFull items shares = (i : ℕ) → i < length items → 0 < (item_at items i).weight → slice_index shares i ≡ (item_at items i).max

-- the share: it is fair, and fills the span or each item with weight
pub record IsShare (span : ℕ) (items : List Item) (shares : List ℕ) : Type 0 where
  pub fair : IsFair items shares
  pub whole : (sum shares ≡ span) ⊎ ((sum shares < span) × IsFull items shares)

-- no two shares differ
abbrev pub OneShare : ℕ → List Item → Type 0
OneShare span items = (x y : List ℕ) → IsShare span items x → IsShare span items y → x ≡ y
