-- Sharing once more: some items of a share, with what they have for their least, over what they have together.
use Rattle.std.specs.Prelude.{ℕ, ◌≡◌, ◌<◌, ◌≤◌, ◌+◌, ◌⊎◌, List, length, max, sum, take, slice_index}
use Rattle.rp_share.specs.declared.item.Item.{Item}
use Rattle.rp_share.specs.Share.{item_at}

-- an item as it is asked for once it has a share: its least has not sunk and is at most the share, and its weight and its maximum are
-- what they were
pub record IsAgain (item : Item) (share : ℕ) (again : Item) : Type 0 where
  pub more : item.min ≤ again.min
  pub least : again.min ≤ share
  pub most : share ≤ again.max
  pub weight : again.weight ≡ item.weight
  pub same_most : 0 < item.weight → again.max ≡ item.max

-- the items from a place on, each as it is asked for once it has its share, with the shares that they have
pub record IsPart (items : List Item) (shares : List ℕ) (at : ℕ) (again : List Item) (part : List ℕ) : Type 0 where
  pub one_each : length part ≡ length again
  pub within : at + length again ≤ length items
  pub share : (k : ℕ) → k < length again → slice_index part k ≡ slice_index shares (at + k)
  pub item : (k : ℕ) → k < length again → IsAgain (item_at items (at + k)) (slice_index part k) (item_at again k)

-- the span of the two items at a place and behind it: what they have together, or, where they are the last, all that those before them
-- leave
abbrev pub IsSpanAt : ℕ → List Item → List ℕ → ℕ → ℕ → Type 0
IsSpanAt span items shares at again = (again ≡ slice_index shares at + slice_index shares (at + 1))
    ⊎ ((at + 2 ≡ length items) × (sum (take at shares) + again ≡ span))

-- what a partition that is there asks for: no less than it has, and else by its definition's limits and weight
abbrev pub asked : ℕ → ℕ → ℕ → ℕ → Item
asked has least most weight = record { min = max has least; max = max has most; weight = weight }
