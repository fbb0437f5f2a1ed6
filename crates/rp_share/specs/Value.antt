-- The share as a value: from the minima, grain by grain, each to the item whose grain is next.
use Rattle.std.specs.Prelude.{ℕ, zero, suc, ◌+◌, ◌-◌, ◌*◌, ◌&&◌, Bool, nat_lt, if◌then◌else◌, Option, None, Some, List, length, map, sum_by, slice_index, slice_set}
use Rattle.rp_share.specs.declared.item.Item.{Item}
use Rattle.rp_share.specs.Share.{item_at}

-- whether item i has weight and less than its maximum
unfoldable pub can_take : List Item → List ℕ → ℕ → Bool
can_take items shares i = nat_lt 0 (item_at items i).weight && nat_lt (slice_index shares i) (item_at items i).max

-- the item at a place, or the one before it whose next grain is as early
unfoldable pub sooner_of : List Item → List ℕ → Option ℕ → ℕ → Option ℕ
sooner_of items shares None place = Some place
sooner_of items shares (Some i) place =
    if nat_lt ((slice_index shares place + 1) * (item_at items i).weight) ((slice_index shares i + 1) * (item_at items place).weight)
    then Some place else Some i

-- the item below a place whose grain is next
unfoldable pub next_below : List Item → List ℕ → ℕ → Option ℕ
next_below items shares zero = None
next_below items shares (suc place) =
    if can_take items shares place then sooner_of items shares (next_below items shares place) place else next_below items shares place

-- shares with one grain more for an item
unfoldable pub with_grain : List ℕ → Option ℕ → List ℕ
with_grain shares None = shares
with_grain shares (Some i) = slice_set shares i (slice_index shares i + 1)

-- shares with that many grains more, each for the item whose grain is next
unfoldable pub with_grains : ℕ → List Item → List ℕ → List ℕ
with_grains zero items shares = shares
with_grains (suc grains) items shares =
    let before = with_grains grains items shares in with_grain before (next_below items before (length items))

-- the share of a span among items
unfoldable pub shares_of : ℕ → List Item → List ℕ
shares_of span items = with_grains (span - sum_by (λ item. item.min) items) items (map (λ item. item.min) items)
