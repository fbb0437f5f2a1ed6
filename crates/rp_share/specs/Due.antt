-- Whose grain is next.
use Rattle.std.specs.Prelude.{ℕ, ◌≢◌, ◌<◌, ◌+◌, Option, None, Some, List, slice_index}
use Rattle.rp_share.specs.declared.item.Item.{Item}
use Rattle.rp_share.specs.Share.{IsBelow, ComesBefore}

-- the next grain of item i, which stands before a place, comes before that of each other item there that can take one
pub record HasNext (items : List Item) (shares : List ℕ) (place i : ℕ) : Type 0 where
  pub earlier : i < place
  pub takes : IsBelow items shares i
  pub first : (j : ℕ) → j < place → i ≢ j → IsBelow items shares j
      → ComesBefore items i (slice_index shares i + 1) j (slice_index shares j + 1)

-- the item before a place whose grain is next, or none where none can take one
abbrev pub IsNext : List Item → List ℕ → ℕ → Option ℕ → Type 0
IsNext items shares place None = (i : ℕ) → i < place → ¬ IsBelow items shares i
IsNext items shares place (Some i) = HasNext items shares place i
