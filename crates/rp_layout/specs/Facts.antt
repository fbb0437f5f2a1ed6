-- What partitions are laid out from, and what holds of where they lie.
use Rattle.std.specs.Prelude.{ℕ, ◌≡◌, ◌≢◌, ◌<◌, ◌≤◌, ◌+◌, ◌*◌, ◌%◌, ◌^◌, ◌⊎◌, max, Option, Some, None, Ok, List, All, AllPairs, IfSome, MatchOption, length, slice_get}
use Rattle.rp_base.specs.declared.table.Row.{Row}
use Rattle.rp_base.specs.declared.table.Table.{Table}
use Rattle.rp_base.specs.declared.want.Want.{Want}
use Rattle.rp_base.specs.Table.{IsLaidOut}
use Rattle.rp_base.specs.Wants.{AreWants}
use Rattle.rp_areas.specs.declared.gaps.Area.{Area}
use Rattle.rp_areas.specs.Areas.{areas_of, grains_up, want_at}
use Rattle.rp_place.specs.declared.fit.New.{New}
use Rattle.rp_place.specs.declared.threshold.Placed.{Placed}
use Rattle.rp_place.specs.Placing.{placed}
use Rattle.rp_layout.specs.declared.spot.Spot.{Spot}

-- new definitions in file order: each has no row, asks for a grain at least, and needs the minima of its size and its padding
pub record AreNews (matched : List (Option ℕ)) (wants : List Want) (news : List New) : Type 0 where
  pub rising : AllPairs (λ a b. a.file < b.file) news
  pub unmatched : All (λ n. slice_get matched n.file ≡ Some None) news
  pub sized : All (λ n. 1 ≤ (want_at wants n.file).min) news
  pub needs : All (λ n. n.need ≡ (want_at wants n.file).min + (want_at wants n.file).pad_min) news

-- the areas of a laid out table whose usable units are to end at `last`, with the definitions that have its rows, and where the new ones
-- were placed in these areas
pub record IsReady (table : Table) (last : ℕ) (matched : List (Option ℕ)) (wants : List Want) (areas : List Area) (news : List New)
    (kept : Placed) : Type 0 where
  pub laid_out : IsLaidOut table
  pub bounds : table.last ≤ last
  pub small : last < 2 ^ 35
  pub limits : AreWants wants
  pub one_each : length matched ≡ length wants
  pub places : All (λ place. IfSome place (λ p. p < length table.rows)) matched
  pub distinct : AllPairs (λ a b. IfSome a (λ place. b ≢ Some place)) matched
  pub are_areas : areas_of table last matched wants ≡ Ok areas
  pub are_news : AreNews matched wants news
  pub are_placed : placed areas news kept.threshold ≡ Ok kept.areas

-- the partition of a new definition: whole grains, at most its maximum
pub record IsAdded (want : Want) (spot : Spot) : Type 0 where
  pub whole : spot.size % 8 ≡ 0
  pub most : spot.size ≤ 8 * want.max

-- the partition of a definition that has a row: it begins where the row does and is no smaller, and it is as large as the row, or has
-- whole grains, at most its maximum
pub record IsGrown (want : Want) (row : Row) (spot : Spot) : Type 0 where
  pub start : spot.start ≡ row.start
  pub least : row.size ≤ spot.size
  pub whole : (spot.size ≡ row.size) ⊎ (spot.size % 8 ≡ 0)
  pub most : (spot.size ≡ row.size) ⊎ (spot.size ≤ 8 * max (grains_up row.size) want.max)

-- a partition begins at a grain and lies within the usable units with its padding, and it and its padding keep to what its definition
-- asks for
pub record IsSpot (first last : ℕ) (want : Want) (row : Option Row) (spot : Spot) : Type 0 where
  pub grain : spot.start % 8 ≡ 0
  pub some : 1 ≤ spot.size
  pub lower : first ≤ spot.start
  pub upper : spot.start + 8 * grains_up spot.size + 8 * spot.pad ≤ last + 1
  pub min : want.min ≤ grains_up spot.size
  pub pad_min : want.pad_min ≤ spot.pad
  pub pad_max : spot.pad ≤ want.pad_max
  pub kind : MatchOption row (IsAdded want spot) (λ r. IsGrown want r spot)

-- the first of two partitions ends, with its padding, before the other begins
abbrev pub Precedes : Spot → Spot → Type 0
Precedes a b = a.start + 8 * grains_up a.size + 8 * a.pad ≤ b.start

-- a row has no unit of a partition
abbrev pub IsOff : Spot → Row → Type 0
IsOff spot row = (row.start + row.size ≤ spot.start) ⊎ (spot.start + 8 * grains_up spot.size + 8 * spot.pad ≤ row.start)
