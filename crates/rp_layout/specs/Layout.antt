-- Where each partition lies: an area's are stacked from its first grain on, each followed by its padding.
use Rattle.std.specs.Prelude.{ℕ, ◌+◌, ◌*◌, ◌==◌, Option, Some, List, [], ◌∷◌, ◌++◌, map, find, slice_get}
use Rattle.std.specs.List.{enumerate_from, filter_map, flat_map}
use Rattle.std.specs.Option.{option_and_then, option_map, option_map_or}
use Rattle.rp_base.specs.declared.table.Row.{Row}
use Rattle.rp_base.specs.declared.want.Want.{Want}
use Rattle.rp_areas.specs.declared.extents.Extent.{Extent}
use Rattle.rp_areas.specs.declared.gaps.Area.{Area}
use Rattle.rp_areas.specs.Again.{Piece}
use Rattle.rp_areas.specs.Areas.{extents_of, grains_up}
use Rattle.rp_place.specs.declared.fit.New.{New}
use Rattle.rp_layout.specs.declared.spot.Spot.{Spot}
use Rattle.rp_layout.specs.Seats.{files_at, seats_of, stack_of}

-- the partitions of an area, which is given with its place
abbrev pub stack_in : List Row → List (Option ℕ) → List Want → List New → List (Option ℕ) → (ℕ × Area) → List Piece
stack_in rows matched wants news places e = stack_of e.1.span (seats_of rows matched wants (files_at news places e))

-- those of each area
abbrev pub stacks_of : List Row → List (Option ℕ) → List Want → List Area → List New → List (Option ℕ) → List (List Piece)
stacks_of rows matched wants areas news places = map (stack_in rows matched wants news places) (enumerate_from 0 areas)

-- partitions from a grain on
abbrev pub spots_from : ℕ → List Piece → List Spot
spots_from from [] = []
spots_from from (p ∷ ps) = record { file = p.file; start = 8 * from; size = p.units; pad = p.pad } ∷ spots_from
    (from + grains_up p.units + p.pad) ps

-- the partitions in all areas, in order
abbrev pub spots_of : List Row → List (Option ℕ) → List Want → List Area → List New → List (Option ℕ) → List Spot
spots_of rows matched wants areas news places =
    flat_map (λ e. spots_from e.1.from (stack_in rows matched wants news places e)) (enumerate_from 0 areas)

-- for each definition, where its partition lies, if it stands in an area
abbrev pub laid : List Row → List (Option ℕ) → List Want → List Area → List New → List (Option ℕ) → List (Option Spot)
laid rows matched wants areas news places =
    map (λ e. find (λ spot. spot.file == e.0) (spots_of rows matched wants areas news places)) (enumerate_from 0 wants)

-- where a definition's partition lies
abbrev pub spot_at : List (Option Spot) → ℕ → Option Spot
spot_at spots file = option_and_then (λ spot. spot) (slice_get spots file)

-- a row that is there, with the units that its definition's partition has
abbrev pub grown : List (Option Spot) → Extent → Extent
grown spots e = record {
  start = e.start;
  size = option_map_or (λ (spot : Spot). spot.size) (option_and_then (spot_at spots) e.file) e.size;
  file = e.file;
}

-- the partition of a new definition as a row
abbrev pub added : List (Option Spot) → New → Option Extent
added spots n = option_map (λ spot. record { start = spot.start; size = spot.size; file = Some n.file }) (spot_at spots n.file)

-- the rows that are there, each grown, and then those of the new definitions that lie somewhere, in order
abbrev pub extents_after : List Row → List (Option ℕ) → List New → List (Option Spot) → List Extent
extents_after rows matched news spots = map (grown spots) (extents_of rows matched) ++ filter_map (added spots) news

-- where a row begins and how many units it has
abbrev pub reach_of_row : Row → ℕ × ℕ
reach_of_row row = (row.start, row.size)

abbrev pub reach_of : Extent → ℕ × ℕ
reach_of e = (e.start, e.size)
