-- The rows of the goal before they are named.
use Rattle.std.specs.Prelude.{ℕ, ℤ, ◌-◌, ◌/◌, List, ◌++◌, map, replicate, Option}
use Rattle.std.specs.List.{enumerate_from}
use Rattle.std.specs.Option.{option_and_then, option_map_or}
use Rattle.rp_base.specs.Geometry.{sector_units, usable_end}
use Rattle.rp_base.specs.declared.guid.Guid.{Guid}
use Rattle.rp_base.specs.declared.seen.Seen.{Seen}
use Rattle.rp_base.specs.declared.table.Row.{Row}
use Rattle.rp_base.specs.declared.table.Table.{Table}
use Rattle.rp_areas.specs.Areas.{file_of}
use Rattle.rp_defs.specs.declared.definition.Definition.{Definition}
use Rattle.rp_layout.specs.declared.spot.Spot.{Spot}
use Rattle.rp_layout.specs.Layout.{spot_at}
use Rattle.rp_plan.specs.Kept.{first_free, kept_of}

-- a row that is there, given with its place: it has the size of its definition's partition, where that can grow
abbrev pub row_again : List (Option ℕ) → List (Option Spot) → (ℕ × Row) → Row
row_again matched spots e =
    option_map_or (λ (spot : Spot). record e.1 { size = spot.size }) (option_and_then (spot_at spots) (file_of matched e.0)) e.1

-- no identifier yet
abbrev pub no_id : Guid
no_id = record { 0 = replicate 16 0 }

-- where the partition of a definition begins, and its size
abbrev pub start_of : List (Option Spot) → ℕ → ℕ
start_of spots file = option_map_or (λ (spot : Spot). spot.start) (spot_at spots file) 0

abbrev pub size_of : List (Option Spot) → ℕ → ℕ
size_of spots file = option_map_or (λ (spot : Spot). spot.size) (spot_at spots file) 0

-- the new row of a definition, given with its slot and the definition's place, without a name
abbrev pub row_for : List (Option Spot) → (ℕ × (ℕ × Definition)) → Row
row_for spots e = record {
  slot = e.0;
  kind = e.1.1.kind;
  id = no_id;
  start = start_of spots e.1.0;
  size = size_of spots e.1.0;
  attrs = e.1.1.attrs;
  name = replicate 36 0;
}

-- the rows that are there, and then those of the definitions that are kept, in the slots behind
abbrev pub rows_laid : List Row → List (Option ℕ) → ℤ → List Definition → List (Option Spot) → List Row
rows_laid rows matched threshold defs spots =
    map (row_again matched spots) (enumerate_from 0 rows)
    ++ map (row_for spots) (enumerate_from (first_free rows) (kept_of matched threshold defs))

-- the last usable unit of an image of the target's length
abbrev pub last_of : Seen → ℕ → ℕ
last_of seen target = usable_end seen.shown.sector seen.shown.entries (target / sector_units seen.shown.sector) - 1

-- the table with these rows: all else but the last usable unit stays
abbrev pub table_laid : Seen → ℕ → List Row → Table
table_laid seen target rows = record seen.shown { last = last_of seen target; rows = rows }
