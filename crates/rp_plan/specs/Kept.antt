-- Which definitions without a row get one, and in which slots (systemd-repart(8); repart.d(5), Priority=).
use Rattle.std.specs.Prelude.{ℕ, ℤ, ◌+◌, ◌-◌, ◌==◌, ◌&&◌, not, if◌then◌else◌, Bool, List, filter, filter_map, fold, max, position, Option, Some, None, int_le, slice_index_or}
use Rattle.std.specs.List.{enumerate_from}
use Rattle.std.specs.Option.{option_map, option_map_or, option_or}
use Rattle.rp_base.specs.declared.table.Row.{Row}
use Rattle.rp_base.specs.declared.table.Table.{Table}
use Rattle.rp_defs.specs.declared.definition.Definition.{Definition}
use Rattle.rp_sizes.specs.Needs.{is_new}

-- a definition, given with its place, that has no row and whose priority is at most the threshold: it gets one
abbrev pub is_kept : List (Option ℕ) → ℤ → (ℕ × Definition) → Bool
is_kept matched threshold e = is_new matched e.0 && int_le e.1.priority threshold

-- these, in order
abbrev pub kept_of : List (Option ℕ) → ℤ → List Definition → List (ℕ × Definition)
kept_of matched threshold defs = filter (is_kept matched threshold) (enumerate_from 0 defs)

-- one that has no row and gets none
abbrev pub is_dropped : List (Option ℕ) → ℤ → (ℕ × Definition) → Bool
is_dropped matched threshold e = is_new matched e.0 && not (int_le e.1.priority threshold)

-- the place of a definition that is kept, and of one that is dropped
abbrev pub kept_file : List (Option ℕ) → ℤ → (ℕ × Definition) → Option ℕ
kept_file matched threshold e = if is_kept matched threshold e then Some e.0 else None

abbrev pub dropped_file : List (Option ℕ) → ℤ → (ℕ × Definition) → Option ℕ
dropped_file matched threshold e = if is_dropped matched threshold e then Some e.0 else None

-- the places of those that are dropped
abbrev pub dropped_files : List (Option ℕ) → ℤ → List Definition → List ℕ
dropped_files matched threshold defs = filter_map (dropped_file matched threshold) (enumerate_from 0 defs)

-- the places of those that are kept
abbrev pub kept_files : List (Option ℕ) → ℤ → List Definition → List ℕ
kept_files matched threshold defs = filter_map (kept_file matched threshold) (enumerate_from 0 defs)

-- the first slot behind the highest used one
abbrev pub first_free : List Row → ℕ
first_free rows = fold (λ slot (row : Row). max slot (row.slot + 1)) 0 rows

-- the slots from there on
abbrev pub free_slots : Table → ℕ
free_slots table = table.entries - first_free table.rows

-- how many of these definitions stand before one of them
abbrev pub rank_in : List ℕ → ℕ → Option ℕ
rank_in kept file = position (λ k. k == file) kept

-- the slot of a kept definition: they take those behind the highest used one, in order
abbrev pub slot_in : ℕ → List ℕ → ℕ → ℕ
slot_in free kept file = option_map_or (λ rank. free + rank) (rank_in kept file) free

-- the place of a definition's row in the goal: its own, or, behind so many rows that are there, that of a kept one
abbrev pub place_in : List (Option ℕ) → ℕ → List ℕ → ℕ → Option ℕ
place_in matched rows kept file =
    option_or (slice_index_or matched file None) (option_map (λ rank. rows + rank) (rank_in kept file))
