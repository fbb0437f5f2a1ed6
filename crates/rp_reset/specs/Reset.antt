-- Factory reset: the rows of definitions that say so are taken out of the table, by a plan of its own (systemd-repart(8),
-- --factory-reset=; repart.d(5), FactoryReset=).
use Rattle.std.specs.Prelude.{ℕ, ◌==◌, ◌&&◌, Bool, false, if◌then◌else◌, List, [], ◌∷◌, filter_map, map, pos, slice_index_or, Option, Some, None, Result, Ok}
use Rattle.std.specs.List.{enumerate_from, list_any}
use Rattle.std.specs.Option.{option_map_or}
use Rattle.rp_base.specs.declared.plan.Change.TheVariants.{Same}
use Rattle.rp_base.specs.declared.plan.Note.{Note}
use Rattle.rp_base.specs.declared.plan.Plan.{Plan}
use Rattle.rp_base.specs.declared.plan.Role.TheVariants.{Plain}
use Rattle.rp_base.specs.declared.seen.Seen.{Seen}
use Rattle.rp_base.specs.declared.table.Row.{Row}
use Rattle.rp_base.specs.declared.table.Table.{Table}
use Rattle.rp_defs.specs.declared.definition.Definition.{Definition}
use Rattle.rp_demand.specs.declared.demand.Demand.{Demand}
use Rattle.rp_plan.specs.Goal.{unless}
use Rattle.rp_sizes.specs.Needs.{matched_of}
use Rattle.rp_reset.specs.Mix.{mix}

-- a definition, given with its place, is to be reset and has the row at a place
abbrev pub resets : List (Option ℕ) → ℕ → (ℕ × Definition) → Bool
resets matched place e = e.1.factory_reset && option_map_or (λ p. p == place) (slice_index_or matched e.0 None) false

-- a definition that is to be reset has the row at a place
abbrev pub is_reset : List (Option ℕ) → List Definition → ℕ → Bool
is_reset matched defs place = list_any (resets matched place) (enumerate_from 0 defs)

-- the slot of a row, given with its place, that is taken out
abbrev pub slot_out : List (Option ℕ) → List Definition → (ℕ × Row) → Option ℕ
slot_out matched defs e = if is_reset matched defs e.0 then Some e.1.slot else None

-- a row, given with its place, that stays
abbrev pub row_left : List (Option ℕ) → List Definition → (ℕ × Row) → Option Row
row_left matched defs e = if is_reset matched defs e.0 then None else Some e.1

-- the slots of the rows of a table that are taken out, and the rows that stay
abbrev pub slots_out : List (Option ℕ) → List Definition → List Row → List ℕ
slots_out matched defs rows = filter_map (slot_out matched defs) (enumerate_from 0 rows)

abbrev pub rows_left : List (Option ℕ) → List Definition → List Row → List Row
rows_left matched defs rows = filter_map (row_left matched defs) (enumerate_from 0 rows)

-- the slots that are taken out of a table, rising
abbrev pub taken_out : Table → List Definition → List ℕ
taken_out table defs = slots_out (matched_of table defs) defs table.rows

-- a table without the rows of such definitions, by the places of the rows that definitions have, and the reset table
abbrev pub table_left : Table → List (Option ℕ) → List Definition → Table
table_left table matched defs = record table { rows = rows_left matched defs table.rows }

abbrev pub reset_table : Table → List Definition → Table
reset_table table defs = table_left table (matched_of table defs) defs

-- the note on a row that stays
abbrev pub left_note : Row → Note
left_note row = record { slot = row.slot; file = None; change = Same; source = None; role = Plain }

-- the plan with such a table, on the image's own length
abbrev pub plan_to : Seen → Table → Plan
plan_to seen goal = record {
  target = seen.sectors;
  goal = goal;
  notes = map left_note goal.rows;
  dropped = [];
  threshold = pos 0;
}

-- there is a plan where a slot is taken out
abbrev pub plan_where : List ℕ → Plan → Option Plan
plan_where [] plan = None
plan_where (slot ∷ slots) plan = Some plan

-- the plan of a reset, if a row is taken out, or else the demand of definitions that disagree
unfoldable pub reset : Seen → List Definition → Result (Option Plan) Demand
reset seen defs = unless (mix defs) (Ok (plan_where (taken_out seen.shown defs) (plan_to seen (reset_table seen.shown defs))))
