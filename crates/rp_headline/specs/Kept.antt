-- What stays of the partitions of an image: own rules.
use Rattle.std.specs.Prelude.{ℕ, ◌≡◌, ◌≢◌, ◌≤◌, false, List, Some, None, slice_get, slice_index}
use Rattle.rp_base.specs.declared.plan.Plan.{Plan}
use Rattle.rp_base.specs.declared.seen.Seen.{Seen}
use Rattle.rp_base.specs.declared.table.Row.{Row}
use Rattle.rp_areas.specs.Areas.{file_of}
use Rattle.rp_defs.specs.declared.definition.Definition.{Definition}
use Rattle.rp_ident.specs.Naming.{is_zero}
use Rattle.rp_sizes.specs.Needs.{matched_of}

-- a row has the slot, type, start and attributes of an old one, and at least its size; it has the old one's label and
-- identifier, unless that had none
pub record KeepsPlace (old row : Row) : Type 0 where
  pub slot : row.slot ≡ old.slot
  pub kind : row.kind ≡ old.kind
  pub start : row.start ≡ old.start
  pub size : old.size ≤ row.size
  pub attrs : row.attrs ≡ old.attrs
  pub name : slice_index old.name 0 ≢ 0 → row.name ≡ old.name
  pub id : is_zero old.id ≡ false → row.id ≡ old.id

-- the old row at a place is there in the goal, and keeps its place; it is equal where no definition has it
pub record KeepsEach (seen : Seen) (defs : List Definition) (plan : Plan) (place : ℕ) (old : Row) : Type 0 where
  pub row : Row
  pub there : slice_get plan.goal.rows place ≡ Some row
  pub keeps : KeepsPlace old row
  pub foreign : file_of (matched_of seen.shown defs) place ≡ None → row ≡ old

-- every old partition keeps its place
abbrev pub KeepsPlaces : Seen → List Definition → Plan → Type 0
KeepsPlaces seen defs plan = (place : ℕ) (old : Row) → slice_get seen.shown.rows place ≡ Some old → KeepsEach seen defs plan place old
