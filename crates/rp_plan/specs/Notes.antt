-- What is noted on the rows of the goal.
use Rattle.std.specs.Prelude.{ℕ, ◌==◌, ◌&&◌, Bool, if◌then◌else◌, List, replicate, slice_get, slice_index_or, Option, Some, None, option_map, unwrap_or}
use Rattle.std.specs.Option.{option_map_or}
use Rattle.std.specs.Str.{bytes_eq}
use Rattle.rp_base.specs.declared.guid.Guid.{Guid}
use Rattle.rp_base.specs.declared.plan.Change.TheVariants.{New, Changed, Same}
use Rattle.rp_base.specs.declared.plan.Note.{Note}
use Rattle.rp_base.specs.declared.plan.Role.{Role}
use Rattle.rp_base.specs.declared.plan.Role.TheVariants as roles
use Rattle.rp_base.specs.declared.table.Row.{Row}
use Rattle.rp_areas.specs.Areas.{file_of}
use Rattle.rp_defs.specs.declared.definition.Definition.{Definition}
use Rattle.rp_defs.specs.declared.definition.Verity.{Verity}
use Rattle.rp_defs.specs.declared.definition.Verity.TheVariants.{Off, Data, Hash}
use Rattle.rp_sizes.specs.declared.need.Fact.{Fact}
use Rattle.rp_sizes.specs.Needs.{fact_of}
use Rattle.rp_sizes.specs.Pairs.{salt_of, super_id}
use Rattle.rp_sizes.specs.Sizes.{blocks_at}
use Rattle.rp_plan.specs.Kept.{slot_in}
use Rattle.rp_plan.specs.Names.{root_at}
use Rattle.rp_plan.specs.Rows.{no_id}

-- two rows are the same
abbrev pub same_row : Row → Row → Bool
same_row a b = (a.slot == b.slot) && bytes_eq a.kind.0 b.kind.0 && bytes_eq a.id.0 b.id.0 && (a.start == b.start) && (a.size == b.size)
    && (a.attrs == b.attrs) && bytes_eq a.name b.name

-- the note on a row that was there, given with its place: how that at the same place in the goal differs
abbrev pub old_note : List (Option ℕ) → List Row → (ℕ × Row) → Note
old_note matched goal e = record {
  slot = e.1.slot;
  file = file_of matched e.0;
  change = if same_row e.1 (slice_index_or goal e.0 e.1) then Same else Changed;
  source = None;
  role = roles.Plain;
}

-- the root hash that is planned for a pair
abbrev pub root_planned : List Fact → ℕ → List ℕ
root_planned facts file = unwrap_or (root_at facts file) (replicate 32 0)

-- the type of the definition at a place
abbrev pub kind_at : List Definition → ℕ → Guid
kind_at defs file = option_map_or (λ (d : Definition). d.kind) (slice_get defs file) no_id

-- the role of a new row by the verity of its definition, given by its place: the halves of a pair name each other's slots
abbrev pub role_of : Guid → List Definition → List Fact → ℕ → List ℕ → ℕ → Verity → Role
role_of seed defs facts free kept file Off = roles.Plain
role_of seed defs facts free kept file (Data partner) = roles.Data (slot_in free kept partner) (root_planned facts file)
role_of seed defs facts free kept file (Hash partner) = roles.Hash (slot_in free kept partner) (blocks_at defs facts partner)
    (salt_of seed (kind_at defs partner)) (super_id seed (kind_at defs partner)) (root_planned facts partner)

-- the note on the new row of a definition, given with its slot and the definition's place
abbrev pub new_note : Guid → List Definition → List Fact → ℕ → List ℕ → (ℕ × (ℕ × Definition)) → Note
new_note seed defs facts free kept e = record {
  slot = e.0;
  file = Some e.1.0;
  change = New;
  source = option_map (λ (f : Fact). f.len) (fact_of facts e.1.0);
  role = role_of seed defs facts free kept e.1.0 e.1.1.verity;
}
