-- What `plan` prints of a plan.
use Rattle.std.specs.Prelude.{ℕ, List, [], ◌++◌, Bool, codes, if◌then◌else◌, Option, Some, None, slice_get}
use Rattle.std.specs.Fmt.{decimal}
use Rattle.std.specs.List.{flat_map}
use Rattle.std.specs.Option.{option_map_or}
use Rattle.rp_base.specs.Plan.{Noted, noted_of}
use Rattle.rp_base.specs.declared.plan.Change.{Change}
use Rattle.rp_base.specs.declared.plan.Change.TheVariants.{New, Changed, Same}
use Rattle.rp_base.specs.declared.plan.Plan.{Plan}
use Rattle.rp_base.specs.declared.table.Table.{Table}
use Rattle.rp_defs.specs.declared.definition.Definition.{Definition}
use Rattle.rp_defs.specs.declared.definition.Definitions.{Definitions}
use Rattle.rp_types.specs.Guids.{guid_text}
use Rattle.rp_report.specs.Tables.{facts_text}

-- the name of the file of the definition at a place
abbrev pub file_text : List Definition → ℕ → List ℕ
file_text list place = option_map_or (λ (definition : Definition). definition.file) (slice_get list place) []

-- that of a row's definition; a foreign row has none
abbrev pub owner_text : List Definition → Option ℕ → List ℕ
owner_text list None = codes "-"
owner_text list (Some place) = file_text list place

abbrev pub change_word : Change → List ℕ
change_word New = codes "new"
change_word Changed = codes "changed"
change_word Same = codes "same"

-- the length that the image is to have, and the usable sectors
unfoldable pub bounds_text : ℕ → Table → List ℕ
bounds_text target table = codes "plan target " ++ decimal target ++ codes " usable " ++ decimal table.first ++ codes "-"
    ++ decimal table.last

-- the line of the whole: these, and the disk's GUID
unfoldable pub target_line : ℕ → Table → List ℕ
target_line target table = bounds_text target table ++ codes " disk " ++ guid_text table.disk ++ codes "\n"

-- the line of a row with its note: its slot, what becomes of it, its definition's file, and what it is to be
unfoldable pub noted_line : List Definition → Noted → List ℕ
noted_line list noted = decimal noted.0.slot ++ codes " " ++ change_word noted.1.change
    ++ codes " " ++ owner_text list noted.1.file ++ codes " " ++ facts_text noted.0

-- the line of a definition that gets no row
abbrev pub dropped_line : List Definition → ℕ → List ℕ
dropped_line list place = codes "dropped " ++ file_text list place ++ codes "\n"

-- the line of a slot that a factory reset took out
abbrev pub reset_line : ℕ → List ℕ
reset_line slot = codes "reset " ++ decimal slot ++ codes "\n"

-- those of all; none where no reset was asked for
abbrev pub reset_text : Option (List ℕ) → List ℕ
reset_text None = []
reset_text (Some slots) = flat_map reset_line slots

-- how many assignments of the definitions were ignored
abbrev pub ignored_line : ℕ → List ℕ
ignored_line ignored = codes "ignored " ++ decimal ignored ++ codes "\n"

-- how many steps the plan takes, and how many writes
abbrev pub steps_line : ℕ → ℕ → List ℕ
steps_line steps writes = codes "steps " ++ decimal steps ++ codes " writes " ++ decimal writes ++ codes "\n"

-- that all was done
abbrev pub applied_line : Bool → List ℕ
applied_line applied = if applied then codes "applied\n" else []

-- the rows and what was dropped
unfoldable pub rows_text : List Definition → Plan → List ℕ
rows_text list plan = flat_map (noted_line list) (noted_of plan) ++ flat_map (dropped_line list) plan.dropped

-- the whole
unfoldable pub plan_bytes : Plan → Definitions → ℕ → ℕ → Bool → Option (List ℕ) → List ℕ
plan_bytes plan definitions steps writes applied reset =
    target_line plan.target plan.goal ++ rows_text definitions.list plan ++ reset_text reset
    ++ (ignored_line definitions.ignored ++ steps_line steps writes ++ applied_line applied)
