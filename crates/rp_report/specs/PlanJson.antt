-- What `plan` prints of a plan as JSON: one line, the keys in the order of their bytes.
use Rattle.std.specs.Prelude.{ℕ, List, ◌++◌, Bool, true, codes, if◌then◌else◌, map, Option, Some, None}
use Rattle.std.specs.Option.{option_map_or}
use Rattle.std.specs.Int.{w64, to_be_bytes}
use Rattle.hex.specs.Hex.{encode_lower}
use Rattle.serde_json.specs.Data.{Data, Members, array, boolean, item, member, no_items, no_members, null, object, string}
use Rattle.serde_json.specs.View.{items_of}
use Rattle.serde_json.specs.Written.{compact_text}
use Rattle.rp_base.specs.Plan.{Noted, noted_of}
use Rattle.rp_base.specs.declared.plan.Plan.{Plan}
use Rattle.rp_defs.specs.declared.definition.Definition.{Definition}
use Rattle.rp_defs.specs.declared.definition.Definitions.{Definitions}
use Rattle.rp_types.specs.Guids.{guid_text}
use Rattle.rp_report.specs.Json.{integer}
use Rattle.rp_report.specs.Names.{name_text}
use Rattle.rp_report.specs.Plans.{change_word, file_text}
use Rattle.rp_report.specs.Tables.{kind_text}

-- the name of the file of a row's definition, null for a foreign row
abbrev pub owner_data : List Definition → Option ℕ → Data
owner_data list file = option_map_or (λ place. string (file_text list place)) file null

-- a row with its note
abbrev pub noted_data : List Definition → Noted → Data
noted_data list noted = object
    (member (codes "attrs") (string (encode_lower (to_be_bytes w64 noted.0.attrs)))
    (member (codes "change") (string (change_word noted.1.change))
    (member (codes "file") (owner_data list noted.1.file)
    (member (codes "id") (string (guid_text noted.0.id))
    (member (codes "name") (string (name_text noted.0.name))
    (member (codes "size") (integer noted.0.size)
    (member (codes "slot") (integer noted.0.slot)
    (member (codes "start") (integer noted.0.start)
    (member (codes "type") (string (kind_text noted.0.kind))
    no_members)))))))))

-- the names of the files of these definitions
abbrev pub files_data : List Definition → List ℕ → Data
files_data list places = array (items_of (map (λ place. string (file_text list place)) places))

-- slots
abbrev pub slots_data : List ℕ → Data
slots_data slots = array (items_of (map integer slots))

-- the slots that a factory reset took out, where one was asked for, stand before the rest
abbrev pub with_reset : Option (List ℕ) → Members → Members
with_reset None members = members
with_reset (Some slots) members = member (codes "reset") (slots_data slots) members

-- what is told of a plan
abbrev pub plan_members : Plan → Definitions → ℕ → ℕ → Option (List ℕ) → Members
plan_members plan definitions steps writes reset =
    member (codes "disk") (string (guid_text plan.goal.disk))
    (member (codes "dropped") (files_data definitions.list plan.dropped)
    (member (codes "ignored") (integer definitions.ignored)
    (with_reset reset
    (member (codes "rows") (array (items_of (map (noted_data definitions.list) (noted_of plan))))
    (member (codes "steps") (integer steps)
    (member (codes "target") (integer plan.target)
    (member (codes "usable") (array (item (integer plan.goal.first) (item (integer plan.goal.last) no_items)))
    (member (codes "writes") (integer writes)
    no_members))))))))

-- that all was done stands before the rest
abbrev pub with_applied : Bool → Members → Members
with_applied applied members = if applied then member (codes "applied") (boolean true) members else members

-- the object, and the line's end
unfoldable pub plan_json : Plan → Definitions → ℕ → ℕ → Bool → Option (List ℕ) → List ℕ
plan_json plan definitions steps writes applied reset =
    compact_text (object (with_applied applied (plan_members plan definitions steps writes reset))) ++ codes "\n"
