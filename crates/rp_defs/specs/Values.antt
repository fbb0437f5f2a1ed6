-- The values of keys, as the code keeps them, and the faults of them.
use Rattle.std.specs.Prelude.{ℕ, List, Option, Some, None, Result, Ok, Err, codes, length, slice_index_or}
use Rattle.std.specs.Option.{option_and_then, option_map}
use Rattle.std.specs.List.{range_with_len}
use Rattle.rp_base.specs.declared.guid.Guid.{Guid}
use Rattle.rp_types.specs.declared.arch.Arch.{Arch}
use Rattle.rp_defs.specs.declared.fault.DefFault.{DefFault}
use Rattle.rp_defs.specs.declared.fault.DefKind.{DefKind}
use Rattle.rp_defs.specs.declared.draft.Half.{Half as Kept}
use Rattle.rp_defs.specs.declared.draft.Half.TheVariants as kept
use Rattle.rp_defs.specs.declared.keys.Reader.{Reader}
use Rattle.rp_defs.specs.declared.keys.Reader.TheVariants as reader
use Rattle.rp_defs.specs.declared.setting.Setting.{Setting}
use Rattle.rp_defs.specs.declared.value.Value.{Value}
use Rattle.rp_defs.specs.declared.value.Value.TheVariants as value
use Rattle.rp_defs.specs.Answers.{after, each}
use Rattle.rp_defs.specs.Keys.{key_names, key_named}
use Rattle.rp_defs.specs.Readers.{reader_of}
use Rattle.rp_defs.specs.Said.{Half, Off, Data, Hash, Said, kind_said, id_said, label_said, priority_said, weight_said, size_said}
use Rattle.rp_defs.specs.Said.{switch_said, path_said, half_said, match_said, split_said, refused_said, off_said}
use Rattle.rp_defs.specs.Stated.{required}
use Rattle.rp_defs.specs.Value.{id_of as value_id}

-- a half as the code has it
abbrev pub half_kept : Half → Kept
half_kept Off = kept.Off
half_kept Data = kept.Data
half_kept Hash = kept.Hash

-- what was said as a value of the code, by how that is made
abbrev pub kept_as : {T E : Type 0} → (T → Value) → Result (Option T) E → Result (Option Value) E
kept_as make (Ok said) = Ok (option_map make said)
kept_as make (Err fault) = Err fault

abbrev pub kind_value : Arch → ℕ → List ℕ → Said Value
kind_value arch key text = kept_as value.Id (kind_said arch key text)

abbrev pub id_value : ℕ → List ℕ → Said Value
id_value key text = kept_as value.Id (id_said key text)

abbrev pub label_value : Arch → ℕ → List ℕ → Said Value
label_value arch key text = kept_as value.Label (label_said arch key text)

abbrev pub priority_value : ℕ → List ℕ → Said Value
priority_value key text = kept_as value.Priority (priority_said key text)

abbrev pub weight_value : ℕ → List ℕ → Said Value
weight_value key text = kept_as value.Weight (weight_said key text)

abbrev pub size_value : ℕ → List ℕ → Said Value
size_value key text = kept_as value.Size (size_said key text)

abbrev pub switch_value : ℕ → List ℕ → Said Value
switch_value key text = kept_as value.Switch (switch_said key text)

abbrev pub path_value : Arch → ℕ → List ℕ → Said Value
path_value arch key text = kept_as value.Text (path_said arch key text)

abbrev pub half_value : ℕ → List ℕ → Said Value
half_value key text = kept_as (λ half. value.Half (half_kept half)) (half_said key text)

abbrev pub match_value : ℕ → List ℕ → Said Value
match_value key text = kept_as value.Text (match_said key text)

abbrev pub split_value : Arch → ℕ → List ℕ → Said Value
split_value arch key text = kept_as value.Text (split_said arch key text)

abbrev pub off_value : ℕ → List ℕ → Said Value
off_value key text = kept_as value.Text (off_said key text)

-- the value of a key of this number, by how its value is read
unfoldable pub value_of : Arch → Reader → ℕ → List ℕ → Said Value
value_of arch reader.Type key text = kind_value arch key text
value_of arch reader.Label key text = label_value arch key text
value_of arch reader.Id key text = id_value key text
value_of arch reader.Priority key text = priority_value key text
value_of arch reader.Weight key text = weight_value key text
value_of arch reader.Size key text = size_value key text
value_of arch reader.Path key text = path_value arch key text
value_of arch reader.Half key text = half_value key text
value_of arch reader.MatchKey key text = match_value key text
value_of arch reader.Switch key text = switch_value key text
value_of arch reader.SplitName key text = split_value arch key text
value_of arch reader.Refused key text = kept_as value.Text (refused_said key text)
value_of arch reader.Off key text = off_value key text

-- a fault of a setting names its drop-in and its line
abbrev pub setting_fault : List ℕ → Setting → DefKind → DefFault
setting_fault file setting kind = record { file = file; part = setting.part; line = setting.line; kind = kind }

-- what was read of a setting
abbrev pub read_at : List ℕ → Setting → Said Value → Result (Option Value) DefFault
read_at file setting (Ok value) = Ok value
read_at file setting (Err kind) = Err (setting_fault file setting kind)

-- the same where the key may be unset
abbrev pub read_set : Arch → List ℕ → ℕ → Option Setting → Result (Option Value) DefFault
read_set arch file key None = Ok None
read_set arch file key (Some setting) = read_at file setting (value_of arch (reader_of key) key setting.value)

-- the value of the key of a number, none where it is unset, or the fault of the setting that counts
unfoldable pub value_at : Arch → List ℕ → List (Option Setting) → ℕ → Result (Option Value) DefFault
value_at arch file counting key = read_set arch file key (slice_index_or counting key None)

-- the partition type, which has to be set
unfoldable pub type_of : Arch → List ℕ → List (Option Setting) → Result Guid DefFault
type_of arch file counting =
    after (value_at arch file counting (key_named (codes "Type"))) (λ value. required file (option_and_then value_id value))

-- the values of all keys in their order, or the first fault
unfoldable pub values_of : Arch → List ℕ → List (Option Setting) → Result (List (Option Value)) DefFault
values_of arch file counting = each (value_at arch file counting) (range_with_len 0 (length key_names))
