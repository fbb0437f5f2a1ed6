-- What the texts of keys say (repart.d(5)), and what is wrong with them.
use Rattle.std.specs.Prelude.{ℕ, ℤ, List, Bool, ◌&&◌, nat_le, if◌then◌else◌, Option, Some, None, Result, Ok, Err, codes, length}
use Rattle.std.specs.Str.{bytes_eq}
use Rattle.rp_base.specs.declared.guid.Guid.{Guid}
use Rattle.rp_types.specs.declared.arch.Arch.{Arch}
use Rattle.rp_values.specs.Kinds.{id_of, kind_of}
use Rattle.rp_values.specs.Numbers.{size_of, weight_of, priority_of}
use Rattle.rp_values.specs.Switches.{switch_of}
use Rattle.rp_values.specs.Texts.{label_of_text, path_of, split_name_of}
use Rattle.rp_values.specs.declared.label.LabelFault.{LabelFault}
use Rattle.rp_values.specs.declared.label.LabelFault.TheVariants as labels
use Rattle.rp_values.specs.declared.split.SplitFault.{SplitFault}
use Rattle.rp_values.specs.declared.split.SplitFault.TheVariants as splits
use Rattle.rp_defs.specs.declared.fault.DefKind.{DefKind}
use Rattle.rp_defs.specs.declared.fault.DefKind.TheVariants.{BadValue, Unsupported, LabelTooLong, Memory}

-- which half of a verity pair a definition is
pub data Half : Type 0 where
  Off : Half
  Data : Half
  Hash : Half

-- what a text says, none where that is as good as unset, or what is wrong with it; a key is named by its number
abbrev pub Said : Type 0 → Type 0
Said T = Result (Option T) DefKind

-- a value, or a BadValue of the key
abbrev pub or_bad : {T : Type 0} → ℕ → Option T → Said T
or_bad key None = Err (BadValue key)
or_bad key (Some value) = Ok (Some value)

-- a partition type, by its name or as a GUID
abbrev pub kind_said : Arch → ℕ → List ℕ → Said Guid
kind_said arch key text = or_bad key (kind_of arch text)

-- a fixed identifier; `null` isn't supported
abbrev pub id_said : ℕ → List ℕ → Said Guid
id_said key text = if bytes_eq text (codes "null") then Err (Unsupported key) else or_bad key (id_of text)

-- a label's fault as one of its key; `label_of_text` never answers want of memory
abbrev pub label_kind : ℕ → LabelFault → DefKind
label_kind key labels.BadLabel = BadValue key
label_kind key labels.TooLong = LabelTooLong
label_kind key labels.Memory = Memory

abbrev pub or_label_fault : ℕ → Result (List ℕ) LabelFault → Said (List ℕ)
or_label_fault key (Ok units) = Ok (Some units)
or_label_fault key (Err fault) = Err (label_kind key fault)

-- a partition's name, in units of UTF-16
abbrev pub label_said : Arch → ℕ → List ℕ → Said (List ℕ)
label_said arch key text = or_label_fault key (label_of_text arch text)

abbrev pub priority_said : ℕ → List ℕ → Said ℤ
priority_said key text = or_bad key (priority_of text)

abbrev pub weight_said : ℕ → List ℕ → Said ℕ
weight_said key text = or_bad key (weight_of text)

-- a size in bytes
abbrev pub size_said : ℕ → List ℕ → Said ℕ
size_said key text = or_bad key (size_of text)

abbrev pub switch_said : ℕ → List ℕ → Said Bool
switch_said key text = or_bad key (switch_of text)

-- the file whose blocks are copied; `auto` isn't supported
abbrev pub path_said : Arch → ℕ → List ℕ → Said (List ℕ)
path_said arch key text = if bytes_eq text (codes "auto") then Err (Unsupported key) else or_bad key (path_of arch text)

-- which half of a verity pair a definition is; a signature isn't supported
abbrev pub half_said : ℕ → List ℕ → Said Half
half_said key text =
    if bytes_eq text (codes "off") then Ok (Some Off)
    else if bytes_eq text (codes "data") then Ok (Some Data)
    else if bytes_eq text (codes "hash") then Ok (Some Hash)
    else if bytes_eq text (codes "signature") then Err (Unsupported key)
    else Err (BadValue key)

-- what joins the halves of a pair: 1 to 64 bytes
abbrev pub match_said : ℕ → List ℕ → Said (List ℕ)
match_said key text = if nat_le 1 (length text) && nat_le (length text) 64 then Ok (Some text) else Err (BadValue key)

-- the name of the file that a partition is split into; `split_name_of` never answers want of memory
abbrev pub split_kind : ℕ → SplitFault → DefKind
split_kind key splits.BadName = BadValue key
split_kind key splits.Memory = Memory

abbrev pub or_split_fault : ℕ → Result (Option (List ℕ)) SplitFault → Said (List ℕ)
or_split_fault key (Ok name) = Ok name
or_split_fault key (Err fault) = Err (split_kind key fault)

abbrev pub split_said : Arch → ℕ → List ℕ → Said (List ℕ)
split_said arch key text = or_split_fault key (split_name_of arch text)

-- a key that isn't supported
abbrev pub refused_said : ℕ → List ℕ → Said (List ℕ)
refused_said key text = Err (Unsupported key)

-- one that isn't supported but where it is off
abbrev pub off_said : ℕ → List ℕ → Said (List ℕ)
off_said key text = if bytes_eq text (codes "off") then Ok None else Err (Unsupported key)
