-- Partition types by name (Discoverable Partitions Specification).
use Rattle.std.specs.Prelude.{List, ◌++◌, ℕ, ◌-◌, Bool, false, ◌||◌, Option, option_map, option_and_then, find, length, replicate, unwrap_or}
use Rattle.std.specs.Option.{option_map_or}
use Rattle.std.specs.Borrow.{Bor}
use Rattle.std.specs.Str.{bytes_eq}
use Rattle.rp_base.specs.declared.guid.Guid.{Guid}
use Rattle.rp_types.specs.Guids.{guid_text}
use Rattle.rp_types.specs.Designators.{designator_name, designator_under}
use Rattle.rp_types.specs.declared.arch.Arch.{Arch}
use Rattle.rp_types.specs.declared.arch.Designator.{Designator}
use Rattle.rp_types.specs.declared.table.PartitionType.{PartitionType}
use Rattle.rp_types.specs.Table.{types}

-- a name and a type, where the name was lent
abbrev pub as_listed : Bor (List ℕ) × PartitionType → List ℕ × PartitionType
as_listed entry = (entry.0.now, entry.1)

-- whether an entry is called this: by its own name, or by its designator's
abbrev pub is_called : List ℕ → Arch → List ℕ × PartitionType → Bool
is_called name arch entry =
    bytes_eq entry.0 name
    || option_map_or (λ d. bytes_eq (designator_name d) name) (designator_under arch entry.1) false

-- the type of a name (repart.d(5), Type=)
unfoldable pub by_name : List ℕ → Arch → Option Guid
by_name name arch = option_map (λ entry. entry.1.kind) (find (is_called name arch) types)

-- the entry of a type
unfoldable pub entry_of : Guid → Option (List ℕ × PartitionType)
entry_of kind = find (λ entry. bytes_eq entry.1.kind.0 kind.0) types

-- a type's name
unfoldable pub by_guid : Guid → Option (List ℕ)
by_guid kind = option_map (λ entry. entry.0) (entry_of kind)

-- a type's designator under an architecture
unfoldable pub designator_of : Guid → Arch → Option Designator
designator_of kind arch = option_and_then (λ entry. designator_under arch entry.1) (entry_of kind)

-- the attribute bits that a type supports: none where it has no name
unfoldable pub bits_of : Guid → ℕ
bits_of kind = option_map_or (λ entry. entry.1.bits) (entry_of kind) 0

-- a text of ASCII as the n units of a label, zeros behind it (UEFI 2.10, 5.3.3)
abbrev pub padded : ℕ → List ℕ → List ℕ
padded n text = text ++ replicate (n - length text) 0

-- the label of a partition that is given none: its type's name, or the type as a text
unfoldable pub label_of : Guid → List ℕ
label_of kind = padded 36 (unwrap_or (by_guid kind) (guid_text kind))
