-- Partition types and identifiers in definition files (repart.d(5): Type=, UUID=).
use Rattle.std.specs.Prelude.{ℕ, List, Option, Some, None, if◌then◌else◌, replicate}
use Rattle.std.specs.Option.{option_and_then, option_or}
use Rattle.std.specs.Str.{bytes_eq}
use Rattle.rp_base.specs.declared.guid.Guid.{Guid}
use Rattle.rp_types.specs.declared.arch.Arch.{Arch}
use Rattle.rp_types.specs.Guids.{guid_of}
use Rattle.rp_types.specs.Types.{by_name}

-- an identifier that isn't all zero
abbrev pub unless_zero : Guid → Option Guid
unless_zero id = if bytes_eq id.0 (replicate 16 0) then None else Some id

-- the identifier that a text says
unfoldable pub id_of : List ℕ → Option Guid
id_of text = option_and_then unless_zero (guid_of text)

-- the partition type that a text says, by its name or as a GUID
unfoldable pub kind_of : Arch → List ℕ → Option Guid
kind_of arch text = option_or (by_name text arch) (id_of text)
