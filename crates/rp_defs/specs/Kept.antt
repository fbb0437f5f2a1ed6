-- What the pieces of a definition set, as the code keeps it: of each key the setting that counts.
use Rattle.std.specs.Prelude.{ℕ, ◌≢◌, List, [], ◌==◌, if◌then◌else◌, Option, Some, None, IfSome, find, length, map, reverse}
use Rattle.std.specs.List.{flat_map}
use Rattle.std.specs.Option.{option_and_then}
use Rattle.std.specs.Str.{bytes_eq}
use Rattle.rp_ini.specs.Lines.{Section, assigns_of}
use Rattle.rp_ini.specs.declared.assign.Assign.{Assign}
use Rattle.rp_files.specs.declared.piece.Piece.{Piece}
use Rattle.rp_defs.specs.declared.setting.Setting.{Setting}
use Rattle.rp_defs.specs.Keys.{key_names}
use Rattle.rp_defs.specs.Settings.{partition}

-- a key, and the setting of an assignment of it
abbrev pub Keyed : Type 0
Keyed = List ℕ × Setting

abbrev pub keyed : Piece → Assign → Keyed
keyed piece assign = (assign.key, record { part = piece.part; value = assign.value; line = assign.line })

abbrev pub keyed_in : Piece × List Section → List Keyed
keyed_in read = map (keyed read.0) (assigns_of read.1 partition)

-- an empty value means unset
abbrev pub unless_empty : Keyed → Option Setting
unless_empty set = if length set.1.value == 0 then None else Some set.1

-- the setting of a key that counts: the last one; where that is empty, none
abbrev pub counting : List Keyed → List ℕ → Option Setting
counting all name = option_and_then unless_empty (find (λ set. bytes_eq set.0 name) (reverse all))

-- the settings that count, by the places of the keys
unfoldable pub counting_of : List Keyed → List (Option Setting)
counting_of all = map (counting all) key_names

-- where a key is set, its value is not empty
abbrev pub IsSet : Option Setting → Type 0
IsSet set = IfSome set (λ setting. setting.value ≢ [])

-- what pieces that were read set
abbrev pub all_keyed : List (Piece × List Section) → List Keyed
all_keyed read = flat_map keyed_in read
