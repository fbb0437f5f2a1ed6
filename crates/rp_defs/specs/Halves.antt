-- Verity pairs (repart.d(5), Verity= and VerityMatchKey=): a data definition and a hash definition of one key.
use Rattle.std.specs.Prelude.{ℕ, ℤ, List, Bool, true, false, not, ◌&&◌, ◌==◌, Option, Some, None, Result, Ok, Err, count_by, find, map}
use Rattle.std.specs.Prelude.{slice_get}
use Rattle.std.specs.List.{position_or_len}
use Rattle.std.specs.Option.{option_map_or, is_some, is_none}
use Rattle.std.specs.Str.{bytes_eq}
use Rattle.rp_defs.specs.declared.definition.Definition.{Definition}
use Rattle.rp_defs.specs.declared.definition.Verity.TheVariants as verity
use Rattle.rp_defs.specs.declared.fault.DefFault.{DefFault}
use Rattle.rp_defs.specs.declared.fault.DefKind.TheVariants.{VerityPair}
use Rattle.rp_defs.specs.Faults.{whole_fault}
use Rattle.rp_defs.specs.Partner.{greater, with_partner}
use Rattle.rp_defs.specs.Said.{Half, Off, Data, Hash}
use Rattle.rp_defs.specs.Stated.{Stated}

-- whether two halves are one
abbrev pub same_half : Half → Half → Bool
same_half Off Off = true
same_half Data Data = true
same_half Hash Hash = true
same_half half other = false

-- a definition is this half of the pair of a key
abbrev pub is_half : Half → List ℕ → Stated → Bool
is_half half key one = same_half half one.half && option_map_or (bytes_eq key) one.match_key false

-- exactly one data definition and one hash definition have the key
abbrev pub is_pair : List Stated → List ℕ → Bool
is_pair all key = count_by (is_half Data key) all == 1 && count_by (is_half Hash key) all == 1

-- whether a definition's key has a pair
abbrev pub has_pair : List Stated → Stated → Bool
has_pair all one = option_map_or (is_pair all) one.match_key false

-- a definition that is no half, or the data of a pair, with a source, or the hash of one, without
abbrev pub is_joined : List Stated → Half → Stated → Bool
is_joined all Off one = true
is_joined all Data one = has_pair all one && is_some one.definition.source
is_joined all Hash one = has_pair all one && is_none one.definition.source

-- the place of a half of the pair of a definition's key
abbrev pub place_of : List Stated → Half → Stated → ℕ
place_of all half one = option_map_or (λ key. position_or_len (is_half half key) all) one.match_key 0

-- the greater of a definition's priority and that of the definition at a place
abbrev pub shared_priority : List Stated → ℕ → Stated → ℤ
shared_priority all place one =
    option_map_or (λ other. greater one.definition.priority other.definition.priority) (slice_get all place) one.definition.priority

-- half of a pair names its partner, and both halves have the greater of their priorities
abbrev pub joined : List Stated → Half → Stated → Definition
joined all Off one = one.definition
joined all Data one = let place = place_of all Hash one in with_partner one.definition (verity.Data place) (shared_priority all place one)
joined all Hash one = let place = place_of all Data one in with_partner one.definition (verity.Hash place) (shared_priority all place one)

abbrev pub unless_alone : List Stated → Option Stated → Result (List Definition) DefFault
unless_alone all None = Ok (map (λ one. joined all one.half one) all)
unless_alone all (Some one) = Err (whole_fault one.definition.file VerityPair)

-- the definitions, or the fault of the first that isn't joined
abbrev pub paired : List Stated → Result (List Definition) DefFault
paired all = unless_alone all (find (λ one. not (is_joined all one.half one)) all)
