-- The definitions that are made from a number.
use Rattle.std.specs.Prelude.{ℕ, ◌≡◌, ◌+◌, pos, List, [], ◌∷◌, All, Option, Some, None, IfSome, codes, length, slice_get, Ok}
use Rattle.rp_base.specs.declared.guid.Guid.{Guid}
use Rattle.rp_defs.specs.declared.definition.Definition.{Definition}
use Rattle.rp_defs.specs.declared.definition.Definitions.{Definitions}
use Rattle.rp_defs.specs.declared.definition.Verity.{Verity}
use Rattle.rp_defs.specs.declared.definition.Verity.TheVariants.{Data, Hash}
use Rattle.rp_make_input.specs.MakeInput.{folders_of, tree_for}
use Rattle.rp_reading.specs.Reading.{definitions_in}
use Rattle.rp_types.specs.Table.{listed_guid}
use Rattle.rp_types.specs.declared.arch.Arch.TheVariants.{X86_64}
use Rattle.rp_unchanged.specs.Defined.{AreSteady}

-- a definition is never dropped, and has no source but the one that is made
pub record IsMade (definition : Definition) : Type 0 where
  pub priority : definition.priority ≡ pos 0
  pub source : IfSome definition.source (λ path. path ≡ codes "make.raw")

-- the type of the data of the pair: a root file system for x86-64 (Discoverable Partitions Specification)
abbrev pub root_kind : Guid
root_kind = listed_guid (codes "4f68bce3-e8cd-4db1-96e7-fbcaf984b709")

-- the data that a hash tree is over, by its place; for other definitions that of a later one
abbrev pub or_data : Option ℕ → Verity → Option ℕ
or_data later (Hash partner) = Some partner
or_data later other = later

-- that of the first hash tree
abbrev pub first_data : List Definition → Option ℕ
first_data [] = None
first_data (definition ∷ list) = or_data (first_data list) definition.verity

-- behind so many definitions and one is the data of the pair: a root file system that is copied from the source, and has no least size
-- but that of the source. The first hash tree is over it
pub record HasPair (number : ℕ) (list : List Definition) : Type 0 where
  pub payload : Definition
  pub there : slice_get list (number + 1) ≡ Some payload
  pub kind : payload.kind ≡ root_kind
  pub source : payload.source ≡ Some (codes "make.raw")
  pub least : payload.want.min ≡ 0
  pub half : payload.verity ≡ Data number
  pub first : first_data list ≡ Some (number + 1)

-- the files of a number say as many definitions as the number and two, the pair is among them, and an image that is made by them
-- differs in nothing from what they ask for again
pub record HasDefinitions (number : ℕ) : Type 0 where
  pub definitions : Definitions
  pub are : definitions_in X86_64 (tree_for number) folders_of ≡ Ok definitions
  pub count : length definitions.list ≡ number + 2
  pub each : All IsMade definitions.list
  pub pair : HasPair number definitions.list
  pub steady : AreSteady X86_64 definitions.list
