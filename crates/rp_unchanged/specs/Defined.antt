-- Definitions by which an image stays as it is made: own rules.
use Rattle.std.specs.Prelude.{ℕ, ◌≡◌, ◌==◌, pos, int_le, List, All, Bool, true, false, Some, None, slice_get, ⊤}
use Rattle.std.specs.Option.{option_map_or}
use Rattle.rp_base.specs.declared.guid.Guid.{Guid}
use Rattle.rp_defs.specs.declared.definition.Definition.{Definition}
use Rattle.rp_defs.specs.declared.definition.Verity.{Verity}
use Rattle.rp_defs.specs.declared.definition.Verity.TheVariants.{Off, Data}
use Rattle.rp_policy.specs.Judging.{place}
use Rattle.rp_types.specs.Types.{designator_of}
use Rattle.rp_types.specs.declared.arch.Arch.{Arch}
use Rattle.rp_types.specs.declared.arch.Designator.{Designator}
use Rattle.rp_types.specs.declared.arch.Designator.TheVariants.{Root, Usr, RootVerity, UsrVerity}

-- a half of a pair says no identifier, and gets that of the root hash (Discoverable Partitions Specification)
abbrev pub TakesHalf : Verity → Definition → Type 0
TakesHalf Off definition = ⊤
TakesHalf half definition = definition.id ≡ None

abbrev pub TakeHalves : List Definition → Type 0
TakeHalves defs = All (λ (definition : Definition). TakesHalf definition.verity definition) defs

-- a type is that of a designator, for the architecture (Discoverable Partitions Specification)
abbrev pub is_of : Arch → Designator → Guid → Bool
is_of arch d kind = option_map_or (λ e. place e == place d) (designator_of kind arch) false

-- each definition of one designator's type is the data of each that has the type of another
abbrev pub AreHalves : Arch → Designator → Designator → List Definition → Type 0
AreHalves arch d tree defs = (i j : ℕ) (payload hash : Definition) → slice_get defs i ≡ Some payload → slice_get defs j ≡ Some hash
    → is_of arch d payload.kind ≡ true → is_of arch tree hash.kind ≡ true → payload.verity ≡ Data j

-- those of root and usr are the data of those of their hash trees
abbrev pub AreSealed : Arch → List Definition → Type 0
AreSealed arch defs = AreHalves arch Root RootVerity defs × AreHalves arch Usr UsrVerity defs

-- none is dropped: those of priority 0 or lower never are (repart.d(5), Priority=)
abbrev pub AreNeverDropped : List Definition → Type 0
AreNeverDropped defs = All (λ (definition : Definition). int_le definition.priority (pos 0) ≡ true) defs

-- all of this: an image that is made by them differs in nothing from what they ask for again
pub record AreSteady (arch : Arch) (defs : List Definition) : Type 0 where
  pub kept : AreNeverDropped defs
  pub halves : TakeHalves defs
  pub sealed : AreSealed arch defs
