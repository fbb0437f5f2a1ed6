-- What every list of definitions is.
use Rattle.std.specs.Prelude.{ℕ, ◌≡◌, ◌≢◌, ◌≤◌, List, Some, IfSome, IsSome, IsNone, All, length, replicate, slice_get, slice_index, ⊤}
use Rattle.rp_base.specs.Wants.{IsWant}
use Rattle.rp_defs.specs.declared.definition.Definition.{Definition}
use Rattle.rp_defs.specs.declared.definition.Verity.{Verity}
use Rattle.rp_defs.specs.declared.definition.Verity.TheVariants.{Off, Data, Hash}

-- by half: without verity a grain at least is asked for, and half of a pair has no weight
abbrev pub IsSized : Verity → Definition → Type 0
IsSized Off definition = 1 ≤ definition.want.min
IsSized half definition = definition.want.weight ≡ 0

-- a definition by itself: its type isn't zero, its want is in bounds, and a label doesn't begin with a zero unit
pub record IsSound (definition : Definition) : Type 0 where
  pub used : definition.kind.0 ≢ replicate 16 0
  pub want : IsWant definition.want
  pub label : IfSome definition.label (λ units. slice_index units 0 ≢ 0)
  pub sized : IsSized definition.verity definition

-- a data definition at one place and a hash definition at another name each other, have one priority, and the data alone has a source
pub record IsPair (data_place hash_place : ℕ) (of_data of_hash : Definition) : Type 0 where
  pub data_names : of_data.verity ≡ Data hash_place
  pub hash_names : of_hash.verity ≡ Hash data_place
  pub priority : of_data.priority ≡ of_hash.priority
  pub source : IsSome of_data.source
  pub no_source : IsNone of_hash.source

-- a definition's partner is there
abbrev pub HasPartner : List Definition → ℕ → Definition → Verity → Type 0
HasPartner list place definition Off = ⊤
HasPartner list place definition (Data partner) = (other : Definition) × (slice_get list partner ≡ Some other)
    × IsPair place partner definition other
HasPartner list place definition (Hash partner) = (other : Definition) × (slice_get list partner ≡ Some other)
    × IsPair partner place other definition

-- at most 256 definitions, each sound, and each half of a pair with its partner
pub record IsWellFormed (list : List Definition) : Type 0 where
  pub few : length list ≤ 256
  pub each : All IsSound list
  pub partners : (place : ℕ) (definition : Definition) → slice_get list place ≡ Some definition
      → HasPartner list place definition definition.verity
