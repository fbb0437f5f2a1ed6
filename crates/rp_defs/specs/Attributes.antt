-- The attribute bits of a new partition (Discoverable Partitions Specification, partition flags).
use Rattle.std.specs.Prelude.{ℕ, [], ◌∷◌, Bool, true, false, if◌then◌else◌, bit_and}
use Rattle.std.specs.List.{list_any}
use Rattle.std.specs.Option.{option_map_or}
use Rattle.rp_base.specs.declared.guid.Guid.{Guid}
use Rattle.rp_types.specs.declared.arch.Arch.TheVariants.{X86_64, Arm64}
use Rattle.rp_types.specs.declared.arch.Designator.{Designator}
use Rattle.rp_types.specs.declared.arch.Designator.TheVariants as designators
use Rattle.rp_types.specs.Types.{bits_of, designator_of}

-- a type for the hashes or the signature of a file system, under either architecture
abbrev pub is_hash_designator : Designator → Bool
is_hash_designator designators.RootVerity = true
is_hash_designator designators.RootVeritySig = true
is_hash_designator designators.UsrVerity = true
is_hash_designator designators.UsrVeritySig = true
is_hash_designator other = false

abbrev pub is_hash_type : Guid → Bool
is_hash_type kind = list_any (λ arch. option_map_or is_hash_designator (designator_of kind arch) false) (X86_64 ∷ Arm64 ∷ [])

-- a bit of the attributes (Discoverable Partitions Specification, partition flags), where it is on and the type supports it,
-- which is the program's own rule
abbrev pub bit_of : Guid → ℕ → Bool → ℕ
bit_of kind bit on = if on then bit_and (bits_of kind) bit else 0
