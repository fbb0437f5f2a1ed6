-- Numbers of faults that are in grains.
use Rattle.std.specs.Prelude.{◌<◌, ◌^◌, ⊤}
use Rattle.rp_place.specs.declared.fit.PlaceFault.{PlaceFault}
use Rattle.rp_place.specs.declared.fit.PlaceFault.TheVariants.{Room, Slot, Memory}

-- in bytes they have at most 64 bits
abbrev pub IsSmall : PlaceFault → Type 0
IsSmall (Room file need largest) = (need < 2 ^ 52) × (largest < 2 ^ 52)
IsSmall (Slot file) = ⊤
IsSmall Memory = ⊤
