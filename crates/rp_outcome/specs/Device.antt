-- A disk as a command finds it and leaves it.
use Rattle.std.specs.Prelude.{◌≡◌}
use Rattle.rp_disk.specs.Device.{Device, Earlier, StaysInside}
pub use Rattle.rp_disk.specs.Device.{Device, Known}

-- no changing call was made, and none passed its end, whatever past it can have
pub record IsOnlyRead (before now : Device) : Type 0 where
  pub calls : now.calls ≡ before.calls
  pub earlier : Earlier before now
  pub inside : StaysInside before now
