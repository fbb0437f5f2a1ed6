-- What a call that only reads leaves of a disk: serves this crate's proofs.
use Rattle.std.specs.Prelude.{ℕ, ◌≡◌, ◌+◌, ◌*◌, ◌≤◌, max, length, Result}
use Rattle.rp_base.specs.declared.faults.Failed.{Failed}
use Rattle.rp_base.specs.declared.table.Row.{Row}
use Rattle.rp_base.specs.Faults.{HasCause}
use Rattle.rp_disk.specs.Device.{Device, Earlier, StaysInsideWhere}
use Rattle.rp_disk.specs.History.{held}

-- the byte behind a row's last one
abbrev pub end_of : Row → ℕ
end_of row = 512 * (row.start + row.size)

-- the same of the one that ends last
abbrev pub ends_of : Row → Row → ℕ
ends_of a b = max (end_of a) (end_of b)

-- no changing call, none past the end where the bytes reach to an end, and a fault only where the count rose
pub record Reads {T : Type 0} (end : ℕ) (before now : Device) (result : Result T Failed) : Type 0 where
  pub calls : now.calls ≡ before.calls
  pub earlier : Earlier before now
  pub inside : StaysInsideWhere before now (λ h. end ≤ length (held h))
  pub cause : HasCause before.faults now.faults result
