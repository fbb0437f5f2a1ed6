-- What holds at the exit status of every command.
use Rattle.std.specs.Prelude.{ℕ, ◌≡◌, ◌⊎◌}
use Rattle.rp_base.specs.Faults.{Rose}
use Rattle.rp_outcome.specs.Device.{Device}
use Rattle.rp_outcome.specs.Output.{Output}
use Rattle.rp_outcome.specs.Statuses as exit

-- a failure of the disk has its own status, and comes only where the disk counted it; a failure of the sink has one too,
-- once all else was done, and none is passed over where the command is done
pub record HasCauses (disk later : Device) (out after : Output) (status : ℕ) : Type 0 where
  pub disk_failed : status ≡ exit.disk → Rose disk.faults later.faults
  pub disk_kept : (status ≡ exit.disk) ⊎ (later.faults ≡ disk.faults)
  pub sink_failed : status ≡ exit.sink → Rose out.faults after.faults
  pub sink_kept : status ≡ exit.done → after.faults ≡ out.faults
