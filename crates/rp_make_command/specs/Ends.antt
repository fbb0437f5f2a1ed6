-- What is known of a run of `make` by its exit status.
use Rattle.std.specs.Prelude.{ℕ, ◌≢◌}
use Rattle.rp_outcome.specs.Causes.{HasCauses}
use Rattle.rp_outcome.specs.Device.{Device}
use Rattle.rp_outcome.specs.Output.{Output}
use Rattle.rp_outcome.specs.Statuses as exit

-- a failure of disk and sink has its status and comes only where they counted it, and none is passed over; words that are canonical
-- aren't refused
pub record MakeEnds (disk later : Device) (out after : Output) (status : ℕ) : Type 0 where
  pub causes : HasCauses disk later out after status
  pub words : status ≢ exit.words
