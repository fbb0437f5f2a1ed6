-- Failures of a run with a factory reset, and its exit status.
use Rattle.std.specs.Prelude.{ℕ, ◌≢◌, List}
use Rattle.rp_io.specs.Files.{Tree}
use Rattle.rp_io.specs.declared.stored.Stored.{Stored}
use Rattle.rp_outcome.specs.Causes.{HasCauses}
use Rattle.rp_outcome.specs.Device.{Device}
use Rattle.rp_outcome.specs.Output.{Output}
use Rattle.rp_outcome.specs.Statuses as exit
use Rattle.rp_outcome.specs.Store.{Store}
use Rattle.rp_planned.specs.Files.{HasFileCauses}

-- a failure has its status and none is passed over where the command is done; it never has the status of words that aren't canonical
pub record HasResetCauses (folders read : Store Tree) (disk later : Device) (sources drained : Store (List Stored)) (out after : Output)
    (status : ℕ) : Type 0 where
  pub causes : HasCauses disk later out after status
  pub files : HasFileCauses folders read sources drained out after status
  pub words : status ≢ exit.words
