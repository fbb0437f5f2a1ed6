-- What is promised of a run of `make`, as one record.
use Rattle.std.proofs.Common.{ℕ, ◌≤◌}
use Rattle.rp_disk.specs.Device.{CanHave}
use Rattle.rp_disk.specs.Made.{Past}
use Rattle.rp_make_command.specs.Makes.{Makes}
use Rattle.rp_make_command.proofs.Unfailed.{never_files}
use Rattle.rp_outcome.specs.Device.{Device}
use Rattle.rp_outcome.specs.Output.{Output}
use Rattle.rp_make_promise.specs.Promise.{MakePromise, MakesWell}
use Rattle.rp_make_promise.proofs.Answered.{answers_so, reason_so}
use Rattle.rp_make_promise.proofs.Leaving.{leaves_in, leaves_so, makes_first}
use Rattle.rp_make_promise.proofs.Summed.{tells_so}

module _ (number : ℕ) (disk later : Device) (out after : Output) (status : ℕ) (high : number ≤ 100)
    (makes : Makes number disk later out after status) where
  well_at : (past : Past) → CanHave past later → MakesWell number disk later out after status past
  well_at past can = record {
    reason = reason_so number disk later out after status high makes past can;
    answers = answers_so number disk later out after status high makes past can;
    calls = makes_first number disk later out after status makes past can;
    moments = leaves_in number disk later out after status makes past can;
    told = tells_so number disk later out after status high makes past can;
    leaves = leaves_so number disk later out after status makes past can;
  }

  pub promise_so : MakePromise number disk later out after status
  promise_so = record {
    files = never_files number disk later out after status high makes;
    well = well_at;
  }
