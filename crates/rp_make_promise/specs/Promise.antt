-- What `make` promises, at every status.
use Rattle.std.specs.Prelude.{ℕ, ◌≡◌, ◌≢◌}
use Rattle.rp_apply_command.specs.Ends.{AtEachMoment}
use Rattle.rp_base.specs.Faults.{Rose}
use Rattle.rp_disk.specs.Device.{CanHave}
use Rattle.rp_disk.specs.History.{held}
use Rattle.rp_disk.specs.Made.{Past, history_of}
use Rattle.rp_disk.specs.Runs.{MadeFirst}
use Rattle.rp_make_promise.specs.Complete.{AnswersImage, HasReason}
use Rattle.rp_make_promise.specs.Leaves.{IsLeftInMaking, LeavesGoal, make_calls}
use Rattle.rp_make_promise.specs.Told.{TellsSummary}
use Rattle.rp_outcome.specs.Device.{Device}
use Rattle.rp_outcome.specs.Output.{Output}
use Rattle.rp_outcome.specs.Statuses as exit

-- of a past that the disk can have: each status has its reason, and where no call fails it is the one that the image asks for; the calls
-- since the start are the first of those that make the image, and a stop at any moment leaves it as it could have been at the start, in
-- its growth, or with no table or the goal; and where it is done, the summary is told, and a stop leaves the goal alone
pub record MakesWell (number : ℕ) (disk later : Device) (out after : Output) (status : ℕ) (past : Past) : Type 0 where
  pub reason : HasReason disk later out after status
  pub answers : ¬ Rose disk.faults later.faults → ¬ Rose out.faults after.faults
      → AnswersImage number status (held (history_of past disk.calls))
  pub calls : MadeFirst disk.calls (make_calls number (held (history_of past disk.calls))) later.calls
  pub moments : AtEachMoment past disk later (IsLeftInMaking number (held (history_of past disk.calls)))
  pub told : status ≡ exit.done → TellsSummary number disk later out after
  pub leaves : status ≡ exit.done → LeavesGoal number disk later past

-- that holds of each past, and over every disk no folder or source fails
pub record MakePromise (number : ℕ) (disk later : Device) (out after : Output) (status : ℕ) : Type 0 where
  pub files : status ≢ exit.files
  pub well : (past : Past) → CanHave past later → MakesWell number disk later out after status past
