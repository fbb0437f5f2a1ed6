-- Two runs of `apply` by the same words, one behind the other: own rules.
use Rattle.std.specs.Prelude.{ℕ, ◌≡◌, Bool, List, [], ◌∷◌, Some, Ok}
use Rattle.rp_apply_command.specs.Applies.{Applies, applied_report}
use Rattle.rp_apply_command.specs.Ends.{AtTheEnd}
use Rattle.rp_defs.specs.declared.definition.Definitions.{Definitions}
use Rattle.rp_disk.specs.Device.{CanHave}
use Rattle.rp_disk.specs.History.{held}
use Rattle.rp_disk.specs.Made.{Past, history_of}
use Rattle.rp_disk.specs.Runs.{MadeFirst}
use Rattle.rp_disk.specs.declared.call.Call.TheVariants.{Sync}
use Rattle.rp_gpt.specs.declared.table_fault.Empty.{Empty}
use Rattle.rp_idle.specs.Idle.{IsIdle}
use Rattle.rp_io.specs.Files.{Tree}
use Rattle.rp_io.specs.declared.stored.Stored.{Stored}
use Rattle.rp_outcome.specs.Device.{Device}
use Rattle.rp_outcome.specs.Output.{Finishes, Output}
use Rattle.rp_outcome.specs.Store.{Store}
use Rattle.rp_planned.specs.declared.planned.Planned.{Planned}
use Rattle.rp_planned.specs.declared.request.Request.{Request}
use Rattle.rp_reading.specs.Reading.{definitions_in}

-- a run by these words on a disk that holds this image, with folders that hold this tree, makes no call but its sync, whatever its
-- status: whatever is allowed of an image that shows no table, in whichever form it is told, whatever the sources are
abbrev pub MakesNoCall : Request → List (List ℕ) → Tree → List ℕ → Type 0
MakesNoCall request dirs tree image =
    (empty : Empty) (json : Bool) (folders read : Store Tree) (disk later : Device) (sources drained : Store (List Stored))
    (out after : Output) (status : ℕ) (past : Past)
    → folders.told ≡ Some tree → CanHave past later → held (history_of past disk.calls) ≡ image
    → Applies (record request { empty = empty }) json dirs folders read disk later sources drained out after status
    → MadeFirst disk.calls (Sync ∷ []) later.calls

-- a run told what was planned, and where that dropped none, each image that a stop may leave is idle for the folders' definitions,
-- and a second run on it makes no call
pub record LeavesNothingToDo (request : Request) (json : Bool) (dirs : List (List ℕ)) (tree : Tree) (later : Device)
    (out after : Output) (status : ℕ) (past : Past) : Type 0 where
  pub definitions : Definitions
  pub planned : Planned
  pub read : definitions_in request.arch tree dirs ≡ Ok definitions
  pub told : Finishes out after (applied_report json definitions planned) status
  pub idle : planned.plan.dropped ≡ [] → AtTheEnd past later (λ image. IsIdle request.sector image definitions.list request.seed)
  pub again : planned.plan.dropped ≡ [] → AtTheEnd past later (MakesNoCall request dirs tree)
