-- What `apply` promises of an image: each sentence of it.
use Rattle.std.specs.Prelude.{ℕ, ◌≡◌, ◌≤◌, ◌⊎◌, List, [], ◌∷◌, Bool, IfSome, Ok, length}
use Rattle.rp_apply_command.specs.Applies.{Applies}
use Rattle.rp_apply_command.specs.Ends.{AreRead, AtTheEnd, Given, IsBegun, IsGoalOf, LeavesAll}
use Rattle.rp_cli.specs.Asked.{AreAllAsBefore}
use Rattle.rp_defs.specs.declared.definition.Definitions.{Definitions}
use Rattle.rp_disk.specs.Device.{CanHave}
use Rattle.rp_disk.specs.History.{held}
use Rattle.rp_disk.specs.Made.{Past, history_of}
use Rattle.rp_disk.specs.Runs.{MadeFirst}
use Rattle.rp_disk.specs.declared.call.Call.TheVariants.{Sync}
use Rattle.rp_headline.specs.Left.{HasGoal, IsDoneWith}
use Rattle.rp_idle.specs.Idle.{IsIdle}
use Rattle.rp_io.specs.Files.{Tree}
use Rattle.rp_io.specs.declared.stored.Stored.{Stored}
use Rattle.rp_outcome.specs.Device.{Device}
use Rattle.rp_outcome.specs.Output.{Output, Refuses}
use Rattle.rp_outcome.specs.Refusals.{memory_refusal}
use Rattle.rp_outcome.specs.Statuses as exit
use Rattle.rp_outcome.specs.Store.{Store}
use Rattle.rp_planned.specs.Planning.{planned_of}
use Rattle.rp_planned.specs.declared.planned.Planned.{Planned}
use Rattle.rp_planned.specs.declared.request.Request.{Request}
use Rattle.rp_reading.specs.Reading.{definitions_in}
use Rattle.rp_steps.specs.Contents.{contents}
use Rattle.rp_stops.specs.Rows.{grown}

-- what `apply` does, or there was no memory for the paths of the folders, and all is as before
abbrev pub AppliesAsked : Request → Bool → List (List ℕ) → Store Tree → Store Tree → Device → Device → Store (List Stored)
    → Store (List Stored) → Output → Output → ℕ → Type 0
AppliesAsked request json dirs folders read disk later sources drained out after status =
    Applies request json dirs folders read disk later sources drained out after status
    ⊎ (AreAllAsBefore folders read disk later sources drained × Refuses out after memory_refusal status)

-- of each past that the disk can have: the image's table is the goal of its old table and the definitions, by what was told of the
-- sources in this run, every old partition keeps its place and bytes, and a second run has nothing to do where none was dropped; where
-- the sources tell, the goal is the one by what they tell, and new partitions hold their contents
pub record IsApplied (request : Request) (dirs : List (List ℕ)) (folders : Store Tree) (disk later : Device) (sources : Store (List Stored))
    : Type 0 where
  pub definitions : Definitions
  pub planned : Planned
  pub read : AreRead request dirs folders definitions
  pub goal : (past : Past) → CanHave past later → IsGoalOf request definitions.list (held (history_of past disk.calls)) planned
  pub exact_goal : (past : Past) → CanHave past later → IfSome sources.told (λ files.
      planned_of request definitions.list (held (history_of past disk.calls)) files ≡ Ok planned)
  pub shows_goal : (past : Past) → CanHave past later → AtTheEnd past later
      (HasGoal request.sector (held (history_of past disk.calls)) planned.seen definitions.list request.seed planned.plan)
  pub holds_contents : (past : Past) → CanHave past later → IfSome sources.told (λ files. AtTheEnd past later
      (IsDoneWith request.sector (held (history_of past disk.calls)) planned.seen definitions.list request.seed planned.plan
      (contents planned.plan (Given definitions.list files) (grown (held (history_of past disk.calls)) planned.plan))))

-- stopped at any moment, the image shows the old table or the goal with all that, provided that no torn header passes its checksum
-- by chance: either nothing was carried out, and each image that a stop might leave is the old one, or could have been left when it
-- began, or the first calls of a plan were made that is the goal
abbrev pub IsSafeThroughout : Request → List (List ℕ) → Store Tree → Device → Device → Store (List Stored) → Type 0
IsSafeThroughout request dirs folders disk later sources =
    LeavesAll disk later
    ⊎ ((definitions : Definitions) × (planned : Planned) × AreRead request dirs folders definitions
    × IsBegun request definitions.list disk later sources planned)

-- a second run writes nothing: where an image is idle for the definitions and isn't to grow, no call is made but the sync
abbrev pub WritesNothingIdle : Request → List (List ℕ) → Store Tree → Device → Device → Type 0
WritesNothingIdle request dirs folders disk later =
    (past : Past) → CanHave past later → IfSome folders.told (λ tree. (definitions : Definitions)
    → definitions_in request.arch tree dirs ≡ Ok definitions
    → IsIdle request.sector (held (history_of past disk.calls)) definitions.list request.seed
    → request.size ≤ length (held (history_of past disk.calls)) → MadeFirst disk.calls (Sync ∷ []) later.calls)
