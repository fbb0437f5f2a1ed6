-- What a run of `apply` made of an image, by its exit status, and what a stop at any moment might have left.
use Rattle.std.specs.Prelude.{ℕ, ◌≡◌, ◌⊎◌, ◌++◌, List, [], ◌∷◌, All, Bool, true, Option, IfSome, None, Ok}
use Rattle.rp_apply.specs.Sourced.{paths_of}
use Rattle.rp_step.specs.Sourced.{sources_in}
use Rattle.rp_base.specs.declared.plan.Change.TheVariants.{Same}
use Rattle.rp_base.specs.declared.plan.Plan.{Plan}
use Rattle.rp_defs.specs.WellFormed.{IsWellFormed}
use Rattle.rp_defs.specs.declared.definition.Definition.{Definition}
use Rattle.rp_defs.specs.declared.definition.Definitions.{Definitions}
use Rattle.rp_disk.specs.History.{IsSettled, LeftSince, MayLeave, moment, held}
use Rattle.rp_disk.specs.Made.{Past, dones, history_of}
use Rattle.rp_disk.specs.Runs.{MadeFirst}
use Rattle.rp_disk.specs.declared.call.Call.{Call}
use Rattle.rp_disk.specs.declared.call.Call.TheVariants.{Sync}
use Rattle.rp_headline.specs.Left.{HasGoal, IsDoneWith, IsLeft, IsSafeIfHonest, IsSafeIfWhole, IsUntouched, StopsIfHonest}
use Rattle.rp_idle.specs.Idle.{IsPlanned}
use Rattle.rp_io.specs.Files.{Tree}
use Rattle.rp_io.specs.declared.stored.Stored.{Stored}
use Rattle.rp_outcome.specs.Device.{Device}
use Rattle.rp_outcome.specs.Output.{Output, Finishes, PrintsAll, Refuses}
use Rattle.rp_outcome.specs.Refusals.{Refusal}
use Rattle.rp_outcome.specs.Statuses as exit
use Rattle.rp_outcome.specs.Store.{Store}
use Rattle.rp_planned.specs.Planning.{planned_of, target_of}
use Rattle.rp_planned.specs.declared.planned.Planned.{Planned}
use Rattle.rp_planned.specs.declared.request.Request.{Request}
use Rattle.rp_reading.specs.Reading.{definitions_in}
use Rattle.rp_report.specs.Reports.{plan_report}
use Rattle.rp_sizes.specs.declared.need.Fact.{Fact}
use Rattle.rp_steps.specs.Calls.{calls as calls_for}
use Rattle.rp_steps.specs.Contents.{Sources, contents}
use Rattle.rp_stops.specs.Rows.{grown}
use Rattle.rp_apply_command.specs.Applies.{ForEachPast, IsCommitRefusal, PlanFits, applied_report}
use Rattle.rp_apply.specs.Called.{AreCallsFor}

-- each image that a stop between or inside any calls of the run might have left could have been left when it began, or a sync was
-- done, and it is one of those that have Safe, by the calls made behind the sync
abbrev pub AtEachMoment : Past → Device → Device → (List Call → List ℕ → Type 0) → Type 0
AtEachMoment past disk later Safe =
    (made : List Call) (image : List ℕ) → LeftSince (history_of past later.calls) (moment (history_of past disk.calls)) made image
    → IsLeft (history_of past disk.calls) Safe made image

-- each image that a stop at the end may leave has P
abbrev pub AtTheEnd : Past → Device → (List ℕ → Type 0) → Type 0
AtTheEnd past later P = (image : List ℕ) → MayLeave (history_of past later.calls) image → P image

-- nothing was carried out: no call was made but a sync, and a stop since leaves the image that was shown, or one that could have been
-- left when it began
pub record LeavesAll (disk later : Device) : Type 0 where
  pub made : MadeFirst disk.calls (Sync ∷ []) later.calls
  pub at_moments : (past : Past) → AtEachMoment past disk later (IsUntouched (held (history_of past disk.calls)))

-- the plan is the goal of the old table and the definitions, by facts that the sources told in this run
abbrev pub IsGoalOf : Request → List Definition → List ℕ → Planned → Type 0
IsGoalOf request list old planned = (facts : List Fact)
    × IsPlanned request.sector old request.empty planned.seen (target_of request.size planned.seen) list facts request.seed planned.plan

-- the definitions are well formed, and those of the folders, where these tell
pub record AreRead (request : Request) (dirs : List (List ℕ)) (folders : Store Tree) (definitions : Definitions) : Type 0 where
  pub formed : IsWellFormed definitions.list
  pub told : IfSome folders.told (λ tree. definitions_in request.arch tree dirs ≡ Ok definitions)

-- what new rows hold, by these sources
abbrev pub Given : List Definition → List Stored → Sources
Given list files = sources_in files (paths_of list)

-- what holds of an image and its plan, whatever sources that don't tell have: a stop leaves the old table or the goal, with the
-- bytes of each old row
pub record StopsSafely (request : Request) (list : List Definition) (disk later : Device) (planned : Planned) (body : List Call)
    (past : Past) : Type 0 where
  pub goal : IsGoalOf request list (held (history_of past disk.calls)) planned
  pub at_moments : AtEachMoment past disk later
      (StopsIfHonest request.sector (held (history_of past disk.calls)) planned.seen planned.plan body)

-- where the sources tell too: the plan is the goal by what they tell, and the calls are those of its steps; a stop leaves
-- the old table or the goal with all that, and on a disk that writes each sector whole or not at all it does so without a premise on chance
pub record StopsExactly (request : Request) (list : List Definition) (disk later : Device) (planned : Planned) (calls : List Call)
    (past : Past) (files : List Stored) : Type 0 where
  pub goal : planned_of request list (held (history_of past disk.calls)) files ≡ Ok planned
  pub exact : calls ≡ calls_for planned.plan planned.seen (Given list files)
  pub at_moments : AtEachMoment past disk later (IsSafeIfHonest request.sector (held (history_of past disk.calls)) planned.seen
      planned.plan (contents planned.plan (Given list files) (grown (held (history_of past disk.calls)) planned.plan)))
  pub at_whole : AtEachMoment past disk later (IsSafeIfWhole request.sector (held (history_of past disk.calls)) planned.seen
      planned.plan (contents planned.plan (Given list files) (grown (held (history_of past disk.calls)) planned.plan)))

-- a plan was carried out, or the first of its calls behind a sync: they are those of its steps
pub record CarriesSome (request : Request) (list : List Definition) (disk later : Device) (sources : Store (List Stored))
    (planned : Planned) (o : Option Past) (calls : List Call) : Type 0 where
  pub fits : PlanFits planned
  pub are : AreCallsFor planned.seen planned.plan calls
  pub made : MadeFirst disk.calls (Sync ∷ calls) later.calls
  pub stops : IfSome o (StopsSafely request list disk later planned are.body)
  pub stops_exactly : IfSome o (λ past. IfSome sources.told (StopsExactly request list disk later planned calls past))

-- all of it was carried out: a sync and each call of its steps. Nothing is pending, so a stop leaves the bytes shown and nothing
-- else: its table is the goal, every old partition keeps its place and bytes, and a second run has nothing to do where none
-- was dropped; where the sources tell, it is the final image, and new partitions hold their contents
pub record CarriesAll (request : Request) (list : List Definition) (disk later : Device) (sources : Store (List Stored))
    (planned : Planned) (o : Option Past) (calls : List Call) : Type 0 where
  pub some : CarriesSome request list disk later sources planned o calls
  pub all : later.calls ≡ disk.calls ++ dones (Sync ∷ calls)
  pub settled : IfSome o (λ past. IsSettled (history_of past later.calls))
  pub ends : IfSome o (λ past. AtTheEnd past later
      (HasGoal request.sector (held (history_of past disk.calls)) planned.seen list request.seed planned.plan))
  pub ends_exactly : IfSome o (λ past. IfSome sources.told (λ files. AtTheEnd past later
      (IsDoneWith request.sector (held (history_of past disk.calls)) planned.seen list request.seed planned.plan
      (contents planned.plan (Given list files) (grown (held (history_of past disk.calls)) planned.plan)))))

-- of each past that the disk can have, and where none is named, calls carry out the plan: the first of them, or all
abbrev pub IsBegun : Request → List Definition → Device → Device → Store (List Stored) → Planned → Type 0
IsBegun request list disk later sources planned =
    ForEachPast later (λ o. (calls : List Call) × CarriesSome request list disk later sources planned o calls)

abbrev pub IsCarriedOut : Request → List Definition → Device → Device → Store (List Stored) → Planned → Type 0
IsCarriedOut request list disk later sources planned =
    ForEachPast later (λ o. (calls : List Call) × CarriesAll request list disk later sources planned o calls)

-- statuses at which nothing is carried out, at which all is, and at which it may have been begun
abbrev pub IsBefore : ℕ → Type 0
IsBefore status = (status ≡ exit.definitions) ⊎ (status ≡ exit.image) ⊎ (status ≡ exit.demand) ⊎ (status ≡ exit.memory)

abbrev pub IsBehind : ℕ → Type 0
IsBehind status = (status ≡ exit.done) ⊎ (status ≡ exit.sink)

abbrev pub IsBetween : ℕ → Type 0
IsBetween status = (status ≡ exit.disk) ⊎ (status ≡ exit.files) ⊎ (status ≡ exit.changed)

-- how a run of `apply` ends: refused before anything was carried out; with all carried out and told, as far as the sink took it;
-- or broken off, before anything was carried out or on the way
pub data Ends (request : Request) (json : Bool) (dirs : List (List ℕ)) (folders : Store Tree) (disk later : Device)
    (sources : Store (List Stored)) (out after : Output) (status : ℕ) : Type 0 where
  before : IsBefore status → LeavesAll disk later → Ends request json dirs folders disk later sources out after status
  behind : IsBehind status → (definitions : Definitions) (planned : Planned) → AreRead request dirs folders definitions
      → IsCarriedOut request definitions.list disk later sources planned
      → Finishes out after (applied_report json definitions planned) status
      → Ends request json dirs folders disk later sources out after status
  broken : IsBetween status → LeavesAll disk later → Ends request json dirs folders disk later sources out after status
  between : IsBetween status → (definitions : Definitions) (planned : Planned) → AreRead request dirs folders definitions
      → IsBegun request definitions.list disk later sources planned → (refusal : Refusal) → IsCommitRefusal planned refusal
      → Refuses out after refusal status → Ends request json dirs folders disk later sources out after status

-- what was printed of a plan that changes nothing: no steps, no writes, and each row the same
abbrev pub TellsUnchanged : Bool → Definitions → Output → Output → Type 0
TellsUnchanged json definitions out after =
    (plan : Plan) × All (λ note. note.change ≡ Same) plan.notes × PrintsAll out after (plan_report json plan definitions 0 0 true None)
