-- What `apply` does, stage by stage: the definitions are read, the disk is synced, what is to become of the image is planned, all
-- memory is taken, the plan is carried out, and it is told.
use Rattle.std.specs.Prelude.{ℕ, ◌≡◌, ◌≢◌, ◌⊎◌, List, [], ◌∷◌, Any, Bool, true, length, Option, None, Result, Ok, Err, IfOk, IfSome, IfErr}
use Rattle.rp_apply.specs.Called.{AreCallsFor}
use Rattle.rp_apply.specs.Sourced.{paths_of}
use Rattle.rp_step.specs.Sourced.{sources_in}
use Rattle.rp_base.specs.Plan.{Noted, noted_of}
use Rattle.rp_base.specs.Table.{TableFits}
use Rattle.rp_base.specs.declared.guid.Guid.{Guid}
use Rattle.rp_base.specs.declared.plan.Role.TheVariants.{Hash}
use Rattle.rp_defs.specs.declared.definition.Definitions.{Definitions}
use Rattle.rp_disk.specs.Device.{Earlier, IsPossible, StaysInside}
use Rattle.rp_disk.specs.Made.{Past}
use Rattle.rp_disk.specs.Runs.{Runs}
use Rattle.rp_disk.specs.declared.call.Call.{Call}
use Rattle.rp_disk.specs.declared.call.Call.TheVariants.{Sync}
use Rattle.rp_io.specs.Files.{Tree}
use Rattle.rp_io.specs.declared.stored.Stored.{Stored}
use Rattle.rp_outcome.specs.Device.{Device}
use Rattle.rp_outcome.specs.Output.{Output, Finishes, Refuses}
use Rattle.rp_outcome.specs.Refusals.{Refusal, changed_refusal, disk_refusal, memory_refusal, source_refusal}
use Rattle.rp_outcome.specs.Statuses as exit
use Rattle.rp_outcome.specs.Store.{Store}
use Rattle.rp_planned.specs.Planning.{PlansImage}
use Rattle.rp_planned.specs.declared.planned.Planned.{Planned}
use Rattle.rp_planned.specs.declared.request.Request.{Request}
use Rattle.rp_reading.specs.Reading.{ReadsDefinitions}
use Rattle.rp_reading.specs.Stages.{HasStageCause}
use Rattle.rp_report.specs.Reports.{plan_report}
use Rattle.rp_steps.specs.Calls.{calls as calls_for}
use Rattle.rp_steps.specs.Contents.{NotesFit}
use Rattle.rp_steps.specs.Steps.{steps}
use Rattle.rp_steps.specs.Writes.{writes}

-- an answer that is done or refused, and tells no more
abbrev pub Outcome : Type 0
Outcome = Result (Unit {0}) Refusal

-- the disk was synced, or the sync failed; no other call was made
pub record Opens (before now : Device) (answer : Outcome) : Type 0 where
  pub earlier : Earlier before now
  pub ran : Runs before.calls (Sync ∷ []) now.calls answer
  pub answers : now.answers ≡ before.answers
  pub refusal : IfErr answer (λ refusal. refusal ≡ disk_refusal)
  pub cause : HasStageCause disk_refusal before.faults now.faults answer

-- the numbers of a plan are within their fields, as those of each value of its type are
pub record PlanFits (planned : Planned) : Type 0 where
  pub table : TableFits planned.plan.goal
  pub notes : NotesFit planned.plan

-- a row is the hash of a pair with this planned root
abbrev pub HasRoot : List ℕ → Noted → Type 0
HasRoot root noted = (partner : ℕ) × (blocks : ℕ) × (salt : List ℕ) × (uuid : Guid) × (noted.1.role ≡ Hash partner blocks salt uuid root)

-- a plan is refused while it is carried out: the disk failed, a source did, or the root of a pair that was copied isn't the
-- planned one
abbrev pub IsCommitRefusal : Planned → Refusal → Type 0
IsCommitRefusal planned refusal =
    (refusal ≡ disk_refusal) ⊎ (refusal ≡ source_refusal)
    ⊎ ((root : List ℕ) × (copied : List ℕ) × (refusal ≡ changed_refusal root copied) × (root ≢ copied)
    × Any (HasRoot root) (noted_of planned.plan))

-- no call of the disk failed but with its refusal, and none of the sources but with theirs
pub record HasCommitCauses (disk later : Device) (sources drained : Store (List Stored)) (answer : Outcome) : Type 0 where
  pub of_disk : HasStageCause disk_refusal disk.faults later.faults answer
  pub of_sources : HasStageCause source_refusal sources.faults drained.faults answer

-- this holds for each past that the disk can have by now, and where none is named
abbrev pub ForEachPast : Device → (Option Past → Type 0) → Type 0
ForEachPast now P = (o : Option Past) → IsPossible o now → P o

-- these calls carry out the plan, whatever bytes sources that don't tell have; for a past of the disk, where sources tell, they are
-- those of its steps, and no source has changed. They were all made, or the first of them
pub record RunsPlan (definitions : Definitions) (planned : Planned) (disk later : Device) (sources : Store (List Stored)) (answer : Outcome)
    (o : Option Past) (calls : List Call) : Type 0 where
  pub are : AreCallsFor planned.seen planned.plan calls
  pub exact : IfSome o (λ past. IfSome sources.told (λ files.
      (calls ≡ calls_for planned.plan planned.seen (sources_in files (paths_of definitions.list)))
      × IfErr answer (λ refusal. refusal.status ≢ exit.changed)))
  pub ran : Runs disk.calls calls later.calls answer

-- the calls of a plan were made, or the first of them
pub record CarriesOut (definitions : Definitions) (planned : Planned) (disk later : Device) (sources drained : Store (List Stored))
    (answer : Outcome) : Type 0 where
  pub earlier : Earlier disk later
  pub told : drained.told ≡ sources.told
  pub runs : ForEachPast later (λ o. (calls : List Call) × RunsPlan definitions planned disk later sources answer o calls)
  pub inside : StaysInside disk later
  pub refusal : IfErr answer (IsCommitRefusal planned)
  pub cause : HasCommitCauses disk later sources drained answer

-- what is printed of a plan that was carried out: the plan, with its steps and their writes, and that it was applied
abbrev pub applied_report : Bool → Definitions → Planned → List ℕ
applied_report json definitions planned =
    let taken = steps planned.plan planned.seen in
    plan_report json planned.plan definitions (length taken) (writes taken) true None

-- a plan that was carried out is told, as far as the sink takes it; or the refusal is
abbrev pub Tells : Bool → Definitions → Planned → Output → Output → ℕ → Outcome → Type 0
Tells json definitions planned out after status (Ok done) = Finishes out after (applied_report json definitions planned) status
Tells json definitions planned out after status (Err refusal) = Refuses out after refusal status

-- the memory for carrying out and for the text was there, and the plan was carried out
abbrev pub Commits : Bool → Definitions → Planned → Device → Device → Store (List Stored) → Store (List Stored) → Output → Output → ℕ
    → Type 0
Commits json definitions planned disk later sources drained out after status =
    (answer : Outcome) × CarriesOut definitions planned disk later sources drained answer
    × Tells json definitions planned out after status answer

-- nothing more was asked of disk and sources
abbrev pub EndsHere : Device → Device → Store (List Stored) → Store (List Stored) → Output → Output → ℕ → Refusal → Type 0
EndsHere disk later sources drained out after status refusal =
    (later ≡ disk) × (drained ≡ sources) × Refuses out after refusal status

-- what is planned is carried out, unless there was no memory for it
abbrev pub AppliesPlanned : Bool → Definitions → Device → Device → Store (List Stored) → Store (List Stored) → Output → Output → ℕ
    → Result Planned Refusal → Type 0
AppliesPlanned json definitions disk later sources drained out after status (Err refusal) =
    EndsHere disk later sources drained out after status refusal
AppliesPlanned json definitions disk later sources drained out after status (Ok planned) =
    EndsHere disk later sources drained out after status memory_refusal
    ⊎ Commits json definitions planned disk later sources drained out after status

-- it is planned for the image, once the disk was synced
abbrev pub AppliesOpened : Request → Bool → Definitions → Device → Device → Store (List Stored) → Store (List Stored) → Output → Output
    → ℕ → Outcome → Type 0
AppliesOpened request json definitions disk later sources drained out after status (Err refusal) =
    EndsHere disk later sources drained out after status refusal
AppliesOpened request json definitions disk later sources drained out after status (Ok done) =
    (read : Device) × (asked : Store (List Stored)) × (answer : Result Planned Refusal)
    × PlansImage request definitions.list disk read sources asked answer × IfOk answer PlanFits
    × AppliesPlanned json definitions read later asked drained out after status answer

-- the disk is synced, once definitions were read
abbrev pub AppliesBehind : Request → Bool → Device → Device → Store (List Stored) → Store (List Stored) → Output → Output → ℕ
    → Result Definitions Refusal → Type 0
AppliesBehind request json disk later sources drained out after status (Err refusal) =
    EndsHere disk later sources drained out after status refusal
AppliesBehind request json disk later sources drained out after status (Ok definitions) =
    (opened : Device) × (answer : Outcome) × Opens disk opened answer
    × AppliesOpened request json definitions opened later sources drained out after status answer

-- the definitions are read, the disk is synced, it is planned, carried out and told
abbrev pub Applies : Request → Bool → List (List ℕ) → Store Tree → Store Tree → Device → Device → Store (List Stored)
    → Store (List Stored) → Output → Output → ℕ → Type 0
Applies request json dirs folders read disk later sources drained out after status =
    (definitions : Result Definitions Refusal) × ReadsDefinitions request.arch dirs folders read definitions
    × AppliesBehind request json disk later sources drained out after status definitions
