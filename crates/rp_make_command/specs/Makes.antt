-- What `make` does, stage by stage: the input is made and its definitions are read, the disk is synced, the image is looked at and
-- grown, it is planned for, the plan is carried out, and what the image differs in is looked for and told.
use Rattle.std.specs.Prelude.{ℕ, ◌≡◌, ◌⊎◌, List, All, Option, Some, Result, Ok, Err, IfOk, IfSome}
use Rattle.rp_apply.specs.Sourced.{paths_of}
use Rattle.rp_apply_command.specs.Applies.{CarriesOut, Opens, Outcome, PlanFits}
use Rattle.rp_base.specs.declared.faults.Failed.{Failed}
use Rattle.rp_base.specs.declared.guid.Guid.{Guid}
use Rattle.rp_check_command.specs.Checks.{Finds, check_request}
use Rattle.rp_defs.specs.declared.definition.Definitions.{Definitions}
use Rattle.rp_difference.specs.declared.difference.Difference.{Difference}
use Rattle.rp_gpt.specs.declared.table_fault.Empty.TheVariants.{Require}
use Rattle.rp_io.specs.Files.{Tree}
use Rattle.rp_io.specs.declared.stored.Stored.{Stored}
use Rattle.rp_make_command.specs.Summary.{TellsMade, front_text}
use Rattle.rp_make_command.specs.declared.checking.Unfound.{Unfound}
use Rattle.rp_make_command.specs.declared.checking.Unfound.TheVariants as unfound
use Rattle.rp_make_input.specs.MakeInput.{MakeInput, make_input}
use Rattle.rp_make_room.specs.Room.{Grows, Looks, room_in}
use Rattle.rp_outcome.specs.Device.{Device}
use Rattle.rp_outcome.specs.Output.{Output, Refuses}
use Rattle.rp_outcome.specs.Refusals.{Refusal, changed_refusal, disk_refusal, memory_refusal, source_refusal}
use Rattle.rp_outcome.specs.Store.{Store}
use Rattle.rp_planned.specs.Planning.{PlansImage}
use Rattle.rp_planned.specs.declared.planned.Planned.{Planned}
use Rattle.rp_planned.specs.declared.request.Request.{Request}
use Rattle.rp_reading.specs.Reading.{ReadsDefinitions}
use Rattle.rp_step.specs.Found.{HasFile}
use Rattle.rp_step.specs.declared.fault.ApplyFault.{ApplyFault}
use Rattle.rp_step.specs.declared.fault.ApplyFault.TheVariants.{DiskFault, SourceFault, SourceChanged}
use Rattle.rp_steps.specs.Steps.{steps}
use Rattle.rp_types.specs.declared.arch.Arch.TheVariants.{X86_64}

-- what is planned for: an image that shows no table, and keeps its length
abbrev pub make_request : Guid → Request
make_request seed = record { seed = seed; arch = X86_64; empty = Require; size = 0; sector = 512 }

-- folders or sources that were made: they tell what they hold, and no call has failed or strayed
abbrev pub made_store : {Held : Type 0} → Held → Store Held
made_store held = record { told = Some held; faults = 0; strays = 0 }

-- a call has failed only where one has strayed
abbrev pub FailsAstray : {Held : Type 0} → Store Held → Type 0
FailsAstray store = store.strays ≡ 0 → store.faults ≡ 0

-- the refusal of a plan that wasn't carried out
abbrev pub refusal_of : ApplyFault → Refusal
refusal_of DiskFault = disk_refusal
refusal_of SourceFault = source_refusal
refusal_of (SourceChanged planned copied) = changed_refusal planned copied

-- an answer with it
abbrev pub outcome_of : {T : Type 0} → Result T ApplyFault → Outcome
outcome_of (Ok value) = Ok tt
outcome_of (Err fault) = Err (refusal_of fault)

-- the refusal where what the image differs in wasn't found
abbrev pub unfound_refusal : Unfound → Refusal
unfound_refusal unfound.Disk = disk_refusal
unfound_refusal unfound.Memory = memory_refusal

-- nothing more was asked of disk and sources
abbrev pub EndsHere : Device → Device → Store (List Stored) → Store (List Stored) → Output → Output → ℕ → Refusal → Type 0
EndsHere disk later sources drained out after status refusal =
    (later ≡ disk) × (drained ≡ sources) × Refuses out after refusal status

-- what the image differs in is told behind the front of the summary, or the refusal is
abbrev pub TellsFound : List ℕ → Output → Output → ℕ → Result (Option Difference) Refusal → Type 0
TellsFound front out after status (Ok found) = TellsMade front out after status found
TellsFound front out after status (Err refusal) = Refuses out after refusal status

-- the image was compared with what is planned for it
abbrev pub MakesCompared : List ℕ → Planned → Device → Device → Output → Output → ℕ → Type 0
MakesCompared front planned disk later out after status =
    (answer : Result (Option Difference) Refusal) × Finds X86_64 planned disk later answer × TellsFound front out after status answer

-- it is, unless nothing is planned for it; then the disk isn't asked again
abbrev pub MakesComparedBehind : List ℕ → Device → Device → Output → Output → ℕ → Result Planned Refusal → Type 0
MakesComparedBehind front disk later out after status (Err refusal) = (later ≡ disk) × Refuses out after refusal status
MakesComparedBehind front disk later out after status (Ok planned) = MakesCompared front planned disk later out after status

-- what the definitions ask of the image that was made was planned, as by `check`, and compared
abbrev pub MakesChecked : Guid → List ℕ → Definitions → Device → Device → Store (List Stored) → Store (List Stored) → Output → Output
    → ℕ → Type 0
MakesChecked seed front definitions disk later sources drained out after status =
    (seen : Device) × (answer : Result Planned Refusal)
    × PlansImage (check_request seed X86_64 512) definitions.list disk seen sources drained answer
    × MakesComparedBehind front seen later out after status answer

-- the image is checked, unless the plan wasn't carried out
abbrev pub MakesCheckedBehind : ℕ → Guid → Definitions → Planned → Device → Device → Store (List Stored) → Store (List Stored) → Output
    → Output → ℕ → Outcome → Type 0
MakesCheckedBehind number seed definitions planned disk later sources drained out after status (Err refusal) =
    EndsHere disk later sources drained out after status refusal
MakesCheckedBehind number seed definitions planned disk later sources drained out after status (Ok done) =
    MakesChecked seed (front_text number planned) definitions disk later sources drained out after status

-- no source is asked for what it lacks, where each copy has its file
abbrev pub SourcesStay : Definitions → Planned → Store (List Stored) → Store (List Stored) → Type 0
SourcesStay definitions planned before now = IfSome before.told (λ files.
    All (HasFile files (paths_of definitions.list)) (steps planned.plan planned.seen) → now.strays ≡ before.strays)

-- the memory for carrying out and for the front of the summary was there, and the plan was carried out
abbrev pub MakesCarried : ℕ → Guid → Definitions → Planned → Device → Device → Store (List Stored) → Store (List Stored) → Output
    → Output → ℕ → Type 0
MakesCarried number seed definitions planned disk later sources drained out after status =
    (made : Device) × (left : Store (List Stored)) × (answer : Outcome)
    × CarriesOut definitions planned disk made sources left answer × SourcesStay definitions planned sources left
    × MakesCheckedBehind number seed definitions planned made later left drained out after status answer

-- what is planned is carried out, unless there was no memory for it
abbrev pub MakesPlanned : ℕ → Guid → Definitions → Planned → Device → Device → Store (List Stored) → Store (List Stored) → Output
    → Output → ℕ → Type 0
MakesPlanned number seed definitions planned disk later sources drained out after status =
    EndsHere disk later sources drained out after status memory_refusal
    ⊎ MakesCarried number seed definitions planned disk later sources drained out after status

abbrev pub MakesPlannedBehind : ℕ → Guid → Definitions → Device → Device → Store (List Stored) → Store (List Stored) → Output → Output
    → ℕ → Result Planned Refusal → Type 0
MakesPlannedBehind number seed definitions disk later sources drained out after status (Err refusal) =
    EndsHere disk later sources drained out after status refusal
MakesPlannedBehind number seed definitions disk later sources drained out after status (Ok planned) =
    MakesPlanned number seed definitions planned disk later sources drained out after status

-- it was planned for the image
abbrev pub MakesGrown : ℕ → Guid → Definitions → Device → Device → Store (List Stored) → Store (List Stored) → Output → Output → ℕ → Type 0
MakesGrown number seed definitions disk later sources drained out after status =
    (seen : Device) × (asked : Store (List Stored)) × (answer : Result Planned Refusal)
    × PlansImage (make_request seed) definitions.list disk seen sources asked answer × IfOk answer PlanFits
    × MakesPlannedBehind number seed definitions seen later asked drained out after status answer

-- it is, unless the disk failed
abbrev pub MakesGrownBehind : ℕ → Guid → Definitions → Device → Device → Store (List Stored) → Store (List Stored) → Output → Output
    → ℕ → Result (Unit {0}) Failed → Type 0
MakesGrownBehind number seed definitions disk later sources drained out after status (Err failed) =
    EndsHere disk later sources drained out after status disk_refusal
MakesGrownBehind number seed definitions disk later sources drained out after status (Ok done) =
    MakesGrown number seed definitions disk later sources drained out after status

-- an image of so many bytes was grown
abbrev pub MakesLooked : ℕ → Guid → Definitions → ℕ → Device → Device → Store (List Stored) → Store (List Stored) → Output → Output
    → ℕ → Type 0
MakesLooked number seed definitions len disk later sources drained out after status =
    (grown : Device) × (answer : Result (Unit {0}) Failed) × Grows len disk grown answer
    × MakesGrownBehind number seed definitions grown later sources drained out after status answer

-- it is, where it may be
abbrev pub MakesLookedBehind : ℕ → Guid → Definitions → Device → Device → Store (List Stored) → Store (List Stored) → Output → Output
    → ℕ → Result ℕ Refusal → Type 0
MakesLookedBehind number seed definitions disk later sources drained out after status (Err refusal) =
    EndsHere disk later sources drained out after status refusal
MakesLookedBehind number seed definitions disk later sources drained out after status (Ok len) =
    MakesLooked number seed definitions len disk later sources drained out after status

-- the image was looked at
abbrev pub MakesOpened : ℕ → Guid → Definitions → Device → Device → Store (List Stored) → Store (List Stored) → Output → Output → ℕ → Type 0
MakesOpened number seed definitions disk later sources drained out after status =
    (looked : Device) × (answer : Result ℕ Refusal) × Looks room_in disk looked answer
    × MakesLookedBehind number seed definitions looked later sources drained out after status answer

-- it is, once the disk was synced
abbrev pub MakesOpenedBehind : ℕ → Guid → Definitions → Device → Device → Store (List Stored) → Store (List Stored) → Output → Output
    → ℕ → Outcome → Type 0
MakesOpenedBehind number seed definitions disk later sources drained out after status (Err refusal) =
    EndsHere disk later sources drained out after status refusal
MakesOpenedBehind number seed definitions disk later sources drained out after status (Ok done) =
    MakesOpened number seed definitions disk later sources drained out after status

-- the disk was synced
abbrev pub MakesRead : ℕ → Guid → Definitions → Device → Device → Store (List Stored) → Store (List Stored) → Output → Output → ℕ → Type 0
MakesRead number seed definitions disk later sources drained out after status =
    (opened : Device) × (answer : Outcome) × Opens disk opened answer
    × MakesOpenedBehind number seed definitions opened later sources drained out after status answer

-- it is, once the definitions were read; the sources are those of the input
abbrev pub MakesReadBehind : ℕ → MakeInput → Device → Device → Output → Output → ℕ → Result Definitions Refusal → Type 0
MakesReadBehind number input disk later out after status (Err refusal) = (later ≡ disk) × Refuses out after refusal status
MakesReadBehind number input disk later out after status (Ok definitions) =
    (drained : Store (List Stored)) × FailsAstray drained
    × MakesRead number input.seed definitions disk later (made_store input.files) drained out after status

-- the definitions of an input were read
abbrev pub MakesFrom : ℕ → MakeInput → Device → Device → Output → Output → ℕ → Type 0
MakesFrom number input disk later out after status =
    (read : Store Tree) × (answer : Result Definitions Refusal)
    × ReadsDefinitions X86_64 input.dirs (made_store input.tree) read answer × FailsAstray read
    × MakesReadBehind number input disk later out after status answer

-- those of the input of a number were, or there was no memory for it, and the disk wasn't asked
abbrev pub Makes : ℕ → Device → Device → Output → Output → ℕ → Type 0
Makes number disk later out after status =
    ((later ≡ disk) × Refuses out after memory_refusal status) ⊎ MakesFrom number (make_input number) disk later out after status
