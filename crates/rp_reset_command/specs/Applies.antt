-- What `apply` does with a factory reset, stage by stage: the definitions are read, the disk is synced, the reset and what is to become of
-- the image behind it are planned, all memory is taken, both plans are carried out, and it is told.
use Rattle.std.specs.Prelude.{ℕ, ◌≡◌, ◌⊎◌, List, [], ◌++◌, Bool, true, Option, Some, None, Result, Ok, Err, IfOk}
use Rattle.rp_apply_command.specs.Applies.{CarriesOut, EndsHere, Opens, Outcome, PlanFits}
use Rattle.rp_base.specs.declared.plan.Plan.{Plan}
use Rattle.rp_defs.specs.declared.definition.Definitions.{Definitions}
use Rattle.rp_disk.specs.declared.call.Call.{Call}
use Rattle.rp_io.specs.Files.{Tree}
use Rattle.rp_io.specs.declared.stored.Stored.{Stored}
use Rattle.rp_outcome.specs.Device.{Device}
use Rattle.rp_outcome.specs.Output.{Output, Finishes, Refuses}
use Rattle.rp_outcome.specs.Refusals.{Refusal, changed_refusal, disk_refusal, memory_refusal, source_refusal}
use Rattle.rp_outcome.specs.Store.{Store}
use Rattle.rp_planned.specs.declared.planned.Planned.{Planned}
use Rattle.rp_planned.specs.declared.request.Request.{Request}
use Rattle.rp_reading.specs.Reading.{ReadsDefinitions}
use Rattle.rp_reading.specs.Stages.{refused}
use Rattle.rp_step.specs.declared.fault.ApplyFault.{ApplyFault}
use Rattle.rp_step.specs.declared.fault.ApplyFault.TheVariants.{DiskFault, SourceFault, SourceChanged}
use Rattle.rp_reset_command.specs.Renewing.{RenewsImage, with_reset}
use Rattle.rp_reset_command.specs.Reports.{renewal_report}
use Rattle.rp_reset_command.specs.declared.renewal.Renewal.{Renewal}

-- the refusal of each fault
abbrev pub fault_refusal : ApplyFault → Refusal
fault_refusal DiskFault = disk_refusal
fault_refusal SourceFault = source_refusal
fault_refusal (SourceChanged planned copied) = changed_refusal planned copied

-- what carrying out answers, with its fault as a refusal
abbrev pub outcome_of : Result (Unit {0}) ApplyFault → Outcome
outcome_of result = refused fault_refusal result

-- the second plan is carried out, where the first was; else no call of it is made
abbrev pub GoesOn : Definitions → Planned → Device → Device → Store (List Stored) → Store (List Stored) → Outcome → Outcome → Type 0
GoesOn definitions planned disk later sources drained (Err refusal) answer =
    (later ≡ disk) × (drained ≡ sources) × (answer ≡ Err refusal)
GoesOn definitions planned disk later sources drained (Ok done) answer =
    CarriesOut definitions planned disk later sources drained answer

-- the plan of the reset is carried out, and then the one behind it
pub record CarriesBoth (definitions : Definitions) (renewal : Renewal) (reset : Plan) (disk later : Device)
    (sources drained : Store (List Stored)) (answer : Outcome) : Type 0 where
  pub middle : Device
  pub between : Store (List Stored)
  pub outcome : Outcome
  pub resets : CarriesOut definitions (with_reset renewal reset) disk middle sources between outcome
  pub goes_on : GoesOn definitions renewal.planned middle later between drained outcome answer

-- where no row is taken out, there is one plan alone
abbrev pub CarriesRenewal : Definitions → Renewal → Option Plan → Device → Device → Store (List Stored) → Store (List Stored)
    → Outcome → Type 0
CarriesRenewal definitions renewal None disk later sources drained answer =
    CarriesOut definitions renewal.planned disk later sources drained answer
CarriesRenewal definitions renewal (Some reset) disk later sources drained answer =
    CarriesBoth definitions renewal reset disk later sources drained answer

-- what was carried out is told, as far as the sink takes it; or the refusal is
abbrev pub TellsApplied : Bool → Definitions → Renewal → Output → Output → ℕ → Outcome → Type 0
TellsApplied json definitions renewal out after status (Ok done) = Finishes out after (renewal_report json definitions renewal true) status
TellsApplied json definitions renewal out after status (Err refusal) = Refuses out after refusal status

-- the memory for carrying out and for the text was there, and it was carried out
abbrev pub Commits : Bool → Definitions → Renewal → Device → Device → Store (List Stored) → Store (List Stored) → Output → Output → ℕ
    → Type 0
Commits json definitions renewal disk later sources drained out after status =
    (answer : Outcome) × CarriesRenewal definitions renewal renewal.reset disk later sources drained answer
    × TellsApplied json definitions renewal out after status answer

-- what is planned is carried out, unless there was no memory for it
abbrev pub AppliesPlanned : Bool → Definitions → Device → Device → Store (List Stored) → Store (List Stored) → Output → Output → ℕ
    → Result Renewal Refusal → Type 0
AppliesPlanned json definitions disk later sources drained out after status (Err refusal) =
    EndsHere disk later sources drained out after status refusal
AppliesPlanned json definitions disk later sources drained out after status (Ok renewal) =
    EndsHere disk later sources drained out after status memory_refusal
    ⊎ Commits json definitions renewal disk later sources drained out after status

-- it is planned for the image, once the disk was synced
abbrev pub AppliesOpened : Request → Bool → Definitions → Device → Device → Store (List Stored) → Store (List Stored) → Output → Output
    → ℕ → Outcome → Type 0
AppliesOpened request json definitions disk later sources drained out after status (Err refusal) =
    EndsHere disk later sources drained out after status refusal
AppliesOpened request json definitions disk later sources drained out after status (Ok done) =
    (read : Device) × (asked : Store (List Stored)) × (answer : Result Renewal Refusal)
    × RenewsImage request definitions.list disk read sources asked answer × IfOk answer (λ renewal. PlanFits renewal.planned)
    × AppliesPlanned json definitions read later asked drained out after status answer

-- the disk is synced, once definitions were read
abbrev pub AppliesBehind : Request → Bool → Device → Device → Store (List Stored) → Store (List Stored) → Output → Output → ℕ
    → Result Definitions Refusal → Type 0
AppliesBehind request json disk later sources drained out after status (Err refusal) =
    EndsHere disk later sources drained out after status refusal
AppliesBehind request json disk later sources drained out after status (Ok definitions) =
    (opened : Device) × (answer : Outcome) × Opens disk opened answer
    × AppliesOpened request json definitions opened later sources drained out after status answer

-- the definitions are read, the disk is synced, it is planned, carried out and told
abbrev pub AppliesReset : Request → Bool → List (List ℕ) → Store Tree → Store Tree → Device → Device → Store (List Stored)
    → Store (List Stored) → Output → Output → ℕ → Type 0
AppliesReset request json dirs folders read disk later sources drained out after status =
    (definitions : Result Definitions Refusal) × ReadsDefinitions request.arch dirs folders read definitions
    × AppliesBehind request json disk later sources drained out after status definitions
