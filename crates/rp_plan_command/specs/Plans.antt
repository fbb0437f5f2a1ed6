-- What `plan` does.
use Rattle.std.specs.Prelude.{ℕ, ◌≡◌, ◌⊎◌, List, Bool, false, length, None, Result, Ok, Err}
use Rattle.rp_defs.specs.declared.definition.Definitions.{Definitions}
use Rattle.rp_io.specs.Files.{Tree}
use Rattle.rp_io.specs.declared.stored.Stored.{Stored}
use Rattle.rp_outcome.specs.Device.{Device}
use Rattle.rp_outcome.specs.Output.{Output, Finishes, Refuses}
use Rattle.rp_outcome.specs.Refusals.{Refusal, memory_refusal}
use Rattle.rp_outcome.specs.Store.{Store}
use Rattle.rp_planned.specs.Planning.{PlansImage}
use Rattle.rp_reading.specs.Reading.{ReadsDefinitions}
use Rattle.rp_planned.specs.declared.planned.Planned.{Planned}
use Rattle.rp_planned.specs.declared.request.Request.{Request}
use Rattle.rp_report.specs.Reports.{plan_report}
use Rattle.rp_steps.specs.Steps.{steps}
use Rattle.rp_steps.specs.Writes.{writes}

-- what is printed of what is planned: the plan, with its steps and their writes
abbrev pub planned_report : Bool → Definitions → Planned → List ℕ
planned_report json definitions planned =
    let taken = steps planned.plan planned.seen in
    plan_report json planned.plan definitions (length taken) (writes taken) false None

-- the answer is told: the plan's text, unless there was no memory for it, or the refusal
abbrev pub Tells : Bool → Definitions → Output → Output → ℕ → Result Planned Refusal → Type 0
Tells json definitions out after status (Ok planned) =
    Finishes out after (planned_report json definitions planned) status ⊎ Refuses out after memory_refusal status
Tells json definitions out after status (Err refusal) = Refuses out after refusal status

-- what is planned by definitions that were read is told
abbrev pub PlansRead : Request → Bool → Definitions → Device → Device → Store (List Stored) → Store (List Stored)
    → Output → Output → ℕ → Type 0
PlansRead request json definitions disk later sources drained out after status =
    (answer : Result Planned Refusal) × PlansImage request definitions.list disk later sources drained answer
    × Tells json definitions out after status answer

-- where the definitions are refused, the disk and the sources aren't asked
abbrev pub PlansBehind : Request → Bool → Result Definitions Refusal → Device → Device → Store (List Stored) → Store (List Stored)
    → Output → Output → ℕ → Type 0
PlansBehind request json (Err refusal) disk later sources drained out after status =
    (later ≡ disk) × (drained ≡ sources) × Refuses out after refusal status
PlansBehind request json (Ok definitions) disk later sources drained out after status =
    PlansRead request json definitions disk later sources drained out after status

-- the definitions are read, the image, then the sources are asked, and what is planned is told
abbrev pub Plans : Request → Bool → List (List ℕ) → Store Tree → Store Tree → Device → Device → Store (List Stored) → Store (List Stored)
    → Output → Output → ℕ → Type 0
Plans request json dirs folders read disk later sources drained out after status =
    (definitions : Result Definitions Refusal) × ReadsDefinitions request.arch dirs folders read definitions
    × PlansBehind request json definitions disk later sources drained out after status
