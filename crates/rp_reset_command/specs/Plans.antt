-- What `plan` does with a factory reset.
use Rattle.std.specs.Prelude.{ℕ, ◌≡◌, ◌⊎◌, List, Bool, false, Result, Ok, Err}
use Rattle.rp_defs.specs.declared.definition.Definitions.{Definitions}
use Rattle.rp_io.specs.Files.{Tree}
use Rattle.rp_io.specs.declared.stored.Stored.{Stored}
use Rattle.rp_outcome.specs.Device.{Device}
use Rattle.rp_outcome.specs.Output.{Output, Finishes, Refuses}
use Rattle.rp_outcome.specs.Refusals.{Refusal, memory_refusal}
use Rattle.rp_outcome.specs.Store.{Store}
use Rattle.rp_planned.specs.declared.request.Request.{Request}
use Rattle.rp_reading.specs.Reading.{ReadsDefinitions}
use Rattle.rp_reset_command.specs.Renewing.{RenewsImage}
use Rattle.rp_reset_command.specs.Reports.{renewal_report}
use Rattle.rp_reset_command.specs.declared.renewal.Renewal.{Renewal}

-- the answer is told: the text, unless there was no memory for it, or the refusal
abbrev pub Tells : Bool → Definitions → Output → Output → ℕ → Result Renewal Refusal → Type 0
Tells json definitions out after status (Ok renewal) =
    Finishes out after (renewal_report json definitions renewal false) status ⊎ Refuses out after memory_refusal status
Tells json definitions out after status (Err refusal) = Refuses out after refusal status

-- what is planned by definitions that were read is told
abbrev pub PlansRead : Request → Bool → Definitions → Device → Device → Store (List Stored) → Store (List Stored)
    → Output → Output → ℕ → Type 0
PlansRead request json definitions disk later sources drained out after status =
    (answer : Result Renewal Refusal) × RenewsImage request definitions.list disk later sources drained answer
    × Tells json definitions out after status answer

-- where the definitions are refused, the disk and the sources aren't asked
abbrev pub PlansBehind : Request → Bool → Result Definitions Refusal → Device → Device → Store (List Stored) → Store (List Stored)
    → Output → Output → ℕ → Type 0
PlansBehind request json (Err refusal) disk later sources drained out after status =
    (later ≡ disk) × (drained ≡ sources) × Refuses out after refusal status
PlansBehind request json (Ok definitions) disk later sources drained out after status =
    PlansRead request json definitions disk later sources drained out after status

-- the definitions are read, the image, the reset is planned, then the sources are asked, and what is planned is told
abbrev pub PlansReset : Request → Bool → List (List ℕ) → Store Tree → Store Tree → Device → Device → Store (List Stored)
    → Store (List Stored)
    → Output → Output → ℕ → Type 0
PlansReset request json dirs folders read disk later sources drained out after status =
    (definitions : Result Definitions Refusal) × ReadsDefinitions request.arch dirs folders read definitions
    × PlansBehind request json definitions disk later sources drained out after status
