-- What a line asks a command for.
use Rattle.std.specs.Prelude.{ℕ, ◌≡◌, ◌⊎◌, List, Bool}
use Rattle.rp_base.specs.declared.guid.Guid.{Guid}
use Rattle.rp_check_command.specs.Checks.{Checks}
use Rattle.rp_io.specs.Files.{Tree}
use Rattle.rp_io.specs.declared.stored.Stored.{Stored}
use Rattle.rp_outcome.specs.Device.{Device}
use Rattle.rp_outcome.specs.Output.{Output, Refuses}
use Rattle.rp_outcome.specs.Refusals.{memory_refusal}
use Rattle.rp_outcome.specs.Store.{Store}
use Rattle.rp_plan_command.specs.Plans.{Plans}
use Rattle.rp_planned.specs.declared.request.Request.{Request}
use Rattle.rp_types.specs.declared.arch.Arch.{Arch}
use Rattle.rp_words.specs.declared.line.Line.{Line}

-- what a line asks of a command that plans
abbrev pub request_of : Line → Request
request_of line = record { seed = line.seed; arch = line.arch; empty = line.empty; size = line.size; sector = line.sector }

-- what `plan` does, or there was no memory for the paths of the folders, and all is as before
abbrev pub PlansAsked : Request → Bool → List (List ℕ) → Store Tree → Store Tree → Device → Device → Store (List Stored)
    → Store (List Stored)
    → Output → Output → ℕ → Type 0
PlansAsked request json dirs folders read disk later sources drained out after status =
    Plans request json dirs folders read disk later sources drained out after status
    ⊎ ((read ≡ folders) × (later ≡ disk) × (drained ≡ sources) × Refuses out after memory_refusal status)

-- folders and sources are as before, but for reads that succeeded, which leave no trace
abbrev pub AreAsBefore : Store Tree → Store Tree → Store (List Stored) → Store (List Stored) → Type 0
AreAsBefore folders read sources drained = (read ≡ folders) × (drained ≡ sources)

-- the disk too
abbrev pub AreAllAsBefore : Store Tree → Store Tree → Device → Device → Store (List Stored) → Store (List Stored) → Type 0
AreAllAsBefore folders read disk later sources drained = (read ≡ folders) × (later ≡ disk) × (drained ≡ sources)

-- what `check` does, or there was no memory for the paths of the folders, and all is as before
abbrev pub ChecksAsked : Guid → Arch → ℕ → List (List ℕ) → Store Tree → Store Tree → Device → Device → Store (List Stored)
    → Store (List Stored) → Output → Output → ℕ → Type 0
ChecksAsked seed arch sector dirs folders read disk later sources drained out after status =
    Checks seed arch sector dirs folders read disk later sources drained out after status
    ⊎ (AreAllAsBefore folders read disk later sources drained × Refuses out after memory_refusal status)
