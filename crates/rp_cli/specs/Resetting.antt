-- What a line asks `plan` and `apply` for with a factory reset, and what they promise then.
use Rattle.std.specs.Prelude.{ℕ, ◌⊎◌, List, Bool}
use Rattle.rp_apply_command.specs.Ends.{AreRead, LeavesAll}
use Rattle.rp_cli.specs.Asked.{AreAllAsBefore}
use Rattle.rp_defs.specs.declared.definition.Definitions.{Definitions}
use Rattle.rp_io.specs.Files.{Tree}
use Rattle.rp_io.specs.declared.stored.Stored.{Stored}
use Rattle.rp_outcome.specs.Device.{Device}
use Rattle.rp_outcome.specs.Output.{Output, Refuses}
use Rattle.rp_outcome.specs.Refusals.{memory_refusal}
use Rattle.rp_outcome.specs.Store.{Store}
use Rattle.rp_planned.specs.declared.request.Request.{Request}
use Rattle.rp_reset_command.specs.Applies.{AppliesReset}
use Rattle.rp_reset_command.specs.Plans.{PlansReset}
use Rattle.rp_reset_command.specs.declared.renewal.Renewal.{Renewal}
use Rattle.rp_reset_promise.specs.Ends.{CarriesAllRenewed, CarriesSomeRenewed}

-- what `plan` does, or there was no memory for the paths of the folders, and all is as before
abbrev pub PlansResetAsked : Request → Bool → List (List ℕ) → Store Tree → Store Tree → Device → Device → Store (List Stored)
    → Store (List Stored) → Output → Output → ℕ → Type 0
PlansResetAsked request json dirs folders read disk later sources drained out after status =
    PlansReset request json dirs folders read disk later sources drained out after status
    ⊎ (AreAllAsBefore folders read disk later sources drained × Refuses out after memory_refusal status)

-- what `apply` does, or there was no memory for that
abbrev pub AppliesResetAsked : Request → Bool → List (List ℕ) → Store Tree → Store Tree → Device → Device → Store (List Stored)
    → Store (List Stored) → Output → Output → ℕ → Type 0
AppliesResetAsked request json dirs folders read disk later sources drained out after status =
    AppliesReset request json dirs folders read disk later sources drained out after status
    ⊎ (AreAllAsBefore folders read disk later sources drained × Refuses out after memory_refusal status)

-- the image's table is the goal of its reset table and the definitions, every partition of the reset table keeps its place and bytes, new
-- ones hold their contents, and a second run without reset has nothing to do where none was dropped; where no row is taken out, the
-- reset table is the old one
pub record IsRenewed (request : Request) (dirs : List (List ℕ)) (folders : Store Tree) (disk later : Device) (sources : Store (List Stored))
    : Type 0 where
  pub definitions : Definitions
  pub renewal : Renewal
  pub read : AreRead request dirs folders definitions
  pub carried : CarriesAllRenewed request definitions.list disk later sources renewal

-- stopped at any moment, the image shows the old table, the reset table or the goal with all that: either nothing was carried out, or the
-- first calls were made of what is planned
abbrev pub IsRenewedSafely : Request → List (List ℕ) → Store Tree → Device → Device → Store (List Stored) → Type 0
IsRenewedSafely request dirs folders disk later sources =
    LeavesAll disk later
    ⊎ ((definitions : Definitions) × (renewal : Renewal) × AreRead request dirs folders definitions
    × CarriesSomeRenewed request definitions.list disk later sources renewal)
