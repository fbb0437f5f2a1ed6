-- `plan` reads the disk alone.
use Rattle.std.proofs.Common.{ℕ, ◌≡◌, List, Bool, Result, Ok, Err, refl, sym, subst}
use Rattle.rp_defs.specs.declared.definition.Definitions.{Definitions}
use Rattle.rp_disk.proofs.Noting.{earlier_same}
use Rattle.rp_io.specs.Files.{Tree}
use Rattle.rp_io.specs.declared.stored.Stored.{Stored}
use Rattle.rp_outcome.specs.Device.{Device, IsOnlyRead}
use Rattle.rp_outcome.specs.Output.{Output}
use Rattle.rp_outcome.specs.Refusals.{Refusal}
use Rattle.rp_outcome.specs.Store.{Store}
use Rattle.rp_planned.specs.declared.request.Request.{Request}
use Rattle.rp_reset_command.specs.Plans.{PlansBehind, PlansReset}

-- a disk that wasn't asked was read alone
not_asked : (disk later : Device) → later ≡ disk → IsOnlyRead disk later
not_asked disk later same = subst (IsOnlyRead disk) (sym same) (record { calls = refl; earlier = earlier_same disk; inside = λ past can. refl })

pub plan_reset_reads : (request : Request) (json : Bool) (dirs : List (List ℕ)) (folders read : Store Tree) (disk later : Device)
    (sources drained : Store (List Stored)) (out after : Output) (status : ℕ)
    → PlansReset request json dirs folders read disk later sources drained out after status → IsOnlyRead disk later
plan_reset_reads request json dirs folders read disk later sources drained out after status (definitions, reads, behind) = by definitions behind where
  by : (definitions : Result Definitions Refusal)
      → PlansBehind request json definitions disk later sources drained out after status → IsOnlyRead disk later
  by (Err refusal) (same, same_sources, refuses) = not_asked disk later same
  by (Ok definitions) (answer, renews, tells) = renews.1.only_read
