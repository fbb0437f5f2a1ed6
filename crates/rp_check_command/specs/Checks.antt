-- What `check` does.
use Rattle.std.specs.Prelude.{ℕ, ◌≡◌, ◌⊎◌, List, Option, Some, None, Result, Ok, Err, IfOk, IfErr}
use Rattle.rp_base.specs.declared.guid.Guid.{Guid}
use Rattle.rp_check_command.specs.Reports.{difference_line, same_line}
use Rattle.rp_defs.specs.declared.definition.Definitions.{Definitions}
use Rattle.rp_difference.specs.Difference.{BeginsWith, difference, table_difference}
use Rattle.rp_difference.specs.declared.difference.Difference.{Difference}
use Rattle.rp_disk.specs.History.{held}
use Rattle.rp_gpt.specs.declared.table_fault.Empty.TheVariants.{Refuse}
use Rattle.rp_io.specs.Files.{Tree}
use Rattle.rp_io.specs.declared.stored.Stored.{Stored}
use Rattle.rp_outcome.specs.Device.{Device, IsOnlyRead, Known}
use Rattle.rp_outcome.specs.Output.{Output, Differs, Finishes, Refuses}
use Rattle.rp_outcome.specs.Refusals.{Refusal, disk_refusal, memory_refusal}
use Rattle.rp_outcome.specs.Store.{Store}
use Rattle.rp_planned.specs.Planning.{PlansImage}
use Rattle.rp_planned.specs.declared.planned.Planned.{Planned}
use Rattle.rp_planned.specs.declared.request.Request.{Request}
use Rattle.rp_reading.specs.Reading.{ReadsDefinitions}
use Rattle.rp_reading.specs.Stages.{HasStageCause, Settles}
use Rattle.rp_types.specs.declared.arch.Arch.{Arch}

-- what is planned for: an image that shows a table, and keeps its length
abbrev pub check_request : Guid → Arch → ℕ → Request
check_request seed arch sector = record { seed = seed; arch = arch; empty = Refuse; size = 0; sector = sector }

-- the image on a disk was compared with what is planned for it, and nothing was asked of the disk but to read: the first difference of
-- each past that the disk can have, but for a failure of the disk, which it counted, and want of memory. It is that of copies, MBR, table
-- and rows by what was seen of the image, where they differ
pub record Finds (arch : Arch) (planned : Planned) (before now : Device) (answer : Result (Option Difference) Refusal) : Type 0 where
  pub only_read : IsOnlyRead before now
  pub settled : Known before now (λ h. Settles disk_refusal (Ok (difference (held h) arch planned.seen planned.plan)) answer)
  pub begins : IfOk answer (BeginsWith (table_difference planned.seen planned.plan))
  pub refusal : IfErr answer (λ refusal. (refusal ≡ disk_refusal) ⊎ (refusal ≡ memory_refusal))
  pub cause : HasStageCause disk_refusal before.faults now.faults answer

-- the answer is told: that nothing differs, the difference, or the refusal
abbrev pub Tells : Output → Output → ℕ → Result (Option Difference) Refusal → Type 0
Tells out after status (Ok None) = Finishes out after same_line status
Tells out after status (Ok (Some difference)) = Differs out after (difference_line difference) status
Tells out after status (Err refusal) = Refuses out after refusal status

-- the image is compared with what is planned for it, unless nothing is; then the disk isn't asked again
abbrev pub ChecksPlanned : Arch → Device → Device → Output → Output → ℕ → Result Planned Refusal → Type 0
ChecksPlanned arch disk later out after status (Err refusal) = (later ≡ disk) × Refuses out after refusal status
ChecksPlanned arch disk later out after status (Ok planned) =
    (answer : Result (Option Difference) Refusal) × Finds arch planned disk later answer × Tells out after status answer

-- what is planned by definitions that were read is compared
abbrev pub ChecksRead : Request → Definitions → Device → Device → Store (List Stored) → Store (List Stored) → Output → Output → ℕ → Type 0
ChecksRead request definitions disk later sources drained out after status =
    (seen : Device) × (planned : Result Planned Refusal) × PlansImage request definitions.list disk seen sources drained planned
    × ChecksPlanned request.arch seen later out after status planned

-- where the definitions are refused, the disk and the sources aren't asked
abbrev pub ChecksBehind : Request → Result Definitions Refusal → Device → Device → Store (List Stored) → Store (List Stored)
    → Output → Output → ℕ → Type 0
ChecksBehind request (Err refusal) disk later sources drained out after status =
    (later ≡ disk) × (drained ≡ sources) × Refuses out after refusal status
ChecksBehind request (Ok definitions) disk later sources drained out after status =
    ChecksRead request definitions disk later sources drained out after status

-- the definitions are read, the image, then the sources are asked, then the image is compared with what is planned
abbrev pub Checks : Guid → Arch → ℕ → List (List ℕ) → Store Tree → Store Tree → Device → Device → Store (List Stored) → Store (List Stored)
    → Output → Output → ℕ → Type 0
Checks seed arch sector dirs folders read disk later sources drained out after status =
    (definitions : Result Definitions Refusal) × ReadsDefinitions arch dirs folders read definitions
    × ChecksBehind (check_request seed arch sector) definitions disk later sources drained out after status
