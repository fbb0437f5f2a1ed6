-- What is known of `check` at each exit status.
use Rattle.std.specs.Prelude.{ℕ, ◌≡◌, ◌⊎◌, List, [], Option, Some, None, IsErrAnd, Result, Ok}
use Rattle.rp_base.specs.declared.guid.Guid.{Guid}
use Rattle.rp_check_command.specs.Checks.{check_request}
use Rattle.rp_check_command.specs.Reports.{check_report, difference_line, same_line}
use Rattle.rp_difference.specs.Difference.{difference}
use Rattle.rp_difference.specs.declared.difference.Difference.{Difference}
use Rattle.rp_io.specs.Files.{Tree}
use Rattle.rp_io.specs.declared.stored.Stored.{Stored}
use Rattle.rp_outcome.specs.Causes.{HasCauses}
use Rattle.rp_outcome.specs.Device.{Device, IsOnlyRead}
use Rattle.rp_outcome.specs.Output.{Output, Prints, PrintsAll, PrintsPart}
use Rattle.rp_outcome.specs.Refusals.{Refusal, disk_refusal, line_of}
use Rattle.rp_outcome.specs.Statuses as exit
use Rattle.rp_outcome.specs.Store.{Store}
use Rattle.rp_plan_command.specs.Statuses.{IsRefused, WhereTold, told_plan}
use Rattle.rp_planned.specs.Files.{HasFileCauses}
use Rattle.rp_reading.specs.Stages.{and_then}
use Rattle.rp_types.specs.declared.arch.Arch.{Arch}

-- what an image first differs in from what the definitions of folders and the sources ask for, if it differs; or why nothing is planned
-- for it, as `plan` refuses
abbrev pub told_difference : Guid → Arch → ℕ → List (List ℕ) → Tree → List ℕ → List Stored → Result (Option Difference) Refusal
told_difference seed arch sector dirs tree image files =
    and_then (told_plan (check_request seed arch sector) dirs tree image files) (λ told.
    Ok (difference image arch told.1.seen told.1.plan))

-- by what folders and sources tell, where they do, and each past that the disk can have: 0, nothing differs, as was printed; 1, the first difference was printed; 9, a part
-- of either, for the sink failed; 3, 4 and 5, the line of the first refusal, which has that status; 7 and 8 come only where the disk, the
-- folders or the sources counted a failure, and the line says so; 10, want of memory, and nothing was printed
pub record CheckByStatus (seed : Guid) (arch : Arch) (sector : ℕ) (dirs : List (List ℕ)) (folders read : Store Tree) (disk later : Device)
    (sources drained : Store (List Stored)) (out after : Output) (status : ℕ) : Type 0 where
  pub only_read : IsOnlyRead disk later
  pub causes : HasCauses disk later out after status
  pub files : HasFileCauses folders read sources drained out after status
  pub one_of : IsRefused status ⊎ (status ≡ exit.done) ⊎ (status ≡ exit.differs) ⊎ (status ≡ exit.disk) ⊎ (status ≡ exit.files)
      ⊎ (status ≡ exit.sink)
      ⊎ (status ≡ exit.memory)
  pub same : status ≡ exit.done → WhereTold folders disk later sources (λ tree image files.
      told_difference seed arch sector dirs tree image files ≡ Ok None) × PrintsAll out after same_line
  pub other : status ≡ exit.differs → (found : Difference) × WhereTold folders disk later sources (λ tree image files.
      told_difference seed arch sector dirs tree image files ≡ Ok (Some found)) × PrintsAll out after (difference_line found)
  pub kept : status ≡ exit.differs → (read.faults ≡ folders.faults) × (drained.faults ≡ sources.faults)
  pub cut : status ≡ exit.sink → (found : Option Difference) × WhereTold folders disk later sources (λ tree image files.
      told_difference seed arch sector dirs tree image files ≡ Ok found) × PrintsPart out after (check_report found)
  pub refused : IsRefused status → WhereTold folders disk later sources (λ tree image files.
      IsErrAnd (told_difference seed arch sector dirs tree image files)
      (λ refusal. (refusal.status ≡ status) × Prints out after (line_of refusal)))
  pub disk_line : status ≡ exit.disk → Prints out after (line_of disk_refusal)
  pub nothing : status ≡ exit.memory → Prints out after []
