-- What is known of `plan` at each status.
use Rattle.std.specs.Prelude.{ℕ, ◌≡◌, ◌⊎◌, List, Bool, Option, IfSome, IsOkAnd, IsErrAnd, Result, Ok}
use Rattle.rp_defs.specs.declared.definition.Definitions.{Definitions}
use Rattle.rp_disk.specs.History.{held}
use Rattle.rp_io.specs.Files.{Tree}
use Rattle.rp_io.specs.declared.stored.Stored.{Stored}
use Rattle.rp_outcome.specs.Causes.{HasCauses}
use Rattle.rp_outcome.specs.Device.{Device, IsOnlyRead}
use Rattle.rp_disk.specs.Device.{IsPossible}
use Rattle.rp_disk.specs.Made.{Past, history_told}
use Rattle.rp_outcome.specs.Output.{Output, Prints, PrintsAll, PrintsPart}
use Rattle.rp_outcome.specs.Refusals.{Refusal, disk_refusal, line_of}
use Rattle.rp_outcome.specs.Statuses as exit
use Rattle.rp_outcome.specs.Store.{Store}
use Rattle.rp_plan_command.specs.Plans.{planned_report}
use Rattle.rp_planned.specs.Files.{HasFileCauses}
use Rattle.rp_planned.specs.Planning.{planned_of}
use Rattle.rp_reading.specs.Reading.{definitions_in}
use Rattle.rp_reading.specs.Stages.{and_then}
use Rattle.rp_planned.specs.declared.planned.Planned.{Planned}
use Rattle.rp_planned.specs.declared.request.Request.{Request}

-- the definitions of folders and what is planned by them for an image and sources, or the first refusal: of the definitions,
-- of the image, that it has to be repaired first, and of what the definitions ask for
abbrev pub told_plan : Request → List (List ℕ) → Tree → List ℕ → List Stored → Result (Definitions × Planned) Refusal
told_plan request dirs tree image files =
    and_then (definitions_in request.arch tree dirs) (λ definitions.
    and_then (planned_of request definitions.list image files) (λ planned. Ok (definitions, planned)))

-- where folders, disk and sources tell, this holds of what they tell
abbrev pub WhereTold : Store Tree → Device → Device → Store (List Stored) → (Tree → List ℕ → List Stored → Type 0) → Type 0
WhereTold folders disk later sources P = (o : Option Past) → IsPossible o later
    → IfSome folders.told (λ tree. IfSome (history_told o disk.calls) (λ h. IfSome sources.told (λ files. P tree (held h) files)))

-- a status of a refusal
abbrev pub IsRefused : ℕ → Type 0
IsRefused status = (status ≡ exit.definitions) ⊎ (status ≡ exit.image) ⊎ (status ≡ exit.demand)

-- at 0 the plan's text was printed, and at 9 a part of it; at 3, 4 and 5 the line of the first refusal, which has that
-- status; 7, 8 and 9 come only where the disk, the folders or the sources, or the sink counted a failure, and at 7 and 8 the
-- line says so; 10 is want of memory
pub record ByStatus (request : Request) (json : Bool) (dirs : List (List ℕ)) (folders read : Store Tree) (disk later : Device)
    (sources drained : Store (List Stored)) (out after : Output) (status : ℕ) : Type 0 where
  pub only_read : IsOnlyRead disk later
  pub causes : HasCauses disk later out after status
  pub files : HasFileCauses folders read sources drained out after status
  pub one_of : IsRefused status ⊎ (status ≡ exit.done) ⊎ (status ≡ exit.disk) ⊎ (status ≡ exit.files) ⊎ (status ≡ exit.sink)
      ⊎ (status ≡ exit.memory)
  pub done : status ≡ exit.done → WhereTold folders disk later sources (λ tree image files.
      IsOkAnd (told_plan request dirs tree image files) (λ told. PrintsAll out after (planned_report json told.0 told.1)))
  pub cut : status ≡ exit.sink → WhereTold folders disk later sources (λ tree image files.
      IsOkAnd (told_plan request dirs tree image files) (λ told. PrintsPart out after (planned_report json told.0 told.1)))
  pub refused : IsRefused status → WhereTold folders disk later sources (λ tree image files.
      IsErrAnd (told_plan request dirs tree image files) (λ refusal. (refusal.status ≡ status) × Prints out after (line_of refusal)))
  pub disk_line : status ≡ exit.disk → Prints out after (line_of disk_refusal)
