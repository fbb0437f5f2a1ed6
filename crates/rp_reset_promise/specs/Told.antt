-- What a run with a factory reset answers where folders, disk and sources tell what they hold.
use Rattle.std.specs.Prelude.{ℕ, ◌≡◌, List, Bool, IsErrAnd, IsOkAnd, Result, Ok}
use Rattle.rp_defs.specs.declared.definition.Definitions.{Definitions}
use Rattle.rp_io.specs.Files.{Tree}
use Rattle.rp_io.specs.declared.stored.Stored.{Stored}
use Rattle.rp_outcome.specs.Device.{Device}
use Rattle.rp_outcome.specs.Output.{Output, Prints, PrintsAll, PrintsPart}
use Rattle.rp_outcome.specs.Refusals.{Refusal, line_of}
use Rattle.rp_outcome.specs.Statuses as exit
use Rattle.rp_outcome.specs.Store.{Store}
use Rattle.rp_plan_command.specs.Statuses.{IsRefused, WhereTold}
use Rattle.rp_planned.specs.declared.request.Request.{Request}
use Rattle.rp_reading.specs.Reading.{definitions_in}
use Rattle.rp_reading.specs.Stages.{and_then}
use Rattle.rp_reset_command.specs.Renewing.{renewal_of}
use Rattle.rp_reset_command.specs.Reports.{renewal_report}
use Rattle.rp_reset_command.specs.declared.renewal.Renewal.{Renewal}

-- the definitions of folders and what is planned by them for an image and sources with a factory reset, or the first refusal: of the
-- definitions, of the image, that it has to be repaired first, of definitions that disagree on the reset, and of what they ask for
abbrev pub told_reset : Request → List (List ℕ) → Tree → List ℕ → List Stored → Result (Definitions × Renewal) Refusal
told_reset request dirs tree image files =
    and_then (definitions_in request.arch tree dirs) (λ definitions.
    and_then (renewal_of request definitions.list image files) (λ renewal. Ok (definitions, renewal)))

-- at 3, 4 and 5 the first refusal of what is told has that status, and its line was printed; at 0 and 9 something is planned, and its
-- text was printed, or a part of it
pub record AnswersReset (request : Request) (json : Bool) (dirs : List (List ℕ)) (folders : Store Tree) (disk later : Device)
    (sources : Store (List Stored)) (out after : Output) (status : ℕ) (applied : Bool) : Type 0 where
  pub refused : IsRefused status → WhereTold folders disk later sources (λ tree image files.
      IsErrAnd (told_reset request dirs tree image files) (λ refusal. (refusal.status ≡ status) × Prints out after (line_of refusal)))
  pub done : status ≡ exit.done → WhereTold folders disk later sources (λ tree image files.
      IsOkAnd (told_reset request dirs tree image files) (λ told. PrintsAll out after (renewal_report json told.0 told.1 applied)))
  pub cut : status ≡ exit.sink → WhereTold folders disk later sources (λ tree image files.
      IsOkAnd (told_reset request dirs tree image files) (λ told. PrintsPart out after (renewal_report json told.0 told.1 applied)))
