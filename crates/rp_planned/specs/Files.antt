-- What a command says of folders and sources that fail.
use Rattle.std.specs.Prelude.{ℕ, ◌≡◌, ◌⊎◌, List}
use Rattle.rp_base.specs.Faults.{Rose}
use Rattle.rp_io.specs.Files.{Tree}
use Rattle.rp_io.specs.declared.stored.Stored.{Stored}
use Rattle.rp_outcome.specs.Output.{Output, Prints}
use Rattle.rp_outcome.specs.Refusals.{folder_refusal, line_of, source_refusal}
use Rattle.rp_outcome.specs.Statuses as exit
use Rattle.rp_outcome.specs.Store.{Store}

-- the folders counted a failure, or the sources did, and the line says which of them
abbrev pub TellsFailure : Store Tree → Store Tree → Store (List Stored) → Store (List Stored) → Output → Output → Type 0
TellsFailure folders read sources drained out after =
    (Rose folders.faults read.faults × Prints out after (line_of folder_refusal))
    ⊎ (Rose sources.faults drained.faults × Prints out after (line_of source_refusal))

-- a failure of folders or sources has a status of its own and comes only where they counted it, and none is passed over
-- where the command is done
pub record HasFileCauses (folders read : Store Tree) (sources drained : Store (List Stored)) (out after : Output)
    (status : ℕ) : Type 0 where
  pub failed : status ≡ exit.files → TellsFailure folders read sources drained out after
  pub kept : status ≡ exit.done → (read.faults ≡ folders.faults) × (drained.faults ≡ sources.faults)
