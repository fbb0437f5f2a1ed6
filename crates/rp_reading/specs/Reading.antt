-- Definitions are read from folders.
use Rattle.std.specs.Prelude.{ℕ, ◌≡◌, ◌⊎◌, List, Result, IfOk, IfErr, IfSome, ⊤}
use Rattle.rp_defs.specs.Faults.{IsKnown}
use Rattle.rp_defs.specs.Records.{records}
use Rattle.rp_defs.specs.WellFormed.{IsWellFormed}
use Rattle.rp_defs.specs.declared.definition.Definitions.{Definitions}
use Rattle.rp_files.specs.Pieces.{pieces}
use Rattle.rp_io.specs.Files.{Tree}
use Rattle.rp_outcome.specs.Definitions.{def_refusal, load_refusal}
use Rattle.rp_outcome.specs.Refusals.{Refusal, folder_refusal, memory_refusal}
use Rattle.rp_outcome.specs.Statuses as exit
use Rattle.rp_outcome.specs.Store.{Store}
use Rattle.rp_reading.specs.Stages.{HasStageCause, Settles, and_then, refused}
use Rattle.rp_reading.specs.declared.read.Unread.{Unread}
use Rattle.rp_reading.specs.declared.read.Unread.TheVariants.{Files, Definition}
use Rattle.rp_types.specs.declared.arch.Arch.{Arch}

-- the definitions of folders, or the refusal of the first fault (repart.d(5))
abbrev pub definitions_in : Arch → Tree → List (List ℕ) → Result Definitions Refusal
definitions_in arch tree dirs = and_then (refused load_refusal (pieces tree dirs)) (λ pieces. refused def_refusal (records arch pieces))

-- the refusal of a fault of files or of a definition
abbrev pub unread_refusal : Unread → Refusal
unread_refusal (Files fault) = load_refusal fault
unread_refusal (Definition fault) = def_refusal fault

-- the key that a fault names, where it names one, is known
abbrev pub IsKnownFault : Unread → Type 0
IsKnownFault (Files fault) = ⊤
IsKnownFault (Definition fault) = IsKnown fault.kind

-- a refusal of definitions: of their texts, of folders that failed, or of want of memory
abbrev pub IsReadingRefusal : Refusal → Type 0
IsReadingRefusal refusal = (refusal.status ≡ exit.definitions) ⊎ (refusal ≡ folder_refusal) ⊎ (refusal ≡ memory_refusal)

-- definitions were read from folders, with this answer: what they tell, and over every folders well formed definitions or
-- a refusal
pub record ReadsDefinitions (arch : Arch) (dirs : List (List ℕ)) (before now : Store Tree)
    (answer : Result Definitions Refusal) : Type 0 where
  pub told : now.told ≡ before.told
  pub strays : IfSome before.told (λ tree. now.strays ≡ before.strays)
  pub settled : IfSome before.told (λ tree. Settles folder_refusal (definitions_in arch tree dirs) answer)
  pub well_formed : IfOk answer (λ definitions. IsWellFormed definitions.list)
  pub refusal : IfErr answer IsReadingRefusal
  pub cause : HasStageCause folder_refusal before.faults now.faults answer
