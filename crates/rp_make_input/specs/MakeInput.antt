-- The input that is made from a number.
use Rattle.std.specs.Prelude.{ℕ, ◌≡◌, List, [], ◌∷◌, ◌++◌, codes, replicate}
use Rattle.rp_base.specs.declared.guid.Guid.{Guid}
use Rattle.rp_io.specs.Files.{Tree}
use Rattle.rp_io.specs.declared.stored.Stored.{Stored}
use Rattle.rp_make_input.specs.Bytes.{source_bytes}
use Rattle.rp_make_input.specs.MadeFolders.{failures_of, strays_of, tree_of}
use Rattle.rp_make_input.specs.MadeSources.{failures_of as source_failures, files_in, strays_of as source_strays}
use Rattle.rp_make_input.specs.Texts.{definition_files, file_of}
use Rattle.rp_make_input.specs.declared.input.Input.{Input}

-- the one folder
abbrev pub folders_of : List (List ℕ)
folders_of = codes "make" ∷ []

-- the folder with its definition files
abbrev pub tree_for : ℕ → Tree
tree_for number = record { folders = folders_of; files = definition_files number }

-- the one source
abbrev pub source_files : ℕ → List Stored
source_files number = file_of (codes "make.raw") (source_bytes number) ∷ []

-- what identifiers are derived from: 15 zero bytes and the number
abbrev pub seed_of : ℕ → Guid
seed_of number = record { 0 = replicate 15 0 ++ number ∷ [] }

-- folders, source and seed of a number
pub record MakeInput : Type 0 where
  pub dirs : List (List ℕ)
  pub tree : Tree
  pub files : List Stored
  pub seed : Guid

abbrev pub make_input : ℕ → MakeInput
make_input number = record { dirs = folders_of; tree = tree_for number; files = source_files number; seed = seed_of number }

-- an input holds just that of a number, and no call of its objects has failed or strayed
pub record HoldsInput (number : ℕ) (input : Input) : Type 0 where
  pub dirs : input.dirs ≡ (make_input number).dirs
  pub tree : tree_of input.folders ≡ (make_input number).tree
  pub files : files_in input.sources ≡ (make_input number).files
  pub seed : input.seed ≡ (make_input number).seed
  pub folder_failures : failures_of input.folders ≡ 0
  pub folder_strays : strays_of input.folders ≡ 0
  pub source_failures : source_failures input.sources ≡ 0
  pub source_strays : source_strays input.sources ≡ 0
