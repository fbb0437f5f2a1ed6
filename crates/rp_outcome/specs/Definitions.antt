-- Why definition files are no list of definitions, and the lines that tell it.
use Rattle.std.specs.Prelude.{ℕ, List, [], ◌∷◌, codes}
use Rattle.rp_defs.specs.Keys.{key_name}
use Rattle.rp_defs.specs.declared.fault.DefFault.{DefFault}
use Rattle.rp_defs.specs.declared.fault.DefKind.{DefKind}
use Rattle.rp_defs.specs.declared.fault.DefKind.TheVariants as kinds
use Rattle.rp_files.specs.declared.fault.LoadFault.{LoadFault}
use Rattle.rp_files.specs.declared.fault.LoadFault.TheVariants as loading
use Rattle.rp_ini.specs.declared.fault.IniFault.{IniFault}
use Rattle.rp_ini.specs.declared.fault.IniFault.TheVariants as ini
use Rattle.rp_outcome.specs.Refusals.{Refusal, folder_refusal, memory_refusal}
use Rattle.rp_outcome.specs.Statuses as exit
use Rattle.rp_outcome.specs.Words.{line_text, piece_text}

-- the refusal of definition files, with these words
abbrev pub definitions_refusal : List (List ℕ) → Refusal
definitions_refusal words = record { status = exit.definitions; words = words }

-- the refusal of a fault of loading: a failure of the folders, want of memory, or the file that is too big
abbrev pub load_refusal : LoadFault → Refusal
load_refusal loading.FolderFault = folder_refusal
load_refusal loading.TooMany = definitions_refusal (codes "TooMany" ∷ [])
load_refusal (loading.TooBig file part) = definitions_refusal (piece_text file part ∷ codes "TooBig" ∷ [])
load_refusal loading.Memory = memory_refusal

-- what is wrong with a line of a definition file
abbrev pub ini_word : IniFault → List ℕ
ini_word (ini.NotUtf8 line) = codes "NotUtf8"
ini_word (ini.TooLong line) = codes "TooLong"
ini_word (ini.BadLine line) = codes "BadLine"
ini_word (ini.NoSection line) = codes "NoSection"
ini_word ini.Memory = codes "Memory"

-- what is wrong with a definition, and the key that it concerns
abbrev pub kind_words : DefKind → List (List ℕ)
kind_words (kinds.Ini fault) = ini_word fault ∷ []
kind_words kinds.NoType = codes "NoType" ∷ []
kind_words (kinds.BadValue key) = codes "BadValue" ∷ key_name key ∷ []
kind_words (kinds.Unsupported key) = codes "Unsupported" ∷ key_name key ∷ []
kind_words kinds.LabelTooLong = codes "LabelTooLong" ∷ []
kind_words kinds.Limits = codes "Limits" ∷ []
kind_words kinds.VerityPair = codes "VerityPair" ∷ []
kind_words kinds.Memory = codes "Memory" ∷ []

-- the refusal of a fault at a place of the definition files, or of want of memory
abbrev pub refusal_of : List ℕ → DefKind → Refusal
refusal_of place kinds.Memory = memory_refusal
refusal_of place kind = definitions_refusal (place ∷ kind_words kind)

abbrev pub def_refusal : DefFault → Refusal
def_refusal fault = refusal_of (line_text fault.file fault.part fault.line) fault.kind
