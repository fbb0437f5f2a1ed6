-- Why a command isn't done, and the line that tells it.
use Rattle.std.specs.Prelude.{ℕ, List, [], ◌∷◌, ◌++◌, ◌==◌, if◌then◌else◌, codes}
use Rattle.std.specs.Fmt.{decimal}
use Rattle.std.specs.List.{flat_map}
use Rattle.hex.specs.Hex.{encode_lower}
use Rattle.rp_gpt.specs.declared.table_fault.TableFault.{TableFault}
use Rattle.rp_gpt.specs.declared.table_fault.TableFault.TheVariants as faults
use Rattle.rp_outcome.specs.Words.{behind_blank}
use Rattle.rp_outcome.specs.Statuses as exit

-- an exit status, and the words that tell the cause
pub record Refusal : Type 0 where
  pub status : ℕ
  pub words : List (List ℕ)

-- the line of a refusal: `error`, the status and the words; want of memory has none
unfoldable pub line_of : Refusal → List ℕ
line_of refusal =
    if refusal.status == exit.memory then []
    else codes "error " ++ decimal refusal.status ++ flat_map behind_blank refusal.words ++ codes "\n"

-- the refusals of words that aren't canonical, of a disk that failed, and of want of memory, which prints nothing
abbrev pub words_refusal : Refusal
words_refusal = record { status = exit.words; words = codes "words" ∷ [] }

abbrev pub disk_refusal : Refusal
disk_refusal = record { status = exit.disk; words = codes "disk" ∷ [] }

-- those of folders and of sources that failed
abbrev pub folder_refusal : Refusal
folder_refusal = record { status = exit.files; words = codes "folder" ∷ [] }

abbrev pub source_refusal : Refusal
source_refusal = record { status = exit.files; words = codes "source" ∷ [] }

-- that of an image that would grow and doesn't show its primary copy
abbrev pub repair_refusal : Refusal
repair_refusal = record { status = exit.image; words = codes "RepairFirst" ∷ [] }

abbrev pub memory_refusal : Refusal
memory_refusal = record { status = exit.memory; words = [] }

-- that of a source that has changed: the root hash that was planned, and that of the bytes that were copied
abbrev pub changed_refusal : List ℕ → List ℕ → Refusal
changed_refusal planned copied = record {
  status = exit.changed;
  words = codes "changed" ∷ encode_lower planned ∷ encode_lower copied ∷ [];
}

-- the refusal of an image, with these words
abbrev pub image_refusal : List (List ℕ) → Refusal
image_refusal words = record { status = exit.image; words = words }

-- the refusal of a fault of an image: a failure of the disk, want of memory, or the fault's kind and its numbers in the
-- order of its fields
abbrev pub table_refusal : TableFault → Refusal
table_refusal faults.Disk = disk_refusal
table_refusal (faults.TooLong len) = image_refusal (codes "TooLong" ∷ decimal len ∷ [])
table_refusal (faults.TooShort len) = image_refusal (codes "TooShort" ∷ decimal len ∷ [])
table_refusal faults.ArrayPlace = image_refusal (codes "ArrayPlace" ∷ [])
table_refusal (faults.EntryCount count size) = image_refusal (codes "EntryCount" ∷ decimal count ∷ decimal size ∷ [])
table_refusal (faults.OtherTable kind) = image_refusal (codes "OtherTable" ∷ decimal kind ∷ [])
table_refusal faults.NoTable = image_refusal (codes "NoTable" ∷ [])
table_refusal faults.NotEmpty = image_refusal (codes "NotEmpty" ∷ [])
table_refusal (faults.Bounds first last) = image_refusal (codes "Bounds" ∷ decimal first ∷ decimal last ∷ [])
table_refusal (faults.RowRange slot) = image_refusal (codes "RowRange" ∷ decimal slot ∷ [])
table_refusal (faults.Overlap a b) = image_refusal (codes "Overlap" ∷ decimal a ∷ decimal b ∷ [])
table_refusal faults.Memory = memory_refusal
