-- What the pieces of a definition set (repart.d(5), systemd.unit(5) on drop-ins).
use Rattle.std.specs.Prelude.{ℕ, List, [], ◌∷◌, not, ◌==◌, if◌then◌else◌, Option, Some, None, Result, Ok, Err, codes, count_by, find}
use Rattle.std.specs.Prelude.{length, map, reverse, sum_by}
use Rattle.std.specs.List.{flat_map}
use Rattle.std.specs.Option.{option_and_then}
use Rattle.std.specs.Str.{bytes_eq}
use Rattle.rp_ini.specs.Lines.{Section, assignments, assigns_of}
use Rattle.rp_ini.specs.declared.assign.Assign.{Assign}
use Rattle.rp_ini.specs.declared.fault.IniFault.{IniFault}
use Rattle.rp_ini.specs.declared.fault.IniFault.TheVariants as ini
use Rattle.rp_files.specs.declared.piece.Piece.{Piece}
use Rattle.rp_defs.specs.declared.fault.DefFault.{DefFault}
use Rattle.rp_defs.specs.declared.fault.DefKind.TheVariants.{Ini}
use Rattle.rp_defs.specs.Answers.{each}
use Rattle.rp_defs.specs.Keys.{is_key}

-- the line of a text's fault; `assignments` never answers want of memory
abbrev pub line_of : IniFault → ℕ
line_of (ini.NotUtf8 line) = line
line_of (ini.TooLong line) = line
line_of (ini.BadLine line) = line
line_of (ini.NoSection line) = line
line_of ini.Memory = 0

-- a piece's sections as an answer: a fault names the piece
abbrev pub sections_in : Piece → Result (List Section) IniFault → Result (List Section) DefFault
sections_in piece (Ok sections) = Ok sections
sections_in piece (Err fault) = Err (record { file = piece.file; part = piece.part; line = line_of fault; kind = Ini fault })

abbrev pub sections_of : Piece → Result (List Section) DefFault
sections_of piece = sections_in piece (assignments piece.bytes)

-- the section that counts
abbrev pub partition : List ℕ
partition = codes "Partition"

-- an assignment of [Partition], with the piece that it stands in
abbrev pub Placed : Type 0
Placed = Piece × Assign

abbrev pub placed_in : Piece × List Section → List Placed
placed_in read = map (λ assign. (read.0, assign)) (assigns_of read.1 partition)

-- an empty value means unset
abbrev pub unless_empty : Placed → Option Placed
unless_empty placed = if length placed.1.value == 0 then None else Some placed

-- the assignment of a key that counts: the last one; where that is empty, none
abbrev pub counting : List Placed → List ℕ → Option Placed
counting all name = option_and_then unless_empty (find (λ placed. bytes_eq placed.1.key name) (reverse all))

-- how many assignments of a section are ignored: of [Partition] those of unknown keys, of another section all
abbrev pub ignored_in : Section → ℕ
ignored_in section = if bytes_eq section.name partition then count_by
    (λ assign. not (is_key assign.key)) section.assigns else length section.assigns

-- each piece with its sections, or the first fault
abbrev pub read_pieces : List Piece → Result (List (Piece × List Section)) DefFault
read_pieces pieces = each (λ piece. with_piece piece (sections_of piece)) pieces where
  with_piece : Piece → Result (List Section) DefFault → Result (Piece × List Section) DefFault
  with_piece piece (Ok sections) = Ok (piece, sections)
  with_piece piece (Err fault) = Err fault

-- what pieces that were read set, and how many of their assignments are ignored
abbrev pub all_placed : List (Piece × List Section) → List Placed
all_placed read = flat_map placed_in read

abbrev pub all_ignored : List (Piece × List Section) → ℕ
all_ignored read = sum_by (λ one. sum_by ignored_in one.1) read

-- a piece before those behind it: it takes the drop-ins that follow, whose part isn't empty, into its group
abbrev pub before_groups : Piece → List (List Piece) → List (List Piece)
before_groups piece [] = (piece ∷ []) ∷ []
before_groups piece ([] ∷ groups) = (piece ∷ []) ∷ groups
before_groups piece ((next ∷ own) ∷ groups) =
    if length next.part == 0 then (piece ∷ []) ∷ (next ∷ own) ∷ groups else (piece ∷ next ∷ own) ∷ groups

-- the pieces of each definition: a main file with the drop-ins behind it
unfoldable pub groups_of : List Piece → List (List Piece)
groups_of [] = []
groups_of (piece ∷ pieces) = before_groups piece (groups_of pieces)
