-- Which files of the folders are definition pieces, and in which order (repart.d(5), systemd.unit(5) on drop-ins).
use Rattle.std.specs.Prelude.{ℕ, List, [], ◌∷◌, ◌++◌, Bool, ◌&&◌, not, if◌then◌else◌, ◌==◌, nat_lt, nat_eq, Option, Some, None, Result, Ok}
use Rattle.std.specs.Prelude.{Err, codes, filter, find, flat_map, length, map, sum_by, ◌+◌, ◌≤◌, All}
use Rattle.std.specs.List.{starts_with, ends_with}
use Rattle.std.specs.Option.{unwrap_or}
use Rattle.std.specs.Ordering.{nat_cmp}
use Rattle.std.specs.Cmp.Lexicographic.{slice_cmp}
use Rattle.std.specs.FinMap.{put}
use Rattle.rp_io.specs.Files.{Tree, content, has_folder, names_in}
use Rattle.rp_files.specs.declared.fault.LoadFault.{LoadFault}
use Rattle.rp_files.specs.declared.fault.LoadFault.TheVariants.{TooMany, TooBig}
use Rattle.rp_files.specs.declared.piece.Piece.{Piece}

-- a candidate ends in `.conf` and doesn't begin with `.`
abbrev pub is_candidate : List ℕ → Bool
is_candidate name = ends_with nat_eq name (codes ".conf") && not (starts_with nat_eq name (codes "."))

-- the candidates of a folder; a folder that isn't there is empty
abbrev pub candidates : Tree → List ℕ → List (List ℕ)
candidates tree folder = if has_folder tree folder then filter is_candidate (names_in tree.files folder) else []

-- a file's name and its path
abbrev pub Found : Type 0
Found = List ℕ × List ℕ

abbrev pub found_in : List ℕ → List ℕ → Found
found_in folder name = (name, folder ++ 47 ∷ name)

-- in byte order of the names; of two with one name the first counts
abbrev pub in_order : List Found → List Found
in_order [] = []
in_order (found ∷ rest) = put (slice_cmp nat_cmp) found.0 found.1 (in_order rest)

-- the files that win: of one name in several folders that of the folder given first
abbrev pub winners : Tree → List (List ℕ) → List Found
winners tree folders = in_order (flat_map (λ folder. map (found_in folder) (candidates tree folder)) folders)

-- the folders of the drop-ins of a main file
abbrev pub drop_in_folders : List (List ℕ) → List ℕ → List (List ℕ)
drop_in_folders folders name = map (λ folder. folder ++ 47 ∷ (name ++ codes ".d")) folders

-- a main file with its drop-ins
pub record Group : Type 0 where
  pub main : Found
  pub parts : List Found

abbrev pub group_at : Tree → List (List ℕ) → Found → Group
group_at tree folders main = record { main = main; parts = winners tree (drop_in_folders folders main.0) }

abbrev pub groups : Tree → List (List ℕ) → List Group
groups tree folders = map (group_at tree folders) (winners tree folders)

-- how many names win
abbrev pub count_of : List Group → ℕ
count_of gs = sum_by (λ group. length group.parts + 1) gs

-- a piece of at most 65,536 bytes
abbrev pub IsShort : Piece → Type 0
IsShort piece = length piece.bytes ≤ 65536

-- what is loaded: at most 256 pieces of at most 65,536 bytes each
pub record ArePieces (pieces : List Piece) : Type 0 where
  pub few : length pieces ≤ 256
  pub short : All IsShort pieces

-- a file as a piece: the part is empty for a main file. One that isn't there has no bytes, and none of those that win is one
abbrev pub piece_at : Tree → List ℕ → List ℕ → List ℕ → Piece
piece_at tree file part path = record { file = file; part = part; bytes = unwrap_or (content tree.files path) [] }

abbrev pub part_at : Tree → List ℕ → Found → Piece
part_at tree file part = piece_at tree file part.0 part.1

abbrev pub is_empty : Piece → Bool
is_empty piece = length piece.bytes == 0

abbrev pub is_too_big : Piece → Bool
is_too_big piece = nat_lt 65536 (length piece.bytes)

-- the files of a group: the main file, then its drop-ins. An empty main file masks its name, and its drop-ins are nothing
abbrev pub files_of : Tree → Group → List Piece
files_of tree group =
    let main = piece_at tree group.main.0 [] group.main.1 in
    if is_empty main then [] else main ∷ map (part_at tree group.main.0) group.parts

-- the first file that is too big, or else the files that aren't empty
abbrev pub unless_too_big : Option Piece → List Piece → Result (List Piece) LoadFault
unless_too_big None kept = Ok kept
unless_too_big (Some piece) kept = Err (TooBig piece.file piece.part)

abbrev pub pieces_of : List Piece → Result (List Piece) LoadFault
pieces_of files = unless_too_big (find is_too_big files) (filter (λ file. not (is_empty file)) files)

-- the pieces of the folders: those of each group in order, or the first fault
abbrev pub pieces : Tree → List (List ℕ) → Result (List Piece) LoadFault
pieces tree folders =
    let gs = groups tree folders in
    if nat_lt 256 (count_of gs) then Err TooMany else pieces_of (flat_map (files_of tree) gs)
