-- What was read so far, as the code goes from file to file.
use Rattle.std.specs.Prelude.{ℕ, List, ◌∷◌, [], ◌++◌, ◌≤◌, ◌+◌, if◌then◌else◌, length, map, All, Result, Ok, Err}
use Rattle.rp_io.specs.Files.{Tree}
use Rattle.rp_io.specs.declared.folders.Content.{Content}
use Rattle.rp_io.specs.declared.folders.Content.TheVariants.{Whole, More}
use Rattle.rp_files.specs.declared.fault.LoadFault.{LoadFault}
use Rattle.rp_files.specs.declared.fault.LoadFault.TheVariants.{TooBig}
use Rattle.rp_files.specs.declared.piece.Piece.{Piece}
use Rattle.rp_files.specs.Pieces.{Group, IsShort, is_empty, is_too_big, part_at, pieces_of}

-- a piece of what a read with the limit gave
abbrev pub held_piece : List ℕ → List ℕ → Content → Result Piece LoadFault
held_piece file part (Whole bytes) = Ok (record { file = file; part = part; bytes = bytes })
held_piece file part More = Err (TooBig file part)

-- a piece, unless it is too big
abbrev pub judged : Piece → Result Piece LoadFault
judged piece = if is_too_big piece then Err (TooBig piece.file piece.part) else Ok piece

-- the pieces with one more, unless it is empty
abbrev pub with_piece : List Piece → Piece → List Piece
with_piece so_far piece = if is_empty piece then so_far else so_far ++ piece ∷ []

-- the same, unless the piece is too big
abbrev pub with_judged : List Piece → Result Piece LoadFault → Result (List Piece) LoadFault
with_judged so_far (Err fault) = Err fault
with_judged so_far (Ok piece) = Ok (with_piece so_far piece)

-- the pieces so far and more, or the fault
abbrev pub joined : List Piece → Result (List Piece) LoadFault → Result (List Piece) LoadFault
joined so_far (Ok more) = Ok (so_far ++ more)
joined so_far (Err fault) = Err fault

-- the pieces so far and those of a group whose main file was read
abbrev pub with_main : Tree → List Piece → Group → Result Piece LoadFault → Result (List Piece) LoadFault
with_main tree so_far group (Err fault) = Err fault
with_main tree so_far group (Ok main) =
    if is_empty main then Ok so_far else joined (with_piece so_far main) (pieces_of (map (part_at tree group.main.0) group.parts))

-- at most so many pieces were added, and none that is too long
pub record AddsAtMost (count : ℕ) (before after : List Piece) : Type 0 where
  pub few : length after ≤ length before + count
  pub short : All IsShort before → All IsShort after
