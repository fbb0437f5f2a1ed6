-- The pieces so far are drop-ins.
use Rattle.std.proofs.Common.{◌≡◌, ◌<◌, ℕ, true, get_or}
use Rattle.rp_files.specs.declared.piece.Piece.{Piece}
use Rattle.rp_defs.specs.Drafting.{is_part}
use Rattle.rp_defs.proofs.reader.group_end.Given as goal

abbrev pub invariant-loop-place : goal.invariant-loop-place
invariant-loop-place l = (k : ℕ) (d : Piece) → l.start < k → k < l.place → is_part (get_or l.pieces k d) ≡ true
