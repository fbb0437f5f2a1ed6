use Rattle.std.proofs.Common.{◌≡◌, map, take}
use Rattle.rp_reset.specs.Reset.{left_note}
use Rattle.rp_reset.proofs.rows.left_notes.Given as goal

abbrev pub invariant-loop-row : goal.invariant-loop-row
invariant-loop-row l = l.notes ≡ map left_note (take l.row-index l.rows)
