use Rattle.std.proofs.Common.{◌≡◌, drop}
use Rattle.std.specs.Prelude.{find}
use Rattle.rp_difference.specs.Difference.{is_other_row}
use Rattle.rp_difference.proofs.table.other_row.Given as goal

-- none so far
abbrev pub invariant-loop-note : goal.invariant-loop-note
invariant-loop-note l =
    find (λ note. is_other_row note.change) l.notes ≡ find (λ note. is_other_row note.change) (drop l.note-index l.notes)
