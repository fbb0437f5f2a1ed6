use Rattle.std.proofs.Common.{◌∙◌, Bool, ap, sym, arith}
use Rattle.std.specs.Prelude.{option_map}
use Rattle.rp_base.specs.declared.plan.Note.{Note}
use Rattle.rp_difference.specs.Difference.{is_other_row}
use Rattle.rp_difference.specs.declared.difference.Difference.TheVariants as differences
use Rattle.rp_difference.proofs.Finding.{find-end, find-here, find-later}
use Rattle.rp_difference.proofs.table.other_row.Goals as goal

abbrev is_other : Note → Bool
is_other note = is_other_row note.change

pub returns-then-is_other_row : goal.returns-then-is_other_row
returns-then-is_other_row c =
    sym (ap (option_map (λ (note : Note). differences.Row note.slot)) (c.loop-note.invariant
    ∙ find-here is_other c.args.notes.now c.loop-note.note-index _ (omega arith) (sym c.is_other_row.ensures ∙ c.if-is_other_row.true)))

pub loop-note-preserved : goal.loop-note-preserved
loop-note-preserved c = c.loop-note.invariant
    ∙ find-later is_other c.args.notes.now c.loop-note.note-index _ (omega arith) (sym c.is_other_row.ensures ∙ c.if-is_other_row.false)

pub returns : goal.returns
returns c =
    sym (ap (option_map (λ (note : Note). differences.Row note.slot)) (c.loop-note.invariant
    ∙ find-end is_other c.args.notes.now c.loop-note.note-index (omega arith)))
