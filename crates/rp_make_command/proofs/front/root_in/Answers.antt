use Rattle.std.proofs.Common.{◌∙◌, sym, arith}
use Rattle.rp_make_command.proofs.Rooted.{root_end, root_here, root_later}
use Rattle.rp_make_command.proofs.front.root_in.Goals as goal

pub returns-then-is_some : goal.returns-then-is_some
returns-then-is_some c =
    let here = root_here c.args.notes.now c.loop-note.note-index _ (omega arith) (rw c.root_of-root.ensures at (sym c.is_some.ensures ∙ c.if-is_some.true)) in
    c.root_of-root.ensures ∙ sym (c.loop-note.invariant ∙ here)

pub loop-note-preserved : goal.loop-note-preserved
loop-note-preserved c = c.loop-note.invariant
    ∙ root_later c.args.notes.now c.loop-note.note-index _ (omega arith) (rw c.root_of-root.ensures at (sym c.is_some.ensures ∙ c.if-is_some.false))

pub returns : goal.returns
returns c = sym (c.loop-note.invariant ∙ root_end c.args.notes.now c.loop-note.note-index (omega arith))
