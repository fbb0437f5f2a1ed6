use Rattle.std.proofs.Common.{◌∙◌, sym, arith}
use Rattle.rp_verdict.specs.Rows.{may_be, row_of}
use Rattle.rp_verdict.proofs.Finding.{find-end, find-here, find-later}
use Rattle.rp_verdict.proofs.rows.row_of.Goals as goal

pub returns-then-may_be : goal.returns-then-may_be
unfolding row_of
returns-then-may_be c = sym (c.loop-row.invariant
    ∙ find-here (may_be c.args.arch c.args.designator) c.args.rows.now c.loop-row.row-index _ (omega arith)
    (sym c.may_be.ensures ∙ c.if-may_be.true))

pub loop-row-preserved : goal.loop-row-preserved
loop-row-preserved c = c.loop-row.invariant
    ∙ find-later (may_be c.args.arch c.args.designator) c.args.rows.now c.loop-row.row-index _ (omega arith)
    (sym c.may_be.ensures ∙ c.if-may_be.false)

pub returns : goal.returns
unfolding row_of
returns c = sym (c.loop-row.invariant
    ∙ find-end (may_be c.args.arch c.args.designator) c.args.rows.now c.loop-row.row-index (omega arith))
