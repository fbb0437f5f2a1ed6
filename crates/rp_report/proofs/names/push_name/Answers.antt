use Rattle.std.proofs.Common.{arith}
use Rattle.rp_report.proofs.TextLemmas.{written_more, written_all, name_text-more, name_text-end, name_text-past}
use Rattle.rp_report.proofs.names.push_name.Goals as goal

pub loop-unit-preserved : goal.loop-unit-preserved
loop-unit-preserved c =
    written_more _ _ _ _ _ _ c.in_ok-push_unit.ensures
    (name_text-more c.args.name.now c.loop-unit.unit-index (omega arith) c.if-unit-eq0.false) c.loop-unit.invariant

pub returns-after-loop-unit : goal.returns-after-loop-unit
returns-after-loop-unit c =
    written_all _ _ _ (name_text-past c.args.name.now c.loop-unit.unit-index (omega arith)) c.loop-unit.invariant

pub returns-then-unit-eq0 : goal.returns-then-unit-eq0
returns-then-unit-eq0 c =
    written_all _ _ _ (name_text-end c.args.name.now c.loop-unit.unit-index (omega arith) c.if-unit-eq0.true) c.loop-unit.invariant
