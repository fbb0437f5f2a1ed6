use Rattle.std.proofs.Common.{sym, ◌∙◌, arith}
use Rattle.rp_policy.specs.Reading.{designators}
use Rattle.rp_policy.proofs.Finding.{counter_at, counter_end, counter_past}
use Rattle.rp_policy.proofs.beyond.compare.Goals as goal

pub returns-in-Some : goal.returns-in-Some
returns-in-Some c = sym (c.loop-designator.invariant
    ∙ counter_at c.args.a.now c.args.b.now designators c.loop-designator.designator-index _ _ _ c.in-Some.found (omega arith)
    c.flags_for.ensures c.flags_for-in-loop-designator.ensures c.in-Some.ensures)

pub loop-designator-preserved : goal.loop-designator-preserved
loop-designator-preserved c = c.loop-designator.invariant
    ∙ counter_past c.args.a.now c.args.b.now designators c.loop-designator.designator-index _ _ _ (omega arith)
    c.flags_for.ensures c.flags_for-in-loop-designator.ensures c.in-None.ensures

pub returns : goal.returns
returns c = sym (c.loop-designator.invariant
    ∙ counter_end c.args.a.now c.args.b.now designators c.loop-designator.designator-index (omega arith))
