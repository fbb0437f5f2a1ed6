use Rattle.serde_json.specs.View.{view}
use Rattle.rp_report.proofs.NotedLemmas.{data-more, data-all}
use Rattle.rp_report.proofs.plan_json.row_values.Goals as goal

pub loop-i-preserved : goal.loop-i-preserved
loop-i-preserved c =
    data-more c.args.rows.now c.args.notes.now c.loop-i.i view c.args.list.now _ _ c.loop-i.values.items _ c.in_ok-row_value.field-0
    c.loop-i-test.true c.requires c.in_ok-push.ensures.items c.loop-i.invariant c.in_ok-row_value.ensures

pub returns : goal.returns
returns c =
    data-all c.args.rows.now c.args.notes.now c.loop-i.i view c.args.list.now c.loop-i.values.items c.loop-i-test.false c.requires c.loop-i.invariant
