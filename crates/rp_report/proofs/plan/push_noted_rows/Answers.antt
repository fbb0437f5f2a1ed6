use Rattle.rp_report.proofs.NotedLemmas.{noted-more, noted-past}
use Rattle.rp_report.proofs.TextLemmas.{written_more, written_all}
use Rattle.rp_report.proofs.plan.push_noted_rows.Goals as goal

pub loop-i-preserved : goal.loop-i-preserved
loop-i-preserved c =
    written_more _ _ _ _ _ _ c.in_ok-push_noted_row.ensures
    (noted-more c.args.rows.now c.args.notes.now c.loop-i.i c.args.list.now _ _ c.loop-i-test.true c.requires) c.loop-i.invariant

pub returns : goal.returns
returns c =
    written_all _ _ _ (noted-past c.args.rows.now c.args.notes.now c.loop-i.i c.args.list.now c.loop-i-test.false c.requires) c.loop-i.invariant
