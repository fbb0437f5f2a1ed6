use Rattle.std.proofs.Common.{arith}
use Rattle.rp_sizes.proofs.Walks.{items_all, copies_more}
use Rattle.rp_plan.specs.Rows.{row_again}
use Rattle.rp_plan.proofs.rows.old_rows.Goals as goal

pub loop-place-preserved : goal.loop-place-preserved
loop-place-preserved c = copies_more (row_again c.args.matched.now c.args.spots.now) c.loop-place.laid _ c.args.rows.now c.loop-place.place _ _ _
    (omega arith) c.again.ensures c.in_ok-push.ensures.ok c.loop-place.invariant

pub returns : goal.returns
returns c = items_all (row_again c.args.matched.now c.args.spots.now) c.loop-place.laid c.args.rows.now c.loop-place.place _ (omega arith) c.loop-place.invariant
