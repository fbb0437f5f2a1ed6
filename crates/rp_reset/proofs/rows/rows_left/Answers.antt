use Rattle.std.proofs.Common.{arith}
use Rattle.rp_sizes.proofs.Walks.{answers_all}
use Rattle.rp_reset.specs.Reset.{row_left}
use Rattle.rp_reset.proofs.Walks.{copied_more}
use Rattle.rp_reset.proofs.rows.rows_left.Goals as goal

pub loop-place-preserved : goal.loop-place-preserved
loop-place-preserved c = copied_more (row_left c.args.matched.now c.args.defs.now) c.loop-place.left _ c.args.rows.now c.loop-place.place
    _ _ _ (omega arith) c.row_left.ensures c.in_ok-push_some.ensures c.loop-place.invariant

pub returns : goal.returns
returns c = answers_all (row_left c.args.matched.now c.args.defs.now) c.loop-place.left c.args.rows.now c.loop-place.place _ (omega arith) c.loop-place.invariant
