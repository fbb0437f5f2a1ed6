use Rattle.std.proofs.Common.{arith}
use Rattle.rp_sizes.proofs.Walks.{items_all, copies_more}
use Rattle.rp_plan.specs.Notes.{old_note}
use Rattle.rp_plan.proofs.notes.old_notes.Goals as goal

pub loop-place-preserved : goal.loop-place-preserved
loop-place-preserved c = copies_more (old_note c.args.matched.now c.args.goal.now) c.loop-place.notes _ c.args.rows.now c.loop-place.place _ _ _
    (omega arith) c.old.ensures c.in_ok-push.ensures.ok c.loop-place.invariant

pub returns : goal.returns
returns c = items_all (old_note c.args.matched.now c.args.goal.now) c.loop-place.notes c.args.rows.now c.loop-place.place _ (omega arith) c.loop-place.invariant
