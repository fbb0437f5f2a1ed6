use Rattle.std.proofs.Common.{arith}
use Rattle.rp_steps.specs.Planned.{IsPlanned}
use Rattle.rp_steps.specs.Steps.{tree_steps}
use Rattle.rp_steps.proofs.News.{loop_all, loop_more, one_of}
use Rattle.rp_steps.proofs.contents.push_trees.Goals as goal

pub push_tree-requires-clause-planned : goal.push_tree-requires-clause-planned
push_tree-requires-clause-planned c =
    one_of IsPlanned c.args.plan.now.goal.rows _ c.args.plan.now.notes _ c.loop-place.place _ _ c.as_slice-row-items.ensures c.as_slice-notes.ensures
    c.requires.notes (omega arith) c.requires.planned

pub loop-place-preserved : goal.loop-place-preserved
loop-place-preserved c =
    loop_more (λ noted. tree_steps c.args.plan.now.goal.rows noted.0 noted.1.role) c.args.plan.now.goal.rows _ c.args.plan.now.notes _ c.loop-place.place _ _
    c.args.steps.now _ _ c.as_slice-row-items.ensures c.as_slice-notes.ensures c.requires.notes (omega arith) c.loop-place.invariant
    (c.in_ok-push_tree.ensures {u = tt})

pub returns : goal.returns
returns c =
    loop_all (λ noted. tree_steps c.args.plan.now.goal.rows noted.0 noted.1.role) c.args.plan.now.goal.rows _ c.args.plan.now.notes c.loop-place.place
    c.args.steps.now _ c.as_slice-row-items.ensures c.requires.notes (omega arith) c.loop-place.invariant
