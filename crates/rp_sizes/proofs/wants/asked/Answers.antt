use Rattle.std.proofs.Common.{arith}
use Rattle.rp_sizes.specs.Sizes.{asked_of}
use Rattle.rp_sizes.proofs.Walks.{items_all, items_more}
use Rattle.rp_sizes.proofs.wants.asked.Goals as goal

pub loop-file-preserved : goal.loop-file-preserved
loop-file-preserved c = items_more (asked_of c.args.matched.now c.args.defs.now c.args.facts.now) c.loop-file.wants _ c.args.defs.now
    c.loop-file.file c.index-defs-file.result _ _ (omega arith) c.index-defs-file.is c.asked_for.ensures c.in_ok-push.ensures.ok c.loop-file.invariant

pub returns : goal.returns
returns c = items_all (asked_of c.args.matched.now c.args.defs.now c.args.facts.now) c.loop-file.wants c.args.defs.now c.loop-file.file _
    (omega arith) c.loop-file.invariant
