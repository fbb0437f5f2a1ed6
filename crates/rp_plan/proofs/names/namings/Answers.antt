use Rattle.std.proofs.Common.{arith}
use Rattle.rp_sizes.proofs.Walks.{answers_all, answers_more}
use Rattle.rp_plan.specs.Names.{naming_of}
use Rattle.rp_plan.proofs.names.namings.Goals as goal

pub loop-file-preserved : goal.loop-file-preserved
loop-file-preserved c = answers_more (naming_of c.args.facts.now c.args.matched.now c.args.rows c.args.kept.now) c.loop-file.namings _ c.args.defs.now c.loop-file.file c.index-defs-file.result _ _
    (omega arith) c.index-defs-file.is c.naming.ensures c.in_ok-push_some.ensures c.loop-file.invariant

pub returns : goal.returns
returns c = answers_all (naming_of c.args.facts.now c.args.matched.now c.args.rows c.args.kept.now) c.loop-file.namings c.args.defs.now c.loop-file.file _ (omega arith) c.loop-file.invariant
