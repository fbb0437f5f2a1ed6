use Rattle.std.proofs.Common.{arith}
use Rattle.rp_sizes.specs.News.{new_of}
use Rattle.rp_sizes.proofs.Walks.{answers_all, answers_more}
use Rattle.rp_sizes.proofs.wants.news.Goals as goal

pub loop-file-preserved : goal.loop-file-preserved
loop-file-preserved c = answers_more (new_of c.args.matched.now c.args.wants.now) c.loop-file.news _ c.args.defs.now c.loop-file.file
    c.index-defs-file.result _ _ (omega arith) c.index-defs-file.is c.new_for.ensures c.in_ok-push_some.ensures c.loop-file.invariant

pub returns : goal.returns
returns c = answers_all (new_of c.args.matched.now c.args.wants.now) c.loop-file.news c.args.defs.now c.loop-file.file _ (omega arith)
    c.loop-file.invariant
