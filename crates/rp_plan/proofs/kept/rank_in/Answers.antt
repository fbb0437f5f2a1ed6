use Rattle.std.proofs.Common.{arith, eq-eqb}
use Rattle.std.specs.Prelude.{◌==◌}
use Rattle.rp_plan.proofs.Searching.{position_here, position_nowhere}
use Rattle.rp_plan.proofs.kept.rank_in.Goals as goal

pub returns-then-own-file-clause-value : goal.returns-then-own-file-clause-value
returns-then-own-file-clause-value c = position_here (λ k. k == c.args.file) c.args.kept.now c.loop-rank.rank _ (omega arith)
    c.loop-rank.invariant (eq-eqb _ c.args.file c.if-own-file.true)

pub returns-clause-value : goal.returns-clause-value
returns-clause-value c = position_nowhere (λ k. k == c.args.file) c.args.kept.now c.loop-rank.rank (omega arith) c.loop-rank.invariant
