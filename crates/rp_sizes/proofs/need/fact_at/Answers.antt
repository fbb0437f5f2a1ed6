use Rattle.std.proofs.Common.{arith}
use Rattle.rp_sizes.proofs.Found.{fact_here, fact_past, no_fact}
use Rattle.rp_sizes.proofs.need.fact_at.Goals as goal

pub loop-fact-preserved : goal.loop-fact-preserved
loop-fact-preserved c = fact_past c.args.facts.now c.args.file c.loop-fact.fact-index _ _ (omega arith) c.if-fact-file.false c.loop-fact.invariant

pub returns-then-fact-file : goal.returns-then-fact-file
returns-then-fact-file c = fact_here c.args.facts.now c.args.file c.loop-fact.fact-index _ _ (omega arith) c.if-fact-file.true c.loop-fact.invariant

pub returns : goal.returns
returns c = no_fact c.args.facts.now c.args.file c.loop-fact.fact-index _ (omega arith) c.loop-fact.invariant
