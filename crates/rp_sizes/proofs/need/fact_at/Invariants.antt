use Rattle.std.proofs.Common.{◌≡◌, drop}
use Rattle.rp_sizes.specs.Needs.{fact_of}
use Rattle.rp_sizes.proofs.need.fact_at.Given as goal

abbrev pub invariant-loop-fact : goal.invariant-loop-fact
invariant-loop-fact l = fact_of (drop l.fact-index l.facts) l.file ≡ fact_of l.facts l.file
