use Rattle.std.proofs.Common.{◌≡◌, drop}
use Rattle.rp_verdict.specs.Verdicts.{first_denial}
use Rattle.rp_verdict.proofs.judged.first_denial.Given as goal

-- none so far
abbrev pub invariant-loop-verdict : goal.invariant-loop-verdict
invariant-loop-verdict l = first_denial l.list ≡ first_denial (drop l.verdict-index l.list)
