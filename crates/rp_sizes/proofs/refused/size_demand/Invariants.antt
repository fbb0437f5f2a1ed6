use Rattle.std.proofs.Common.{◌≡◌, drop}
use Rattle.std.specs.List.{enumerate_from}
use Rattle.rp_sizes.specs.Sizes.{first_of, too_large, size_demand}
use Rattle.rp_sizes.proofs.refused.size_demand.Given as goal

abbrev pub invariant-loop-file : goal.invariant-loop-file
invariant-loop-file l = first_of (too_large l.matched l.defs l.facts) (enumerate_from l.file (drop l.file l.defs)) ≡ size_demand l.matched l.defs l.facts
