use Rattle.std.proofs.Common.{◌≡◌, drop}
use Rattle.std.specs.List.{enumerate_from}
use Rattle.rp_sizes.specs.Sizes.{first_of, half_alone, half_demand}
use Rattle.rp_sizes.proofs.refused.half_demand.Given as goal

abbrev pub invariant-loop-file : goal.invariant-loop-file
invariant-loop-file l = first_of (half_alone l.matched) (enumerate_from l.file (drop l.file l.defs)) ≡ half_demand l.matched l.defs
