use Rattle.std.proofs.Common.{◌≡◌, ◌++◌, drop}
use Rattle.std.specs.List.{enumerate_from, filter_map}
use Rattle.rp_sizes.specs.Needs.{need_of, needs_of}
use Rattle.rp_sizes.proofs.need.needs.Given as goal

abbrev pub invariant-loop-file : goal.invariant-loop-file
invariant-loop-file l = l.needs ++ filter_map (need_of l.matched) (enumerate_from l.file (drop l.file l.defs)) ≡ needs_of l.matched l.defs
