use Rattle.std.proofs.Common.{◌≡◌, ◌++◌, drop, map}
use Rattle.std.specs.List.{enumerate_from}
use Rattle.rp_sizes.specs.Sizes.{asked, asked_of}
use Rattle.rp_sizes.proofs.wants.asked.Given as goal

abbrev pub invariant-loop-file : goal.invariant-loop-file
invariant-loop-file l =
    l.wants ++ map (asked_of l.matched l.defs l.facts) (enumerate_from l.file (drop l.file l.defs)) ≡ asked l.matched l.defs l.facts
