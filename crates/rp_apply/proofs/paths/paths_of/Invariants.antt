use Rattle.std.proofs.Common.{◌≡◌, take}
use Rattle.rp_apply.specs.Sourced.{paths_of}
use Rattle.rp_apply.proofs.paths.paths_of.Given as goal

abbrev pub invariant-loop-definition : goal.invariant-loop-definition
invariant-loop-definition l = l.paths ≡ paths_of (take l.definition-index l.defs)
