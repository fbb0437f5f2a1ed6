use Rattle.std.proofs.Common.{◌≡◌, take}
use Rattle.rp_sizes.specs.Needs.{kinds_of}
use Rattle.rp_sizes.proofs.need.kinds.Given as goal

abbrev pub invariant-loop-def : goal.invariant-loop-def
invariant-loop-def l = l.kinds ≡ kinds_of (take l.def-index l.defs)
