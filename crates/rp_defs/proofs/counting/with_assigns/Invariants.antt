-- The assignments so far count.
use Rattle.std.proofs.Common.{◌≡◌, length, map, take}
use Rattle.rp_defs.specs.Kept.{keyed}
use Rattle.rp_defs.specs.Counting.{CountsAlso}
use Rattle.rp_defs.proofs.counting.with_assigns.Given as goal

abbrev pub invariant-loop-assign : goal.invariant-loop-assign
invariant-loop-assign l = record {
  full : length l.counting ≡ 26;
  also : CountsAlso (map (keyed l.piece) (take l.assign-index l.assigns)) l.initial.counting l.counting;
}
