use Rattle.std.proofs.Common.{◌≡◌, drop, length}
use Rattle.rp_layout.specs.Stacking.{spots_over, written}
use Rattle.rp_layout.proofs.stack.stack_all.Given as goal

abbrev pub invariant-loop-place : goal.invariant-loop-place
invariant-loop-place l =
    (written l.spots (spots_over (drop l.place l.areas) (drop l.place l.seats)) ≡ written l.initial.spots (spots_over l.areas l.seats))
    × (length l.spots ≡ length l.initial.spots)
