use Rattle.std.proofs.Common.{◌≡◌, ◌+◌, ◌*◌, ◌^◌, ◌≤◌, drop, length, sum}
use Rattle.rp_layout.specs.Layout.{spots_from}
use Rattle.rp_layout.specs.Seats.{pieces_of}
use Rattle.rp_layout.specs.Stacking.{written}
use Rattle.rp_layout.proofs.stack.write.Given as goal

abbrev pub invariant-loop-place : goal.invariant-loop-place
invariant-loop-place l =
    (written l.spots (spots_from l.from (pieces_of (drop l.place l.seats) (drop (2 * l.place) l.shares)))
    ≡ written l.initial.spots (spots_from l.first (pieces_of l.seats l.shares)))
    × (l.from + sum (drop (2 * l.place) l.shares) ≤ 2 ^ 32)
    × (length l.spots ≡ length l.initial.spots)
