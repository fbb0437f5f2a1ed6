use Rattle.std.proofs.Common.{◌≡◌, ◌*◌, length, take}
use Rattle.rp_layout.specs.Seats.{items_of}
use Rattle.rp_layout.proofs.stack.items.Given as goal

abbrev pub invariant-loop-seat : goal.invariant-loop-seat
invariant-loop-seat l = (l.items.items ≡ items_of (take l.seat-index l.seats)) × (length l.items.items ≡ 2 * l.seat-index)
