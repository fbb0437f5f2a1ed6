use Rattle.std.proofs.Common.{◌≡◌, fold, max, take}
use Rattle.rp_place.proofs.fit.largest.Given as goal

abbrev pub invariant-loop-room : goal.invariant-loop-room
invariant-loop-room l = l.largest ≡ fold max 0 (take l.room-index l.rooms)
