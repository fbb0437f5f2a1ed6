use Rattle.std.proofs.Common.{◌≡◌, drop, length}
use Rattle.rp_place.specs.Placing.{placed, placed_in}
use Rattle.rp_place.proofs.Walk.{after}
use Rattle.rp_place.proofs.fit.walk.Given as goal

abbrev pub invariant-loop-new : goal.invariant-loop-new
invariant-loop-new l = (length l.rooms.items ≡ length l.areas)
    × (after l.places (placed_in l.areas l.threshold l.rooms.items (drop l.new-index l.news)) ≡ placed l.areas l.news l.threshold)
