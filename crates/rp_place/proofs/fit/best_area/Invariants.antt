use Rattle.std.proofs.Common.{◌≡◌}
use Rattle.rp_place.proofs.Best.{best_among}
use Rattle.rp_place.proofs.fit.best_area.Given as goal

abbrev pub invariant-loop-place : goal.invariant-loop-place
invariant-loop-place l = l.best ≡ best_among l.areas l.rooms l.need l.place
