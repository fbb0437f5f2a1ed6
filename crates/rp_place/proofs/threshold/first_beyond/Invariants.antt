use Rattle.std.proofs.Common.{◌≡◌, drop, slice_get}
use Rattle.rp_place.specs.Placing.{kept}
use Rattle.rp_place.proofs.threshold.first_beyond.Given as goal

abbrev pub invariant-loop-new : goal.invariant-loop-new
invariant-loop-new l = slice_get (kept (drop l.new-index l.news) l.threshold) l.free ≡ slice_get (kept l.news l.threshold) l.free_slots
