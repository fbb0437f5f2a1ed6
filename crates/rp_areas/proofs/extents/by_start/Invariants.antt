use Rattle.std.proofs.Common.{◌≡◌, map, take}
use Rattle.rp_areas.specs.Areas.{by_start}
use Rattle.rp_areas.proofs.Order.{keyed}
use Rattle.rp_areas.proofs.extents.by_start.Given as goal

abbrev pub invariant-loop-extent : goal.invariant-loop-extent
invariant-loop-extent l = l.ordered.entries ≡ map keyed (by_start (take l.extent-index l.extents))
