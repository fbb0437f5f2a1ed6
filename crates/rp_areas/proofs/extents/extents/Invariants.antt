use Rattle.std.proofs.Common.{◌≡◌, map, take}
use Rattle.std.specs.List.{enumerate_from}
use Rattle.rp_areas.specs.Areas.{extent_of}
use Rattle.rp_areas.proofs.extents.extents.Given as goal

abbrev pub invariant-loop-place : goal.invariant-loop-place
invariant-loop-place l = l.extents.items ≡ map (extent_of l.matched) (take l.place (enumerate_from 0 l.rows))
