use Rattle.std.proofs.Common.{◌≡◌, ◌∷◌, ◌++◌, drop}
use Rattle.rp_areas.specs.Areas.{area_before, areas_behind}
use Rattle.rp_areas.proofs.gaps.areas_between.Given as goal

abbrev pub invariant-loop-place : goal.invariant-loop-place
invariant-loop-place l = l.areas ++ areas_behind l.last l.wants (drop l.place l.extents) ≡ area_before l.fn.first l.last
    l.extents ∷ areas_behind l.last l.wants l.extents
