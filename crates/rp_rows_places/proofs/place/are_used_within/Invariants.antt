use Rattle.std.proofs.Common.{◌≤◌, All, take}
use Rattle.rp_areas.specs.declared.gaps.Area.{Area}
use Rattle.rp_rows_places.proofs.place.are_used_within.Given as goal

abbrev pub invariant-loop-area : goal.invariant-loop-area
invariant-loop-area l = All (λ (a : Area). a.used ≤ a.span) (take l.area-index l.areas)
