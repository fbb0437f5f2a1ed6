use Rattle.std.proofs.Common.{◌≡◌, [], map, take}
use Rattle.std.specs.List.{cons_option}
use Rattle.rp_areas.specs.declared.gaps.Area.{Area}
use Rattle.rp_layout.specs.Seats.{seats_of}
use Rattle.rp_layout.proofs.seat.anchors.Given as goal

abbrev pub invariant-loop-area : goal.invariant-loop-area
invariant-loop-area l = l.seats.items ≡ map (λ (a : Area). seats_of l.rows l.matched l.wants (cons_option a.anchor []))
    (take l.area-index l.areas)
