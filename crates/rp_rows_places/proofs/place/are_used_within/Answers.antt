use Rattle.std.proofs.Common.{None, ◌<◌, ◌≤◌, arith, length}
use Rattle.std.proofs.lemmas.List.{take_all}
use Rattle.std.proofs.lemmas.List.Elements.{All-more}
use Rattle.rp_areas.specs.declared.gaps.Area.{Area}
use Rattle.rp_rows_places.proofs.place.are_used_within.Goals as goal

abbrev no_area : Area
no_area = record { from = 0; span = 0; anchor = None; used = 0 }

pub loop-area-preserved : goal.loop-area-preserved
loop-area-preserved c =
    let below : c.loop-area.area-index < length c.args.areas.now = omega arith in
    All-more (λ (a : Area). a.used ≤ a.span) c.args.areas.now c.loop-area.area-index no_area below c.loop-area.invariant c.if-area.false

pub returns : goal.returns
returns c = λ _.
    let all : length c.args.areas.now ≤ c.loop-area.area-index = omega arith in
    rw (take_all c.loop-area.area-index c.args.areas.now all) at c.loop-area.invariant
