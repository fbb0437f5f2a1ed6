use Rattle.std.proofs.Common.{◌≡◌, ◌∙◌, ◌<◌, ◌≤◌, arith, length}
use Rattle.rp_place.specs.Placing.{best_of}
use Rattle.rp_place.proofs.Best.{best_all, best_no, best_place, best_room, best_yes, no_area}
use Rattle.rp_place.proofs.fit.best_area.Goals as goal
use Rattle.rp_place.proofs.fit.best_area.Goals.{then-candidate-need, else-candidate-need}

pub loop-place-preserved : goal.loop-place-preserved
loop-place-preserved c =
    let below : c.loop-place.place < length c.args.areas.now = omega arith in
    elim c.if-candidate-need.branch [
      | then-candidate-need w ↦ w.best-is ∙ best_yes c.args.areas.now c.args.rooms.now c.args.need c.loop-place.place no_area
          c.loop-place.best _ below w.if-candidate-need.true c.loop-place.invariant w.lesser.ensures
      | else-candidate-need w ↦ w.best-is ∙ best_no c.args.areas.now c.args.rooms.now c.args.need c.loop-place.place no_area
          c.loop-place.best below w.if-candidate-need.false c.loop-place.invariant
    ]

pub returns-clause-best : goal.returns-clause-best
returns-clause-best c =
    let all : length c.args.areas.now ≤ c.loop-place.place = omega arith in
    c.loop-place.invariant ∙ best_all c.args.areas.now c.args.rooms.now c.args.need c.loop-place.place all

pub returns-clause-place : goal.returns-clause-place
returns-clause-place c =
    let all : length c.args.areas.now ≤ c.loop-place.place = omega arith in
    let e : c.loop-place.best ≡ best_of c.args.areas.now c.args.rooms.now c.args.need = c.loop-place.invariant
    ∙ best_all c.args.areas.now c.args.rooms.now c.args.need c.loop-place.place all in
    rw e (best_place c.args.areas.now c.args.rooms.now c.args.need)

pub returns-clause-room : goal.returns-clause-room
returns-clause-room c =
    let all : length c.args.areas.now ≤ c.loop-place.place = omega arith in
    let e : c.loop-place.best ≡ best_of c.args.areas.now c.args.rooms.now c.args.need = c.loop-place.invariant
    ∙ best_all c.args.areas.now c.args.rooms.now c.args.need c.loop-place.place all in
    rw e (best_room c.args.areas.now c.args.rooms.now c.args.need)
