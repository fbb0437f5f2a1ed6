use Rattle.std.proofs.Common.{◌∙◌, ◌+◌, ◌<◌, All, List, None, Option, arith, ap, drop, get_or, length, subst, sym}
use Rattle.rp_areas.specs.declared.gaps.Area.{Area}
use Rattle.rp_layout.specs.declared.seat.Seat.{Seat}
use Rattle.rp_layout.specs.declared.spot.Spot.{Spot}
use Rattle.rp_layout.specs.Layout.{spots_from}
use Rattle.rp_layout.specs.Seats.{stack_of}
use Rattle.rp_layout.specs.Stacking.{IsStackable, spots_over, written}
use Rattle.rp_layout.proofs.Lists.{length-zipped, zipped_at}
use Rattle.rp_layout.proofs.Seating.{over_more}
use Rattle.rp_layout.proofs.stack.stack_all.Goals as goal

pub bounds-seats-place : goal.bounds-seats-place
bounds-seats-place c = omega (
  arith,
  length-zipped (λ (a : Area) s. IsStackable a.from a.span s) c.args.areas.now c.args.seats.now
      c.requires.stackable,
)

pub stack-requires-clause-stackable : goal.stack-requires-clause-stackable
stack-requires-clause-stackable c =
    let d : Area = record { from = 0; span = 0; anchor = None; used = 0 } in
    let a : Area = get_or c.args.areas.now c.loop-place.place d in
    let below : c.loop-place.place < length c.args.areas.now = omega arith in
    subst (λ (s : List Seat). IsStackable a.from a.span s) (sym (c.as_slice.ensures ∙ c.index-seats-place.is))
    (zipped_at (λ (b : Area) s. IsStackable b.from b.span s) c.args.areas.now c.args.seats.now c.loop-place.place d
    c.index-seats-place.result c.requires.stackable below)

pub stack-requires-clause-files : goal.stack-requires-clause-files
stack-requires-clause-files c =
    let inside : c.loop-place.place < length c.args.seats.now = omega
    (arith, length-zipped (λ (a : Area) s. IsStackable a.from a.span s) c.args.areas.now c.args.seats.now c.requires.stackable) in
    subst (All (λ (s : Seat). s.file < length c.loop-place.spots)) (sym (c.as_slice.ensures ∙ c.index-seats-place.is))
    (λ k d below. omega (arith, c.requires.files c.loop-place.place c.index-seats-place.result inside k d below, c.loop-place.invariant.1))

pub loop-place-preserved : goal.loop-place-preserved
loop-place-preserved c =
    let d : Area = record { from = 0; span = 0; anchor = None; used = 0 } in
    let a : Area = get_or c.args.areas.now c.loop-place.place d in
    let below : c.loop-place.place < length c.args.areas.now = omega arith in
    let inside : c.loop-place.place < length c.args.seats.now = omega
    (arith, length-zipped (λ (b : Area) s. IsStackable b.from b.span s) c.args.areas.now c.args.seats.now c.requires.stackable) in (
      ap (λ (xs : List (Option Spot)). written xs (spots_over (drop (c.loop-place.place + 1) c.args.areas.now) (drop
          (c.loop-place.place + 1) c.args.seats.now)))
          (c.in_ok-stack.ensures ∙ ap (λ (s : List Seat). written c.loop-place.spots (spots_from a.from (stack_of a.span s)))
          (c.as_slice.ensures ∙ c.index-seats-place.is))
          ∙ over_more c.loop-place.spots c.args.areas.now c.args.seats.now c.loop-place.place d c.index-seats-place.result below inside
          ∙ c.loop-place.invariant.0,
      omega (arith, c.loop-place.invariant.1),
    )
