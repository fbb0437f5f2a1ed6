use Rattle.std.proofs.Common.{◌≡◌, ◌∙◌, ◌<◌, All, IfSome, List, None, Option, arith, ap, length, replicate, subst, sym, ℕ}
use Rattle.std.proofs.lemmas.List.{length-replicate}
use Rattle.rp_layout.specs.declared.seat.Seat.{Seat}
use Rattle.rp_layout.specs.declared.spot.Spot.{Spot}
use Rattle.rp_layout.specs.Stacking.{AreStackable, spots_over, written}
use Rattle.rp_layout.proofs.Laid.{all_differ, all_spots}
use Rattle.rp_layout.proofs.Lists.{put_back}
use Rattle.rp_layout.proofs.Ready.{over_all, ready_anchors, ready_files, ready_one_each, ready_places, ready_stackable, seats_same}
use Rattle.rp_layout.proofs.Written.{written_is}
use Rattle.rp_layout.proofs.lay_out.Goals as goal

pub seats-requires-clause-anchors : goal.seats-requires-clause-anchors
seats-requires-clause-anchors c = ready_anchors c.args.table.now c.requires.ready.0 c.args.matched.now c.args.wants.now c.args.areas.now
    c.args.news.now c.args.kept.now c.requires.ready.1

pub seats-requires-clause-one_each : goal.seats-requires-clause-one_each
seats-requires-clause-one_each c = ap length c.as_slice-2.ensures ∙ ready_one_each c.args.table.now c.requires.ready.0 c.args.matched.now
    c.args.wants.now c.args.areas.now c.args.news.now c.args.kept.now c.requires.ready.1

pub seats-requires-clause-places : goal.seats-requires-clause-places
seats-requires-clause-places c = subst (All (λ (p : Option ℕ). IfSome p (λ a. a < length c.args.areas.now))) (sym c.as_slice-2.ensures)
    (ready_places c.args.table.now c.requires.ready.0 c.args.matched.now c.args.wants.now c.args.areas.now c.args.news.now c.args.kept.now
    c.requires.ready.1)

pub stack_all-requires-clause-stackable : goal.stack_all-requires-clause-stackable
stack_all-requires-clause-stackable c =
    let same = seats_same c.args.table.now c.requires.ready.0 c.args.matched.now c.args.wants.now c.args.areas.now c.args.news.now
    c.args.kept.now c.requires.ready.1 c.as_slice.result.now c.as_slice-2.result.now c.deref.result.now c.as_slice.ensures
    c.as_slice-2.ensures
    (c.deref.ensures.value ∙ c.in_ok-seats.ensures) in
    subst (AreStackable c.args.areas.now) (sym same) (ready_stackable c.args.table.now c.requires.ready.0 c.args.matched.now
    c.args.wants.now
    c.args.areas.now c.args.news.now c.args.kept.now c.requires.ready.1)

pub stack_all-requires-clause-files : goal.stack_all-requires-clause-files
stack_all-requires-clause-files c =
    let same = seats_same c.args.table.now c.requires.ready.0 c.args.matched.now c.args.wants.now c.args.areas.now c.args.news.now
    c.args.kept.now c.requires.ready.1 c.as_slice.result.now c.as_slice-2.result.now c.deref.result.now c.as_slice.ensures
    c.as_slice-2.ensures
    (c.deref.ensures.value ∙ c.in_ok-seats.ensures) in
    let long : length c.deref_mut.result.now ≡ length c.args.wants.now = ap length (c.deref_mut.ensures.value ∙ c.in_ok-spots.ensures)
    ∙ length-replicate (length c.args.wants.now) None in
    subst (All (All (λ (s : Seat). s.file < length c.deref_mut.result.now))) (sym same)
    (λ k d below j e inside. omega (
      arith,
      long,
      ready_files c.args.table.now c.requires.ready.0 c.args.matched.now c.args.wants.now
          c.args.areas.now c.args.news.now c.args.kept.now c.requires.ready.1 k d below j e inside,
    ))

pub returns : goal.returns
returns c =
    let same = seats_same c.args.table.now c.requires.ready.0 c.args.matched.now c.args.wants.now c.args.areas.now c.args.news.now
    c.args.kept.now c.requires.ready.1 c.as_slice.result.now c.as_slice-2.result.now c.deref.result.now c.as_slice.ensures
    c.as_slice-2.ensures
    (c.deref.ensures.value ∙ c.in_ok-seats.ensures) in
    let none : c.deref_mut.result.now ≡ replicate (length c.args.wants.now) None = c.deref_mut.ensures.value ∙ c.in_ok-spots.ensures in
    let long : length c.stack_all.new.spots ≡ c.in_ok-spots.spots.len = omega (arith, ap length c.deref_mut.ensures.value) in
    let spots : List Spot = all_spots c.args.table.now c.requires.ready.0 c.args.matched.now c.args.wants.now c.args.areas.now
    c.args.news.now c.args.kept.now c.requires.ready.1 in
    record {
      spots = c.from_vec.ensures
          ∙ put_back c.in_ok-spots.spots.len c.in_ok-spots.spots.items c.stack_all.new.spots long
          ∙ c.in_ok-stack_all.ensures
          ∙ ap (λ (ss : List (List Seat)). written c.deref_mut.result.now (spots_over c.args.areas.now ss)) same
          ∙ ap (written c.deref_mut.result.now) (over_all c.args.table.now c.requires.ready.0 c.args.matched.now c.args.wants.now
          c.args.areas.now c.args.news.now c.args.kept.now c.requires.ready.1)
          ∙ ap (λ (xs : List (Option Spot)). written xs spots) none
          ∙ written_is c.args.wants.now spots (all_differ c.args.table.now c.requires.ready.0 c.args.matched.now c.args.wants.now
          c.args.areas.now c.args.news.now c.args.kept.now c.requires.ready.1);
    }
