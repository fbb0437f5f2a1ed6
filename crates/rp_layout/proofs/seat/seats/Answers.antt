use Rattle.std.proofs.Common.{◌≡◌, ◌∙◌, length, arith, ap}
use Rattle.rp_layout.specs.Stacking.{with_news}
use Rattle.rp_layout.proofs.Lists.{put_back}
use Rattle.rp_layout.proofs.Seating.{seats_are}
use Rattle.rp_layout.proofs.seat.seats.Goals as goal

pub returns : goal.returns
returns c =
    let same : length c.add_news.new.seats ≡ c.in_ok-seats.seats.len = omega (arith, ap length c.deref_mut.ensures.value) in
    put_back c.in_ok-seats.seats.len c.in_ok-seats.seats.items c.add_news.new.seats same
    ∙ c.in_ok-add_news.ensures
    ∙ ap (with_news c.args.wants.now c.args.news.now c.args.places.now) (c.deref_mut.ensures.value ∙ c.in_ok-seats.ensures)
    ∙ seats_are c.args.rows.now c.args.matched.now c.args.wants.now c.args.areas.now c.args.news.now c.args.places.now
    c.requires.one_each c.requires.news c.requires.places
