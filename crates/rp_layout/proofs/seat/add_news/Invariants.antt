use Rattle.std.proofs.Common.{◌≡◌, drop, length}
use Rattle.rp_layout.specs.Stacking.{with_news}
use Rattle.rp_layout.proofs.seat.add_news.Given as goal

abbrev pub invariant-loop-order : goal.invariant-loop-order
invariant-loop-order l =
    (with_news l.wants (drop l.order l.news) (drop l.order l.places) l.seats ≡ with_news l.wants l.news l.places l.initial.seats)
    × (length l.seats ≡ length l.initial.seats)
