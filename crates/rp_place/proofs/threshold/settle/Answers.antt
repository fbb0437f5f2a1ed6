use Rattle.std.proofs.Common.{◌∙◌, ◌≤ℤ◌, arith, inl, pos, sym, to_z, w32}
use Rattle.std.proofs.lemmas.Int.{ints}
use Rattle.rp_place.proofs.Settled.{settled_err, settled_ok}
use Rattle.rp_place.proofs.Thresholds.{none_lower, refused_at}
use Rattle.rp_place.proofs.threshold.settle.Goals as goal

pub returns-then-highest-eq0 : goal.returns-then-highest-eq0
returns-then-highest-eq0 c =
    let zero : c.highest-highest.result ≤ℤ pos 0 = omega (arith, ints, c.if-highest-eq0.true) in
    let refused = refused_at c.args.areas.now c.args.news.now c.args.free_slots (to_z w32 c.loop-areas.threshold-bits)
    c.highest-highest.result c.in-Err.fault
    c.loop-areas.invariant.2 (sym c.in_ok-areas.ensures ∙ c.in-Err.is) c.highest-highest.ensures.same zero c.loop-areas.invariant.0 in
    inl (sym (settled_err c.args.areas.now c.args.news.now c.args.free_slots c.in-Err.fault refused))

pub loop-areas-preserved : goal.loop-areas-preserved
loop-areas-preserved c = (
  omega (arith, ints),
  omega (arith, ints),
  λ other above high. none_lower c.args.areas.now c.args.news.now c.args.free_slots (to_z w32 c.loop-areas.threshold-bits)
      c.highest-highest.result other c.in-Err.fault
      c.loop-areas.invariant.2 (sym c.in_ok-areas.ensures ∙ c.in-Err.is) c.highest-highest.ensures.same (omega (arith, ints, above)) high,
)

pub returns-in-Ok : goal.returns-in-Ok
returns-in-Ok c =
    inl (sym (settled_ok c.args.areas.now c.args.news.now c.args.free_slots (to_z w32 c.loop-areas.threshold-bits) c.in-Ok.areas
    c.loop-areas.invariant.0 c.loop-areas.invariant.1 c.loop-areas.invariant.2 (sym c.in_ok-areas.ensures ∙ c.in-Ok.is)))
