use Rattle.std.proofs.Common.{arith, inl, inr}
use Rattle.std.proofs.lemmas.List.Sums.{get_or-le-sum_by}
use Rattle.rp_share.proofs.RestLemmas.{fair_of_given, full_of_none, sum_given}
use Rattle.rp_share.proofs.rest.hand_out.Goals as goal

pub returns-in_default : goal.returns-in_default
returns-in_default c = record {
  fair = c.loop.invariant.fair;
  whole = inr (omega arith, full_of_none c.args.items.now c.loop.shares c.loop.invariant.fair c.in_default.ensures);
}

pub overflow_add-shares : goal.overflow_add-shares
overflow_add-shares c = omega (
  arith,
  get_or-le-sum_by (λ x. x) c.loop.shares c.in-Some.next 0
      (omega (arith, c.in-Some.ensures.takes.place, c.loop.invariant.fair.one_each)),
)

pub loop-preserved : goal.loop-preserved
loop-preserved c = record {
  fair = fair_of_given c.args.items.now c.loop.shares c.in-Some.next c.loop.invariant.fair c.in-Some.ensures;
  given = omega (arith, sum_given c.args.items.now c.loop.shares c.in-Some.next c.loop.invariant.fair c.in-Some.ensures);
}

pub returns : goal.returns
returns c = record { fair = c.loop.invariant.fair; whole = inl (omega arith) }
