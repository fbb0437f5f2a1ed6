use Rattle.std.proofs.Common.{◌∙◌}
use Rattle.rp_facts.proofs.Asking.{each_more, facts_step, strays_step}
use Rattle.rp_facts.proofs.facts.with_roots.Goals as goal

pub loop-i-preserved : goal.loop-i-preserved
loop-i-preserved g c = record {
  told = c.fact_of.ensures.told ∙ c.loop-i.invariant.told;
  kept = c.in_ok-fact.ensures.cause ∙ c.loop-i.invariant.kept;
  strays = strays_step c.args.list.now c.args.needs.now c.args.lens.now c.loop-i.i _ _ _ _ _ _ _ c.loop-i-test.true c.requires.count
      c.loop-i.invariant.told c.loop-i.invariant.strays c.fact_of.ensures.strays;
  facts = facts_step c.args.list.now c.args.needs.now c.args.lens.now c.loop-i.i _ _ _ _ c.args.seed c.loop-i.facts _ c.in_ok-fact.fact
      c.loop-i-test.true c.requires.count c.loop-i.invariant.told c.in_ok-push.ensures.ok c.loop-i.invariant.facts c.in_ok-fact.ensures.fact;
  each = rw c.in_ok-push.ensures.ok (each_more c.args.needs.now c.loop-i.facts c.loop-i.i _ c.in_ok-fact.fact c.loop-i-test.true c.loop-i.invariant.each
      c.in_ok-fact.ensures.each.0 c.in_ok-fact.ensures.each.1);
}

pub returns-in_err-fact-clause-strays : goal.returns-in_err-fact-clause-strays
returns-in_err-fact-clause-strays g c = strays_step c.args.list.now c.args.needs.now c.args.lens.now c.loop-i.i _ _ _ _ _ _ _ c.loop-i-test.true
    c.requires.count c.loop-i.invariant.told c.loop-i.invariant.strays c.fact_of.ensures.strays

pub returns-in_err-push-clause-strays : goal.returns-in_err-push-clause-strays
returns-in_err-push-clause-strays g c = strays_step c.args.list.now c.args.needs.now c.args.lens.now c.loop-i.i _ _ _ _ _ _ _ c.loop-i-test.true
    c.requires.count c.loop-i.invariant.told c.loop-i.invariant.strays c.fact_of.ensures.strays
