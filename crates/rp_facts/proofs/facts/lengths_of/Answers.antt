use Rattle.std.proofs.Common.{◌∙◌}
use Rattle.rp_facts.proofs.Asking.{lengths_more, one_longer, strays_ok}
use Rattle.rp_facts.proofs.facts.lengths_of.Goals as goal

pub loop-need-preserved : goal.loop-need-preserved
loop-need-preserved g c = record {
  told = c.length_of.ensures.told ∙ c.loop-need.invariant.told;
  kept = c.in_ok-len.ensures.cause ∙ c.loop-need.invariant.kept;
  strays = strays_ok c.args.list.now c.args.needs.now c.loop-need.need-index _ _ _ _ _ _ c.in_ok-len.len c.loop-need.invariant.told
      c.loop-need.invariant.strays c.in_ok-len.ensures.strays;
  lens = lengths_more c.args.list.now c.args.needs.now c.loop-need.lens _ c.loop-need.need-index _ c.in_ok-len.len _ _ c.loop-need-test.true
      c.loop-need.invariant.told c.in_ok-push.ensures.ok c.loop-need.invariant.lens c.in_ok-len.ensures.len;
  count = one_longer c.loop-need.lens _ c.in_ok-len.len c.loop-need.need-index c.in_ok-push.ensures.ok c.loop-need.invariant.count;
}
