-- One block more is pushed.
use Rattle.std.proofs.Common.{◌∙◌, arith}
use Rattle.rp_seal.proofs.format.tree.Goals as goal

pub loop-k-init : goal.loop-k-init
loop-k-init g c = record {
  builder = c.new-builder.ensures.builder;
  blocks = c.new-builder.ensures.blocks;
  pushed = c.new-builder.ensures.pushed;
}

pub loop-k-preserved : goal.loop-k-preserved
loop-k-preserved g c = record {
  builder = c.in_ok-push.ensures.builder;
  blocks = c.push.ensures.blocks ∙ c.loop-k.invariant.blocks;
  pushed = omega (arith, c.push.ensures.pushed, c.loop-k.invariant.pushed);
}
