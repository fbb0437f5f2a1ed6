use Rattle.std.proofs.Common.{rules, ◌++◌, arith, length-append}
use Rattle.rp_lanes.proofs.PaddedLemmas.{padded_block_is}
use Rattle.rp_lanes.proofs.message.block_at.Goals as goal

pub returns : goal.returns
returns c =
    padded_block_is (c.args.salt.now ++ c.args.block.now) c.loop-k.bytes c.args.i
    (omega (arith, length-append c.args.salt.now c.args.block.now)) c.loop-k.invariant.0
    (λ p lt. c.loop-k.invariant.1 p (omega arith))
