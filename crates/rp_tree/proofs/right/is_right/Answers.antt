-- The digest of one block.
use Rattle.std.proofs.Common.{◌≡◌, ◌∙◌, refl, arith}
use Rattle.std.proofs.lemmas.List.{take_all}
use Rattle.rp_lanes.specs.Blocks.{block_of}
use Rattle.rp_verity.specs.Tree.{digest}
use Rattle.rp_tree.proofs.right.is_right.Goals as goal

pub returns : goal.returns
unfolding digest
returns c =
    let whole : block_of c.args.block.now 4096 0 ≡ c.args.block.now = take_all 4096 c.args.block.now (omega arith) in
    c.is_stored.ensures ∙ rw (c.digest_blocks.ensures.digests 0 (omega arith), whole) refl
