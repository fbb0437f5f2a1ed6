-- The superblock's block and the blocks of the levels.
use Rattle.std.proofs.Common.{◌*◌, ◌≤◌, refl, arith}
use Rattle.std.proofs.Math.Nat.{mul-le-mul_right}
use Rattle.rp_verity.specs.Tree.{runs}
use Rattle.rp_verity.proofs.ShapeLemmas.{hash_blocks-over}
use Rattle.rp_verity.proofs.shape.hash_blocks.Goals as goal

pub returns-clause-blocks : goal.returns-clause-blocks
returns-clause-blocks c =
    rw (hash_blocks-over c.args.blocks c.requires.some, c.blocks_over.ensures.blocks, c.levels.ensures.levels) refl

pub returns-clause-few_blocks : goal.returns-clause-few_blocks
returns-clause-few_blocks c =
    let each : c.levels.result * runs c.args.blocks ≤ 5 * runs c.args.blocks = mul-le-mul_right (runs c.args.blocks) c.levels.ensures.few_levels in
    omega arith
