-- Over more than one block there is a hash block behind the superblock's.
use Rattle.std.proofs.Common.{◌≤◌, arith}
use Rattle.rp_base.specs.Trees.{hash_blocks}
use Rattle.rp_tree.proofs.Counts.{two-blocks}
use Rattle.rp_tree.proofs.check.read_top.Goals as goal

pub read_blocks-requires-else-blocks-eq1-clause-blocks : goal.read_blocks-requires-else-blocks-eq1-clause-blocks
read_blocks-requires-else-blocks-eq1-clause-blocks g c =
    let two : 2 ≤ hash_blocks c.args.blocks = two-blocks c.args.blocks c.requires.fits.some c.if-blocks-eq1.false in
    omega (arith, c.requires.fits.tree_fits)
