-- The superblock, and the salt that stands in it.
use Rattle.std.proofs.Common.{sym}
use Rattle.rp_tree.proofs.check.tree_in.Goals as goal

pub returns-clause-tree : goal.returns-clause-tree
returns-clause-tree c = (sym c.in_ok-said.ensures.superblock, c.salt_in-salt.ensures)
