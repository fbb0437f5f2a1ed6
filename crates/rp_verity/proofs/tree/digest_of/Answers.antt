-- The hasher has the salt, then the block behind it.
use Rattle.std.proofs.Common.{◌++◌}
use Rattle.rp_verity.specs.Tree.{digest}
use Rattle.rp_verity.proofs.tree.digest_of.Goals as goal

pub returns : goal.returns
unfolding digest
returns c salt salted =
    let whole = c.update.ensures salt (rw c.copy_of-hasher.ensures salted) in
    c.finalize.ensures (salt ++ c.args.block.now) whole
