-- Superblock, root, hash blocks and data blocks in turn.
use Rattle.rp_tree.proofs.SealedLemmas.{sealed-bad, sealed-has_root}
use Rattle.rp_tree.proofs.law.sealed_rows_are_right.Goals as goal

pub returns-clause-root : goal.returns-clause-root
returns-clause-root c = sealed-has_root

pub returns-clause-bad : goal.returns-clause-bad
returns-clause-bad c = sealed-bad
