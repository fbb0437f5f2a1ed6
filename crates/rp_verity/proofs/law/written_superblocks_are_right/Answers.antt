-- By the parts of which it is put together.
use Rattle.rp_verity.proofs.SuperblockLemmas.{written-right, written-salt}
use Rattle.rp_verity.proofs.law.written_superblocks_are_right.Goals as goal

pub returns-clause-right : goal.returns-clause-right
returns-clause-right c = written-right

pub returns-clause-salt : goal.returns-clause-salt
returns-clause-salt c = written-salt
