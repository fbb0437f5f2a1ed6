-- Where a row has no block nothing is read.
use Rattle.rp_tree.proofs.ReadsLemmas.{reads-none}
use Rattle.rp_difference.proofs.trees.bad_of.Goals as goal

pub returns-then-payload-lt-BLOCK_UNITS-clause-reads : goal.returns-then-payload-lt-BLOCK_UNITS-clause-reads
returns-then-payload-lt-BLOCK_UNITS-clause-reads g c = reads-none _ (g.D.Disk.device c.args.disk.now) _
