-- Where there is no hash tree nothing is read.
use Rattle.rp_tree.proofs.ReadsLemmas.{reads-none}
use Rattle.rp_dissect.proofs.found.has_tree.Goals as goal

pub returns-in_default-clause-reads : goal.returns-in_default-clause-reads
returns-in_default-clause-reads g c = reads-none _ (g.D.Disk.device c.args.disk.now) _

pub returns-in_default-2-clause-reads : goal.returns-in_default-2-clause-reads
returns-in_default-2-clause-reads g c = reads-none _ (g.D.Disk.device c.args.disk.now) _
