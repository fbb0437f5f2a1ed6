use Rattle.rp_disk.proofs.Law.{settled_leaves, synced}
use Rattle.rp_disk.proofs.stops.settled_law.Goals as goal

pub returns-clause-synced : goal.returns-clause-synced
returns-clause-synced c = synced

pub returns-clause-left : goal.returns-clause-left
returns-clause-left c = settled_leaves
