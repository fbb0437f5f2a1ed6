use Rattle.rp_disk.proofs.Runs.{any_moment, any_moment_behind_sync, ends_settled}
use Rattle.rp_disk.proofs.stops.any_moment_law.Goals as goal

pub returns-clause-settled : goal.returns-clause-settled
returns-clause-settled c = any_moment

pub returns-clause-behind_sync : goal.returns-clause-behind_sync
returns-clause-behind_sync c = any_moment_behind_sync

pub returns-clause-end : goal.returns-clause-end
returns-clause-end c = ends_settled
