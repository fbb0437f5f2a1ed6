use Rattle.rp_stops.proofs.Moments.{any_moment, behind_sync}
use Rattle.rp_stops.proofs.law.any_moment_is_safe.Goals as goal

pub returns-clause-settled : goal.returns-clause-settled
returns-clause-settled c = any_moment

pub returns-clause-behind_sync : goal.returns-clause-behind_sync
returns-clause-behind_sync c = behind_sync
