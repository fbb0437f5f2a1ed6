use Rattle.rp_disk.proofs.Law.{counts_now, counts_before_did, counts_before_failed}
use Rattle.rp_disk.proofs.stops.moments_law.Goals as goal

pub returns-clause-now : goal.returns-clause-now
returns-clause-now c = counts_now

pub returns-clause-did : goal.returns-clause-did
returns-clause-did c = counts_before_did

pub returns-clause-failed : goal.returns-clause-failed
returns-clause-failed c = counts_before_failed
