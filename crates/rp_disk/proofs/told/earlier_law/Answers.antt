use Rattle.rp_disk.proofs.Noting.{can_before, earlier_then}
use Rattle.rp_disk.proofs.told.earlier_law.Goals as goal

pub returns-clause-then : goal.returns-clause-then
returns-clause-then c = λ before mid now. earlier_then {before = before} {mid = mid} {now = now}

pub returns-clause-can : goal.returns-clause-can
returns-clause-can c = λ past before now. can_before {past = past} {before = before} {now = now}
