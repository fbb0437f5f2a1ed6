use Rattle.rp_policy.specs.Reading.{policy_of}
use Rattle.rp_dissect_command.proofs.Statuses.{by_status}
use Rattle.rp_dissect_command.proofs.law.dissect_by_status.Goals as goal

pub returns : goal.returns
returns c = λ text arch sector json disk later out after status did. by_status arch sector json disk later out after status (policy_of text) did
