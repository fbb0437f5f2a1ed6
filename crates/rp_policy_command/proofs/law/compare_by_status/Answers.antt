use Rattle.rp_policy.specs.Reading.{policy_of}
use Rattle.rp_policy_command.proofs.Statuses.{by_compare}
use Rattle.rp_policy_command.proofs.law.compare_by_status.Goals as goal

pub returns : goal.returns
returns c = λ text against out after status told. by_compare out after status (policy_of text) (policy_of against) told
