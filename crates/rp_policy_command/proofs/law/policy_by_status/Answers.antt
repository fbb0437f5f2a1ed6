use Rattle.rp_policy.specs.Reading.{policy_of}
use Rattle.rp_policy_command.proofs.Statuses.{by_policy}
use Rattle.rp_policy_command.proofs.law.policy_by_status.Goals as goal

pub returns : goal.returns
returns c = λ text out after status told. by_policy out after status (policy_of text) told
