use Rattle.rp_plan_command.proofs.Statuses.{by_status}
use Rattle.rp_plan_command.proofs.law.plan_by_status.Goals as goal

pub returns : goal.returns
returns c = by_status
