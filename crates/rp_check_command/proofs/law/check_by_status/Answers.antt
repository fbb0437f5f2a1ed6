use Rattle.rp_check_command.proofs.Statuses.{by_status}
use Rattle.rp_check_command.proofs.law.check_by_status.Goals as goal

pub returns : goal.returns
returns c = by_status
