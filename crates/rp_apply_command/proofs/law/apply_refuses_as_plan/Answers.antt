use Rattle.rp_apply_command.proofs.Told.{refuses_so}
use Rattle.rp_apply_command.proofs.law.apply_refuses_as_plan.Goals as goal

pub returns : goal.returns
returns c = refuses_so
