use Rattle.rp_apply_command.proofs.Ended.{ends_so}
use Rattle.rp_apply_command.proofs.law.apply_ends.Goals as goal

pub returns : goal.returns
returns c = ends_so
