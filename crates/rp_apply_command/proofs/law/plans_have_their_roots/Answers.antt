use Rattle.rp_apply_command.proofs.Hashed.{planned_roots}
use Rattle.rp_apply_command.proofs.law.plans_have_their_roots.Goals as goal

pub returns : goal.returns
returns c = planned_roots
