use Rattle.rp_reset.proofs.Fitting.{plannable_after}
use Rattle.rp_reset.proofs.law.what_is_left_can_be_planned.Goals as goal

pub returns : goal.returns
returns c = plannable_after
