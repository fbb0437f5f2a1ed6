use Rattle.rp_steps.proofs.Composed.{are_calls}
use Rattle.rp_steps.proofs.law.calls_are_of_the_plan.Goals as goal

pub returns : goal.returns
returns c = are_calls
