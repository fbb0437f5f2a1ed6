use Rattle.rp_plan.proofs.Limited.{goal_limited}
use Rattle.rp_plan.proofs.law.goals_obey_limits.Goals as goal

pub returns : goal.returns
returns c seen target defs facts seed plan plannable aim wf are is = goal_limited seen target defs facts seed plan plannable aim wf are is
