use Rattle.rp_plan.proofs.Whole.{goal_well_formed}
use Rattle.rp_plan.proofs.law.goals_are_well_formed.Goals as goal

pub returns : goal.returns
returns c seen target defs facts seed plan plannable aim wf are is = goal_well_formed seen target defs facts seed plan plannable aim wf are is
