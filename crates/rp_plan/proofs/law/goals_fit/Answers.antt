use Rattle.rp_plan.proofs.Fitting.{goal_fits}
use Rattle.rp_plan.proofs.law.goals_fit.Goals as goal

pub returns : goal.returns
returns c seen target defs facts seed plan plannable aim wf are grows is = goal_fits seen target defs facts seed plan plannable aim wf are grows is
