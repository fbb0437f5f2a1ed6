use Rattle.rp_idle.proofs.Idle.{each_matched, goal_stays}
use Rattle.rp_idle.proofs.law.the_goal_again_is_the_goal.Goals as goal

pub returns-clause-matched : goal.returns-clause-matched
returns-clause-matched c seen target defs facts seed plan plannable aim wf is whole = each_matched seen target defs facts seed plan
    plannable aim wf is whole

pub returns-clause-same : goal.returns-clause-same
returns-clause-same c seen target defs facts seed plan again others other plannable aim wf is whole shown =
    goal_stays seen target defs facts seed plan plannable aim wf is whole again others other shown
