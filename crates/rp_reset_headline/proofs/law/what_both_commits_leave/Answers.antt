use Rattle.rp_reset_headline.proofs.Left.{done_anew, goal_anew}
use Rattle.rp_reset_headline.proofs.law.what_both_commits_leave.Goals as goal

pub returns-clause-any : goal.returns-clause-any
returns-clause-any c sector old empty seen target defs facts seed reset plan before body behind is anew are are_behind =
    goal_anew sector old empty seen target defs facts seed reset plan is anew before body behind are are_behind

pub returns-clause-exact : goal.returns-clause-exact
returns-clause-exact c sector old empty seen target defs facts seed reset plan sources is anew fit =
    done_anew sector old empty seen target defs facts seed reset plan is anew sources fit
