use Rattle.rp_reset_headline.proofs.Moments.{ends_any, ends_exact}
use Rattle.rp_reset_headline.proofs.law.a_stop_at_the_end_leaves_the_same.Goals as goal

pub returns-clause-exact : goal.returns-clause-exact
returns-clause-exact c sector bytes empty seen target defs facts seed reset plan sources was now ends is anew fit =
    ends_exact sector bytes empty seen target defs facts seed reset plan was now is anew sources ends fit

pub returns-clause-any : goal.returns-clause-any
returns-clause-any c sector bytes empty seen target defs facts seed reset plan before body behind was now ends is anew are are_behind =
    ends_any sector bytes empty seen target defs facts seed reset plan was now is anew before body behind ends are are_behind
