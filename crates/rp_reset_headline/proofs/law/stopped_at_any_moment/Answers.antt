use Rattle.rp_reset_headline.proofs.Moments.{left_any, left_any_whole, left_honest, left_whole}
use Rattle.rp_reset_headline.proofs.law.stopped_at_any_moment.Goals as goal

pub returns-clause-honest : goal.returns-clause-honest
returns-clause-honest c sector bytes empty seen target defs facts seed reset plan sources was now any is anew fit =
    left_honest sector bytes empty seen target defs facts seed reset plan was now is anew sources any fit

pub returns-clause-whole : goal.returns-clause-whole
returns-clause-whole c sector bytes empty seen target defs facts seed reset plan sources was now any is anew fit =
    left_whole sector bytes empty seen target defs facts seed reset plan was now is anew sources any fit

pub returns-clause-any : goal.returns-clause-any
returns-clause-any c sector bytes empty seen target defs facts seed reset plan before body behind was now any is anew are are_behind =
    left_any sector bytes empty seen target defs facts seed reset plan was now is anew before body behind any are are_behind

pub returns-clause-any_whole : goal.returns-clause-any_whole
returns-clause-any_whole c sector bytes empty seen target defs facts seed reset plan before body behind was now any is anew are are_behind =
    left_any_whole sector bytes empty seen target defs facts seed reset plan was now is anew before body behind any are are_behind
