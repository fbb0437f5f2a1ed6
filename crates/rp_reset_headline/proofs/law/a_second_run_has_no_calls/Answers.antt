use Rattle.rp_reset_headline.proofs.Left.{done_nothing_left}
use Rattle.rp_reset_headline.proofs.Moments.{ends_nothing_left}
use Rattle.rp_reset_headline.proofs.law.a_second_run_has_no_calls.Goals as goal

pub returns-clause-done : goal.returns-clause-done
returns-clause-done c sector old empty seen target defs facts seed reset plan before body behind is anew are are_behind none =
    done_nothing_left sector old empty seen target defs facts seed reset plan is anew before body behind are are_behind none

pub returns-clause-left : goal.returns-clause-left
returns-clause-left c sector bytes empty seen target defs facts seed reset plan before body behind was now ends is anew are
    are_behind none =
    ends_nothing_left sector bytes empty seen target defs facts seed reset plan was now is anew before body behind ends are are_behind none
