use Rattle.rp_headline.proofs.Left.{done_with, has_goal}
use Rattle.rp_headline.proofs.law.what_a_run_leaves.Goals as goal

pub returns-clause-any : goal.returns-clause-any
returns-clause-any c sector old empty seen target defs facts seed plan body calls is are =
    has_goal sector old empty seen target defs facts seed plan is body calls are

pub returns-clause-exact : goal.returns-clause-exact
returns-clause-exact c sector old empty seen target defs facts seed plan sources is fit =
    done_with sector old empty seen target defs facts seed plan is sources fit
