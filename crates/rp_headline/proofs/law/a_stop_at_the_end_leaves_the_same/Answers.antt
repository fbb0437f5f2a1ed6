use Rattle.rp_headline.proofs.Left.{ends_any, ends_with}
use Rattle.rp_headline.proofs.law.a_stop_at_the_end_leaves_the_same.Goals as goal

pub returns-clause-exact : goal.returns-clause-exact
returns-clause-exact c sector bytes empty seen target defs facts seed plan sources was now ends is fit =
    ends_with sector bytes empty seen target defs facts seed plan was now is sources ends fit

pub returns-clause-any : goal.returns-clause-any
returns-clause-any c sector bytes empty seen target defs facts seed plan body calls was now ends is are =
    ends_any sector bytes empty seen target defs facts seed plan was now is body calls ends are
