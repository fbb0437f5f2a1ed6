use Rattle.rp_headline.proofs.Shown.{shows_goal}
use Rattle.rp_headline.proofs.law.the_table_is_the_goal.Goals as goal

pub returns : goal.returns
returns c sector old empty seen target defs facts seed plan body calls is are =
    shows_goal sector old empty seen target defs facts seed plan is body calls are
