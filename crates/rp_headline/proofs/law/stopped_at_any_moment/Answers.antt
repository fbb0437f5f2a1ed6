use Rattle.rp_headline.proofs.Left.{is_left, is_left_any, is_left_whole}
use Rattle.rp_headline.proofs.law.stopped_at_any_moment.Goals as goal

pub returns-clause-honest : goal.returns-clause-honest
returns-clause-honest c sector bytes empty seen target defs facts seed plan sources was now any is fit =
    is_left sector bytes empty seen target defs facts seed plan was now is sources any fit

pub returns-clause-whole : goal.returns-clause-whole
returns-clause-whole c sector bytes empty seen target defs facts seed plan sources was now any is fit =
    is_left_whole sector bytes empty seen target defs facts seed plan was now is sources any fit

pub returns-clause-any : goal.returns-clause-any
returns-clause-any c sector bytes empty seen target defs facts seed plan body calls was now any is are =
    is_left_any sector bytes empty seen target defs facts seed plan was now is body calls any are
