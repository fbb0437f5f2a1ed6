use Rattle.rp_headline.proofs.Left.{are_calls_of, rows_filled}
use Rattle.rp_headline.proofs.law.calls_carry_out_goals.Goals as goal

pub returns-clause-calls : goal.returns-clause-calls
returns-clause-calls c sector old empty seen target defs facts seed plan sources is fit =
    are_calls_of sector old empty seen target defs facts seed plan is sources fit

pub returns-clause-contents : goal.returns-clause-contents
returns-clause-contents c sector old empty seen target defs facts seed plan sources is fit =
    rows_filled sector old empty seen target defs facts seed plan is sources fit
