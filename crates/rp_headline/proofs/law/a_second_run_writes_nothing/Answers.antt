use Rattle.rp_idle.proofs.Public.{idle_after}
use Rattle.rp_headline.proofs.Left.{idle_then}
use Rattle.rp_headline.proofs.law.a_second_run_writes_nothing.Goals as goal

pub returns-clause-idle : goal.returns-clause-idle
returns-clause-idle c sector old empty seen target defs facts seed plan body calls is whole are =
    idle_after sector old empty seen target defs facts seed plan is body calls whole are

pub returns-clause-nothing : goal.returns-clause-nothing
returns-clause-nothing c sector old empty then seen next target defs facts others seed plan second body made
    sources is whole are takes known is_second =
    idle_then sector old empty seen target defs facts seed plan is body made then next others second sources whole are takes
    known is_second
