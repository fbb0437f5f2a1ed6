use Rattle.rp_reset_headline.proofs.Given.{calls_behind, plan_fits, planned_anew}
use Rattle.rp_reset_headline.proofs.law.what_is_left_is_planned_for.Goals as goal

pub returns-clause-fits : goal.returns-clause-fits
returns-clause-fits c sector old empty seen target defs facts seed reset plan is anew =
    plan_fits sector old empty seen defs reset is target facts seed plan anew

pub returns-clause-planned : goal.returns-clause-planned
returns-clause-planned c sector old empty seen target defs facts seed reset plan before is anew are =
    planned_anew sector old empty seen defs reset is target facts seed plan anew before are

pub returns-clause-calls : goal.returns-clause-calls
returns-clause-calls c sector old empty seen target defs facts seed reset plan sources is anew fit =
    calls_behind sector old empty seen defs reset is target facts seed plan anew sources fit
