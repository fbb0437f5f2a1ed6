use Rattle.rp_reset_headline.proofs.Left.{part_honest, part_whole}
use Rattle.rp_reset_headline.proofs.law.a_part_of_both_is_safe.Goals as goal

pub returns-clause-honest : goal.returns-clause-honest
returns-clause-honest c sector old empty seen target defs facts seed reset plan sources made image is anew fit front left =
    part_honest sector old empty seen target defs facts seed reset plan is anew sources fit made image front left

pub returns-clause-whole : goal.returns-clause-whole
returns-clause-whole c sector old empty seen target defs facts seed reset plan sources made image is anew fit front left =
    part_whole sector old empty seen target defs facts seed reset plan is anew sources fit made image front left
