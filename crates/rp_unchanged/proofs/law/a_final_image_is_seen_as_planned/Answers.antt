use Rattle.rp_unchanged.proofs.Again.{final_as_planned, seen_as_planned}
use Rattle.rp_unchanged.proofs.law.a_final_image_is_seen_as_planned.Goals as goal

pub returns-clause-shown : goal.returns-clause-shown
returns-clause-shown c sector old empty seen target defs facts seed plan image is whole shows =
    seen_as_planned sector old empty seen target defs facts seed plan is image whole shows

pub returns-clause-final_image : goal.returns-clause-final_image
returns-clause-final_image c sector old empty seen target defs facts seed plan sources image is whole fit final =
    final_as_planned sector old empty seen target defs facts seed plan is sources image whole fit final
