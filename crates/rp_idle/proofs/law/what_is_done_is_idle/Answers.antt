use Rattle.rp_idle.proofs.Idle.{idle_after, idle_final}
use Rattle.rp_idle.proofs.law.what_is_done_is_idle.Goals as goal

pub returns-clause-done : goal.returns-clause-done
returns-clause-done c sector old empty seen target defs facts seed plan body calls is whole are =
    idle_after sector old empty seen target defs facts seed plan is body calls whole are

pub returns-clause-final_image : goal.returns-clause-final_image
returns-clause-final_image c sector old empty seen target defs facts seed plan sources image is whole fit final =
    idle_final sector old empty seen target defs facts seed plan is sources image whole fit final
