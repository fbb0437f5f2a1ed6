use Rattle.rp_reset_promise.proofs.Causes.{apply_reset_causes, plan_reset_causes}
use Rattle.rp_reset_promise.proofs.law.resets_have_causes.Goals as goal

pub returns-clause-plan : goal.returns-clause-plan
returns-clause-plan c request json dirs folders read disk later sources drained out after status =
    plan_reset_causes folders read disk later sources drained out after status request json dirs

pub returns-clause-apply : goal.returns-clause-apply
returns-clause-apply c request json dirs folders read disk later sources drained out after status =
    apply_reset_causes folders read disk later sources drained out after status request json dirs
