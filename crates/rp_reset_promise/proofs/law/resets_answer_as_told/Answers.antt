use Rattle.rp_reset_promise.proofs.Told.{apply_answers, plan_answers}
use Rattle.rp_reset_promise.proofs.law.resets_answer_as_told.Goals as goal

pub returns-clause-plan : goal.returns-clause-plan
returns-clause-plan c = plan_answers

pub returns-clause-apply : goal.returns-clause-apply
returns-clause-apply c = apply_answers
