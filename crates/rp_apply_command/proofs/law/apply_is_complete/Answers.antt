use Rattle.rp_apply_command.proofs.Complete.{answers_told, has_reason}
use Rattle.rp_apply_command.proofs.law.apply_is_complete.Goals as goal

pub returns-clause-reasons : goal.returns-clause-reasons
returns-clause-reasons c = has_reason

pub returns-clause-answers : goal.returns-clause-answers
returns-clause-answers c = answers_told
