use Rattle.rp_make_promise.proofs.Answered.{answers_so, reason_so}
use Rattle.rp_make_promise.proofs.law.make_is_complete.Goals as goal

pub returns-clause-reasons : goal.returns-clause-reasons
returns-clause-reasons c = reason_so

pub returns-clause-answers : goal.returns-clause-answers
returns-clause-answers c = answers_so
