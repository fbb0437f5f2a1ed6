use Rattle.rp_steps.proofs.Called.{writes-calls}
use Rattle.rp_steps.proofs.law.writes_are_those_of_the_calls.Goals as goal

pub returns : goal.returns
returns c seen plan sources formed = writes-calls plan sources seen formed
