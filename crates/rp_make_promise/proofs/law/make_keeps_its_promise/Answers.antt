use Rattle.rp_make_promise.proofs.Promised.{promise_so}
use Rattle.rp_make_promise.proofs.law.make_keeps_its_promise.Goals as goal

pub returns : goal.returns
returns c = promise_so
