use Rattle.rp_make_promise.proofs.Summed.{tells_so}
use Rattle.rp_make_promise.proofs.law.make_tells_its_summary.Goals as goal

pub returns : goal.returns
returns c = tells_so
