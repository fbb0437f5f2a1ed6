use Rattle.rp_reset_promise.proofs.Ended.{ends_so}
use Rattle.rp_reset_promise.proofs.law.apply_reset_ends.Goals as goal

pub returns : goal.returns
returns c = ends_so
