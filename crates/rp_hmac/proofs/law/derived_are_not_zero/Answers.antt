-- What is stamped isn't zero.
use Rattle.rp_hmac.proofs.Stamped.{derived-not_zero}
use Rattle.rp_hmac.proofs.law.derived_are_not_zero.Goals as goal

pub returns : goal.returns
returns c = derived-not_zero
