use Rattle.rp_place.proofs.Minima.{nothing_new}
use Rattle.rp_place.proofs.law.nothing_new_is_settled.Goals as goal

pub returns : goal.returns
returns c areas free = nothing_new areas free
