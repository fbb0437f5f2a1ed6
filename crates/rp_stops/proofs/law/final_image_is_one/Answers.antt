use Rattle.rp_stops.proofs.OneFinal.{one_final}
use Rattle.rp_stops.proofs.law.final_image_is_one.Goals as goal

pub returns : goal.returns
returns c = one_final
