use Rattle.rp_stops.proofs.Carried.{alone}
use Rattle.rp_stops.proofs.law.alone_law.Goals as goal

pub returns : goal.returns
returns c = alone
