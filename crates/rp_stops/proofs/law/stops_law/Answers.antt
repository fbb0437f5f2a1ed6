use Rattle.rp_stops.proofs.Carried.{stops}
use Rattle.rp_stops.proofs.law.stops_law.Goals as goal

pub returns : goal.returns
returns c = stops
