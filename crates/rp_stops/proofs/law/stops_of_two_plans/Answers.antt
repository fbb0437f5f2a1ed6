use Rattle.rp_stops.proofs.Moments.{two_plans}
use Rattle.rp_stops.proofs.law.stops_of_two_plans.Goals as goal

pub returns : goal.returns
returns c = two_plans
