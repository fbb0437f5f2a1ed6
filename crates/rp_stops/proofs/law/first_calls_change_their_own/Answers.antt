use Rattle.rp_stops.proofs.Carried.{plan-given}
use Rattle.rp_stops.proofs.Fronts.{own_ranges}
use Rattle.rp_stops.proofs.law.first_calls_change_their_own.Goals as goal

pub returns : goal.returns
returns c sector old empty seen plan body calls made is are front = own_ranges old seen plan (plan-given sector old empty seen plan is) body calls are made front
