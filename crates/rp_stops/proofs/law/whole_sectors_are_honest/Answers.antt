use Rattle.rp_stops.proofs.Whole.{whole_sectors-honest}
use Rattle.rp_stops.proofs.law.whole_sectors_are_honest.Goals as goal

pub returns : goal.returns
returns c = whole_sectors-honest
