use Rattle.rp_disk.proofs.Law.{law}
use Rattle.rp_disk.proofs.stops.stops_law.Goals as goal

pub returns : goal.returns
returns c = law
