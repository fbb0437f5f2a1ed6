use Rattle.rp_disk.proofs.Opened.{law_behind_sync}
use Rattle.rp_disk.proofs.stops.opening_law.Goals as goal

pub returns : goal.returns
returns c = law_behind_sync
