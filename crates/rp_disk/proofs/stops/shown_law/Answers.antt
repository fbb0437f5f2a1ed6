use Rattle.rp_disk.proofs.Agreeing.{shown_left}
use Rattle.rp_disk.proofs.stops.shown_law.Goals as goal

pub returns : goal.returns
returns c = shown_left
