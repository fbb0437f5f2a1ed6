use Rattle.rp_lanes.proofs.LaneLemmas.{shifts}
use Rattle.rp_lanes.proofs.word.shift_right.Goals as goal

pub returns : goal.returns
returns c = shifts c.args.k c.args.x c.fits-x.0
