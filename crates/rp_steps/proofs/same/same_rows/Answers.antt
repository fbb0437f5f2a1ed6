use Rattle.rp_steps.specs.Same.{same_row}
use Rattle.rp_steps.proofs.same.same_rows.Goals as goal

pub returns : goal.returns
unfolding same_row
returns c = c.eq.ensures
