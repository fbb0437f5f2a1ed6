use Rattle.rp_areas.proofs.Woven.{areas_of_again}
use Rattle.rp_areas.proofs.law.placed_rows_stay.Goals as goal

pub returns : goal.returns
returns c table again last matched rematched wants before stacks is = areas_of_again table again last matched rematched wants before
    stacks is
