use Rattle.rp_place.proofs.Settled.{few_settled, kept_settled, placed_settled, refused_settled}
use Rattle.rp_place.proofs.law.no_greater_threshold_succeeds.Goals as goal

pub returns-clause-kept : goal.returns-clause-kept
returns-clause-kept c areas news free p is = kept_settled areas news free p is

pub returns-clause-placed : goal.returns-clause-placed
returns-clause-placed c areas news free p is = placed_settled areas news free p is

pub returns-clause-few : goal.returns-clause-few
returns-clause-few c areas news free p is = few_settled areas news free p is

pub returns-clause-refused : goal.returns-clause-refused
returns-clause-refused c areas news free fault is = refused_settled areas news free fault is
