use Rattle.rp_share.proofs.AgainLemmas.{again_of_row, again_of_new, again_of_exact}
use Rattle.rp_share.proofs.law.what_is_asked_again.Goals as goal

pub returns-clause-grown : goal.returns-clause-grown
returns-clause-grown c = again_of_row

pub returns-clause-new : goal.returns-clause-new
returns-clause-new c = again_of_new

pub returns-clause-exact : goal.returns-clause-exact
returns-clause-exact c = again_of_exact
