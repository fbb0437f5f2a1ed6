use Rattle.rp_pool.proofs.Free.{fit_none, fit_some}
use Rattle.rp_pool.proofs.law.the_first_that_fits_is_lent.Goals as goal

pub returns-clause-some : goal.returns-clause-some
returns-clause-some c out blocks run is = fit_some out blocks run is

pub returns-clause-none : goal.returns-clause-none
returns-clause-none c out blocks some is first = fit_none out blocks some is first
