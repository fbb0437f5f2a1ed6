use Rattle.rp_make_promise.proofs.Leaving.{leaves_in, leaves_so, makes_first}
use Rattle.rp_make_promise.proofs.law.make_leaves_the_goal.Goals as goal

pub returns-clause-calls : goal.returns-clause-calls
returns-clause-calls c = makes_first

pub returns-clause-moments : goal.returns-clause-moments
returns-clause-moments c = leaves_in

pub returns-clause-done : goal.returns-clause-done
returns-clause-done c = leaves_so
