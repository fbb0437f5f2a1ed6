use Rattle.rp_twice.proofs.Twice.{leaves_nothing}
use Rattle.rp_twice.proofs.law.a_second_run_makes_no_call.Goals as goal

pub returns : goal.returns
returns c = leaves_nothing
