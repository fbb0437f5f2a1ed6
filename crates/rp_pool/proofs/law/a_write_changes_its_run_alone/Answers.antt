use Rattle.rp_pool.proofs.Public.{written_other, written_own}
use Rattle.rp_pool.proofs.law.a_write_changes_its_run_alone.Goals as goal

pub returns-clause-own : goal.returns-clause-own
returns-clause-own c region run bytes is out size = written_own region run bytes is out size

pub returns-clause-others : goal.returns-clause-others
returns-clause-others c region run other bytes is run_out other_out ne size = written_other region run other bytes is run_out other_out ne size
