use Rattle.rp_pool.proofs.Free.{out_apart}
use Rattle.rp_pool.proofs.Public.{out_within}
use Rattle.rp_pool.proofs.law.no_block_is_lent_twice.Goals as goal

pub returns-clause-within : goal.returns-clause-within
returns-clause-within c region run is out = out_within region run is out

pub returns-clause-apart : goal.returns-clause-apart
returns-clause-apart c region a b is a_out b_out before = out_apart region a b is.disjoint a_out b_out before
