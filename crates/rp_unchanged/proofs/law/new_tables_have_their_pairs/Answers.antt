use Rattle.rp_unchanged.proofs.Paired.{goal_has_pairs}
use Rattle.rp_unchanged.proofs.law.new_tables_have_their_pairs.Goals as goal

pub returns : goal.returns
returns c = goal_has_pairs
