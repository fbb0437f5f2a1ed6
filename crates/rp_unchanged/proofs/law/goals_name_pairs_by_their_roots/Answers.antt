use Rattle.rp_unchanged.proofs.Halves.{goal_has_root_ids}
use Rattle.rp_unchanged.proofs.law.goals_name_pairs_by_their_roots.Goals as goal

pub returns : goal.returns
returns c = goal_has_root_ids
