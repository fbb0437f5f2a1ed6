use Rattle.rp_roots.proofs.Known.{facts_are_on}
use Rattle.rp_roots.proofs.Planned.{goal_has_roots, goal_is_whole}
use Rattle.rp_roots.proofs.law.goals_have_their_roots.Goals as goal

pub returns-clause-known : goal.returns-clause-known
returns-clause-known c = facts_are_on

pub returns-clause-whole : goal.returns-clause-whole
returns-clause-whole c = goal_is_whole

pub returns-clause-roots : goal.returns-clause-roots
returns-clause-roots c = goal_has_roots
