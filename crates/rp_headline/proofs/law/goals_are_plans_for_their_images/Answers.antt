use Rattle.rp_idle.proofs.Public.{plan_for}
use Rattle.rp_headline.proofs.law.goals_are_plans_for_their_images.Goals as goal

pub returns : goal.returns
returns c = plan_for
