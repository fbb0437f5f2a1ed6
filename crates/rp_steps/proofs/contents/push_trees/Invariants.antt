use Rattle.std.proofs.Common.{◌≡◌, ◌++◌}
use Rattle.rp_base.specs.Plan.{noted_of}
use Rattle.rp_steps.specs.Steps.{tree_steps}
use Rattle.rp_steps.proofs.News.{news_among}
use Rattle.rp_steps.proofs.contents.push_trees.Given as goal

abbrev pub invariant-loop-place : goal.invariant-loop-place
invariant-loop-place l =
    l.steps ≡ l.fn.steps ++ news_among (λ noted. tree_steps l.fn.plan.goal.rows noted.0 noted.1.role) (noted_of l.fn.plan) l.place
