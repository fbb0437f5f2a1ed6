use Rattle.std.proofs.Common.{◌≡◌, ◌++◌}
use Rattle.rp_base.specs.Plan.{noted_of}
use Rattle.rp_steps.specs.Steps.{payload_steps}
use Rattle.rp_steps.proofs.News.{news_among}
use Rattle.rp_steps.proofs.contents.push_payloads.Given as goal

abbrev pub invariant-loop-place : goal.invariant-loop-place
invariant-loop-place l = l.steps ≡ l.fn.steps ++ news_among (λ noted. payload_steps noted noted.1.role) (noted_of l.fn.plan) l.place
