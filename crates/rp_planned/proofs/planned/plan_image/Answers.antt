use Rattle.std.proofs.Common.{Ok, Err, refl}
use Rattle.rp_outcome.specs.Refusals.{table_refusal}
use Rattle.rp_planned.proofs.planned.plan_image.Goals as goal

-- the image was seen
pub returns-in-Ok-clause-plans : goal.returns-in-Ok-clause-plans
returns-in-Ok-clause-plans g c = (Ok c.in-Ok.seen, c.in-Ok.ensures, c.plan_seen.ensures.plans)

-- it was refused, and nothing was asked of the sources
pub returns-in-Err-clause-plans : goal.returns-in-Err-clause-plans
returns-in-Err-clause-plans g c = (Err (table_refusal c.in-Err.fault), c.in-Err.ensures, (refl, refl))
