-- What a goal needs to be written as two copies: own rules.
use Rattle.std.specs.Prelude.{◌≤◌, ◌^◌}
use Rattle.rp_base.specs.Geometry.{IsSector, least_sectors}
use Rattle.rp_base.specs.declared.plan.Plan.{Plan}
use Rattle.rp_stops.specs.Order.{target_sectors}

-- the target has room for two copies of the goal, and at most 2^44 bytes
pub record HasRoom (plan : Plan) : Type 0 where
  pub sector : IsSector plan.goal.sector
  pub room : least_sectors plan.goal.sector plan.goal.entries ≤ target_sectors plan
  pub most : plan.target ≤ 2 ^ 35
