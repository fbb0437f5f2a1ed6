-- The goal and the blocks of steps that are made: own rules.
use Rattle.std.specs.Prelude.{◌≡◌}
use Rattle.rp_base.specs.Table.{IsWritable, TableFits}
use Rattle.rp_base.specs.declared.plan.Plan.{Plan}
use Rattle.rp_copies.specs.Room.{HasRoom}
use Rattle.rp_pool.specs.Region.{bytes_of}
use Rattle.rp_region.specs.Region.{HoldsCopies, IsLeased, backup_run, primary_run}
use Rattle.rp_region.specs.declared.blocks.Blocks.{Blocks}
use Rattle.rp_stops.specs.Order.{target_sectors}

-- the goal can be written on its target
pub record CanWrite (plan : Plan) : Type 0 where
  pub room : HasRoom plan
  pub writable : IsWritable plan.goal
  pub fits : TableFits plan.goal

-- all blocks are lent, and they hold both copies of the goal
pub record IsStocked (plan : Plan) (blocks : Blocks) : Type 0 where
  pub leased : IsLeased blocks
  pub copies : HoldsCopies plan.goal (target_sectors plan) blocks.pool

-- all blocks are lent still, and the runs of both copies hold what they held
pub record KeepsCopies (old new : Blocks) : Type 0 where
  pub leased : IsLeased new
  pub primary : bytes_of new.pool primary_run ≡ bytes_of old.pool primary_run
  pub backup : bytes_of new.pool backup_run ≡ bytes_of old.pool backup_run
