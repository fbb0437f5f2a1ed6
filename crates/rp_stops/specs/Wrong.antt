-- Why the calls have their order: what a stop leaves of others: own rules.
use Rattle.std.specs.Prelude.{ℕ, ◌≢◌, List}
use Rattle.rp_base.specs.declared.table.Table.{Table}
use Rattle.rp_disk.specs.declared.call.Call.{Call}
use Rattle.rp_disk.specs.Stops.{Leaves}
use Rattle.rp_gpt.specs.Shown.{shown, shows}
use Rattle.rp_stops.specs.Honest.{IsTornHonest}

-- a stop in these calls may leave an image that shows no table, though it has no torn header that passes by chance
pub record LeavesNoTable (sector : ℕ) (start : List ℕ) (calls : List Call) : Type 0 where
  pub image : List ℕ
  pub left : Leaves start calls image
  pub honest : IsTornHonest sector start calls image
  pub none : (table : Table) → shown sector image ≢ shows table
