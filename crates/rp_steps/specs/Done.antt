-- A plan that has nothing to change: own rules.
use Rattle.std.specs.Prelude.{◌≡◌, ◌≢◌, IsTrue}
use Rattle.rp_base.specs.declared.plan.Plan.{Plan}
use Rattle.rp_base.specs.declared.seen.Mbr.TheVariants.{Differs}
use Rattle.rp_base.specs.declared.seen.Origin.TheVariants.{Neither}
use Rattle.rp_base.specs.declared.seen.Seen.{Seen}

-- the goal is what a copy of the image shows, at the length that is there, over exact copies and a right MBR, or one of another
-- table
pub record IsDone (seen : Seen) (plan : Plan) : Type 0 where
  pub goal : plan.goal ≡ seen.shown
  pub target : plan.target ≡ seen.sectors
  pub origin : seen.origin ≢ Neither
  pub primary : IsTrue seen.primary_same
  pub backup : IsTrue seen.backup_same
  pub mbr : seen.mbr ≢ Differs
