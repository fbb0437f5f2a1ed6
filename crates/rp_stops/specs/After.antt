-- What is seen of an image on which a plan was carried out: own rules.
use Rattle.std.specs.Prelude.{true}
use Rattle.rp_base.specs.declared.plan.Plan.{Plan}
use Rattle.rp_base.specs.declared.seen.Mbr.{Mbr}
use Rattle.rp_base.specs.declared.seen.Mbr.TheVariants as mbrs
use Rattle.rp_base.specs.declared.seen.Origin.TheVariants as origins
use Rattle.rp_base.specs.declared.seen.Seen.{Seen}

-- the MBR of another table stays, and any other is that of the image's size
abbrev pub mbr_after : Mbr → Mbr
mbr_after mbrs.Foreign = mbrs.Foreign
mbr_after other = mbrs.Same

-- the goal, by its primary, with both copies the same, on the target's length
abbrev pub seen_after : Seen → Plan → Seen
seen_after seen plan = record {
  sectors = plan.target;
  shown = plan.goal;
  origin = origins.Primary;
  primary_same = true;
  backup_same = true;
  mbr = mbr_after seen.mbr;
}
