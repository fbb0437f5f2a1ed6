use Rattle.std.proofs.Common.{Err, refl}
use Rattle.rp_outcome.specs.Store.{store}
use Rattle.rp_planned.specs.Planning.{unplanned_refusal}
use Rattle.rp_apply_command.proofs.Allowed.{can_prepare, seen_length}
use Rattle.rp_apply_command.proofs.Hashed.{told_roots}
use Rattle.rp_apply_command.proofs.command.apply_opened.Goals as goal

pub apply_planned-requires-clause-can : goal.apply_planned-requires-clause-can
apply_planned-requires-clause-can g c =
    can_prepare c.args.request c.args.definitions.now.list
    (g.D.Disk.device c.args.disk.now)
    (g.D.Disk.device c.plan_image.new.disk)
    (store g.S.Sources.told g.S.Sources.faults g.S.Sources.strays c.args.sources.now)
    (store g.S.Sources.told g.S.Sources.faults g.S.Sources.strays c.plan_image.new.sources)
    c.in-Ok.planned c.requires.sector (rw c.as_slice-list.ensures at c.in-Ok.ensures.plans) c.in-Ok.ensures.well_formed

pub apply_planned-requires-clause-len : goal.apply_planned-requires-clause-len
apply_planned-requires-clause-len g c =
    seen_length c.args.request c.args.definitions.now.list
    (g.D.Disk.device c.args.disk.now)
    (g.D.Disk.device c.plan_image.new.disk)
    (store g.S.Sources.told g.S.Sources.faults g.S.Sources.strays c.args.sources.now)
    (store g.S.Sources.told g.S.Sources.faults g.S.Sources.strays c.plan_image.new.sources)
    c.in-Ok.planned c.requires.sector (rw c.as_slice-list.ensures at c.in-Ok.ensures.plans)

pub apply_planned-requires-clause-roots : goal.apply_planned-requires-clause-roots
apply_planned-requires-clause-roots g c =
    told_roots c.args.request c.args.definitions.now.list
    (g.D.Disk.device c.args.disk.now)
    (g.D.Disk.device c.plan_image.new.disk)
    (store g.S.Sources.told g.S.Sources.faults g.S.Sources.strays c.args.sources.now)
    (store g.S.Sources.told g.S.Sources.faults g.S.Sources.strays c.plan_image.new.sources)
    c.in-Ok.planned c.requires.sector c.requires.whole c.requires.most c.requires.list (rw c.as_slice-list.ensures at c.in-Ok.ensures.plans)

pub returns-in-Err : goal.returns-in-Err
returns-in-Err g c = (
  g.D.Disk.device c.plan_image.new.disk,
  store g.S.Sources.told g.S.Sources.faults g.S.Sources.strays c.plan_image.new.sources,
  Err (unplanned_refusal c.args.definitions.now.list c.in-Err.cause),
  rw c.as_slice-list.ensures at c.in-Err.ensures.plans,
  tt,
  (refl, refl, rw (c.unplanned_refusal.ensures, c.as_slice-list.ensures) at c.refuse.ensures),
)
