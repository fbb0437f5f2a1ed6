use Rattle.std.proofs.Common.{Err, refl}
use Rattle.rp_outcome.specs.Store.{store}
use Rattle.rp_planned.specs.Planning.{unplanned_refusal}
use Rattle.rp_reset_command.proofs.Able.{can_renew}
use Rattle.rp_reset_command.proofs.apply.apply_opened.Goals as goal

pub apply_planned-requires-clause-can : goal.apply_planned-requires-clause-can
apply_planned-requires-clause-can g c =
    can_renew c.args.request c.args.definitions.now.list
    (g.D.Disk.device c.args.disk.now)
    (g.D.Disk.device c.plan_renewal.new.disk)
    (store g.S.Sources.told g.S.Sources.faults g.S.Sources.strays c.args.sources.now)
    (store g.S.Sources.told g.S.Sources.faults g.S.Sources.strays c.plan_renewal.new.sources)
    c.in-Ok.renewal c.requires.sector c.requires.whole c.requires.most c.requires.list
    (rw c.as_slice-list.ensures at c.in-Ok.ensures.renews) c.in-Ok.ensures.formed

pub returns-in-Err : goal.returns-in-Err
returns-in-Err g c = (
  g.D.Disk.device c.plan_renewal.new.disk,
  store g.S.Sources.told g.S.Sources.faults g.S.Sources.strays c.plan_renewal.new.sources,
  Err (unplanned_refusal c.args.definitions.now.list c.in-Err.cause),
  rw c.as_slice-list.ensures at c.in-Err.ensures.renews,
  tt,
  (refl, refl, rw (c.unplanned_refusal.ensures, c.as_slice-list.ensures) at c.refuse.ensures),
)
