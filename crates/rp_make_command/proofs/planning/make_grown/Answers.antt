use Rattle.std.proofs.Common.{inl, refl, arith}
use Rattle.rp_outcome.specs.Store.{store}
use Rattle.rp_apply_command.proofs.Allowed.{can_prepare, seen_length}
use Rattle.rp_apply_command.proofs.Hashed.{told_roots}
use Rattle.rp_make_command.specs.Makes.{make_request}
use Rattle.rp_make_command.proofs.planning.make_grown.Goals as goal

pub make_planned-requires-clause-can : goal.make_planned-requires-clause-can
make_planned-requires-clause-can g c =
    can_prepare (make_request c.args.seed) c.args.definitions.now.list
    (g.D.Disk.device c.args.disk.now)
    (g.D.Disk.device c.plan_image.new.disk)
    (store g.S.Sources.told g.S.Sources.faults g.S.Sources.strays c.args.sources.now)
    (store g.S.Sources.told g.S.Sources.faults g.S.Sources.strays c.plan_image.new.sources)
    c.in-Ok.planned (inl refl) (rw (c.make_request.ensures, c.as_slice-list.ensures) at c.in-Ok.ensures.plans) c.in-Ok.ensures.well_formed

pub make_planned-requires-clause-len : goal.make_planned-requires-clause-len
make_planned-requires-clause-len g c =
    seen_length (make_request c.args.seed) c.args.definitions.now.list
    (g.D.Disk.device c.args.disk.now)
    (g.D.Disk.device c.plan_image.new.disk)
    (store g.S.Sources.told g.S.Sources.faults g.S.Sources.strays c.args.sources.now)
    (store g.S.Sources.told g.S.Sources.faults g.S.Sources.strays c.plan_image.new.sources)
    c.in-Ok.planned (inl refl) (rw (c.make_request.ensures, c.as_slice-list.ensures) at c.in-Ok.ensures.plans)

pub make_planned-requires-clause-roots : goal.make_planned-requires-clause-roots
make_planned-requires-clause-roots g c =
    told_roots (make_request c.args.seed) c.args.definitions.now.list
    (g.D.Disk.device c.args.disk.now)
    (g.D.Disk.device c.plan_image.new.disk)
    (store g.S.Sources.told g.S.Sources.faults g.S.Sources.strays c.args.sources.now)
    (store g.S.Sources.told g.S.Sources.faults g.S.Sources.strays c.plan_image.new.sources)
    c.in-Ok.planned (inl refl) refl (omega arith) c.requires.list (rw (c.make_request.ensures, c.as_slice-list.ensures) at c.in-Ok.ensures.plans)
