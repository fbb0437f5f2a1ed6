use Rattle.std.proofs.Common.{inl, refl}
use Rattle.rp_outcome.specs.Store.{store}
use Rattle.rp_apply_command.proofs.Allowed.{seen_length}
use Rattle.rp_check_command.specs.Checks.{check_request}
use Rattle.rp_types.specs.declared.arch.Arch.TheVariants.{X86_64}
use Rattle.rp_make_command.proofs.Carried.{seen_of_plan}
use Rattle.rp_make_command.proofs.checking.check_made.Goals as goal

pub compare_made-requires-clause-seen : goal.compare_made-requires-clause-seen
compare_made-requires-clause-seen g c =
    seen_of_plan (check_request c.args.seed X86_64 512) c.args.definitions.now.list
    (g.D.Disk.device c.args.disk.now)
    (g.D.Disk.device c.plan_image.new.disk)
    (store g.S.Sources.told g.S.Sources.faults g.S.Sources.strays c.args.sources.now)
    (store g.S.Sources.told g.S.Sources.faults g.S.Sources.strays c.plan_image.new.sources) c.in-Ok.planned
    (rw (c.check_request.ensures, c.as_slice-list.ensures) at c.in-Ok.ensures.plans)

pub compare_made-requires-clause-len : goal.compare_made-requires-clause-len
compare_made-requires-clause-len g c =
    seen_length (check_request c.args.seed X86_64 512) c.args.definitions.now.list
    (g.D.Disk.device c.args.disk.now)
    (g.D.Disk.device c.plan_image.new.disk)
    (store g.S.Sources.told g.S.Sources.faults g.S.Sources.strays c.args.sources.now)
    (store g.S.Sources.told g.S.Sources.faults g.S.Sources.strays c.plan_image.new.sources) c.in-Ok.planned (inl refl)
    (rw (c.check_request.ensures, c.as_slice-list.ensures) at c.in-Ok.ensures.plans)
