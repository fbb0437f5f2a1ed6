use Rattle.rp_check_command.proofs.Found.{len_of_plan, seen_of_plan}
use Rattle.rp_outcome.specs.Store.{store}
use Rattle.rp_check_command.proofs.command.check_read.Goals as goal

pub check_planned-requires-clause-seen : goal.check_planned-requires-clause-seen
check_planned-requires-clause-seen g c =
    seen_of_plan c.args.request _ (g.D.Disk.device c.args.disk.now)
    (g.D.Disk.device c.plan_image.new.disk)
    (store g.S.Sources.told g.S.Sources.faults g.S.Sources.strays c.args.sources.now)
    (store g.S.Sources.told g.S.Sources.faults g.S.Sources.strays c.plan_image.new.sources) c.in-Ok.planned c.in-Ok.ensures.plans

pub check_planned-requires-clause-len : goal.check_planned-requires-clause-len
check_planned-requires-clause-len g c =
    len_of_plan c.args.request _ (g.D.Disk.device c.args.disk.now)
    (g.D.Disk.device c.plan_image.new.disk)
    (store g.S.Sources.told g.S.Sources.faults g.S.Sources.strays c.args.sources.now)
    (store g.S.Sources.told g.S.Sources.faults g.S.Sources.strays c.plan_image.new.sources) c.in-Ok.planned c.requires.sector c.in-Ok.ensures.plans
