use Rattle.rp_outcome.specs.Store.{store}
use Rattle.rp_reset_command.proofs.Both.{both_carried, first_broken}
use Rattle.rp_reset_command.specs.Applies.{fault_refusal, outcome_of}
use Rattle.rp_reset_command.proofs.carrying.carry_out_both.Goals as goal

pub returns-in-Ok : goal.returns-in-Ok
returns-in-Ok g c = λ definitions renewal reset is_first is_second is can.
    both_carried c.args.first c.args.second (g.D.Disk.device c.args.disk.now)
    (g.D.Disk.device c.carry_out.new.disk)
    (store g.S.Sources.told g.S.Sources.faults g.S.Sources.strays c.args.sources.now)
    (store g.S.Sources.told g.S.Sources.faults g.S.Sources.strays c.carry_out.new.sources)
    definitions renewal reset is_first is_second is can
    (g.D.Disk.device c.carry_out-in-Ok.new.disk)
    (store g.S.Sources.told g.S.Sources.faults g.S.Sources.strays c.carry_out-in-Ok.new.sources)
    (outcome_of c.carry_out-in-Ok.result) c.in-Ok.ensures c.carry_out-in-Ok.ensures

pub returns-in-Err : goal.returns-in-Err
returns-in-Err g c = λ definitions renewal reset is_first is_second is can.
    first_broken c.args.first c.args.second (g.D.Disk.device c.args.disk.now)
    (g.D.Disk.device c.carry_out.new.disk)
    (store g.S.Sources.told g.S.Sources.faults g.S.Sources.strays c.args.sources.now)
    (store g.S.Sources.told g.S.Sources.faults g.S.Sources.strays c.carry_out.new.sources)
    definitions renewal reset is_first is_second is can (fault_refusal c.in-Err.fault) c.in-Err.ensures
