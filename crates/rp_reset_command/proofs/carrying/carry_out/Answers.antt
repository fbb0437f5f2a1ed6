use Rattle.std.proofs.Common.{subst}
use Rattle.rp_outcome.specs.Store.{store}
use Rattle.rp_apply_command.proofs.Carried.{carries}
use Rattle.rp_apply_command.specs.Applies.{CarriesOut, Outcome}
use Rattle.rp_reset_command.proofs.Both.{done_is, fault_is}
use Rattle.rp_reset_command.proofs.carrying.carry_out.Goals as goal

pub returns-in-Ok : goal.returns-in-Ok
returns-in-Ok g c = λ definitions planned is long roots.
    let old = g.D.Disk.device c.args.disk.now in
    let new = g.D.Disk.device c.commit.new.disk in
    let from = store g.S.Sources.told g.S.Sources.faults g.S.Sources.strays c.args.sources.now in
    let to = store g.S.Sources.told g.S.Sources.faults g.S.Sources.strays c.commit.new.sources in
    let e = c.commit.ensures in
    let r = carries definitions planned old new from to c.args.ready is long roots c.commit.result
    e.earlier e.told e.made e.disk_cause e.source_cause e.disk_strays in
    subst (λ (a : Outcome). CarriesOut definitions planned old new from to a) (done_is c.commit.result c.in-Ok.field-0 c.in-Ok.is) r

pub returns-in-Err : goal.returns-in-Err
returns-in-Err g c = λ definitions planned is long roots.
    let old = g.D.Disk.device c.args.disk.now in
    let new = g.D.Disk.device c.commit.new.disk in
    let from = store g.S.Sources.told g.S.Sources.faults g.S.Sources.strays c.args.sources.now in
    let to = store g.S.Sources.told g.S.Sources.faults g.S.Sources.strays c.commit.new.sources in
    let e = c.commit.ensures in
    let r = carries definitions planned old new from to c.args.ready is long roots c.commit.result
    e.earlier e.told e.made e.disk_cause e.source_cause e.disk_strays in
    subst (λ (a : Outcome). CarriesOut definitions planned old new from to a) (fault_is c.commit.result c.in-Err.fault c.in-Err.is) r
