use Rattle.std.proofs.Common.{◌≡◌, List, Ok, Err, refl, sym, ap, subst, ℕ}
use Rattle.rp_outcome.specs.Output.{Finishes, output}
use Rattle.rp_outcome.specs.Store.{store}
use Rattle.rp_apply_command.specs.Applies.{CarriesOut, Outcome}
use Rattle.rp_apply_command.proofs.Carried.{carries, told_as, told_done}
use Rattle.rp_apply_command.proofs.command.carried_out.Goals as goal

pub returns-in-Ok : goal.returns-in-Ok
returns-in-Ok g c = λ json definitions planned is text long roots.
    let old = g.D.Disk.device c.args.disk.now in
    let new = g.D.Disk.device c.commit.new.disk in
    let from = store g.S.Sources.told g.S.Sources.faults g.S.Sources.strays c.args.sources.now in
    let to = store g.S.Sources.told g.S.Sources.faults g.S.Sources.strays c.commit.new.sources in
    let e = c.commit.ensures in
    let r = carries definitions planned old new from to c.args.ready is long roots c.commit.result
    e.earlier e.told e.made e.disk_cause e.source_cause e.disk_strays in (
      Ok tt,
      subst (λ (a : Outcome). CarriesOut definitions planned old new from to a) (told_done c.commit.result c.in-Ok.field-0 c.in-Ok.is) r,
      subst (λ (t : List ℕ). Finishes (output g.K.Sink.told g.K.Sink.faults c.args.out.now) (output g.K.Sink.told g.K.Sink.faults c.finish.new.out)
          t c.finish.result) text c.finish.ensures,
    )

pub returns-in-Err-DiskFault : goal.returns-in-Err-DiskFault
returns-in-Err-DiskFault g c = λ json definitions planned is text long roots.
    let old = g.D.Disk.device c.args.disk.now in
    let new = g.D.Disk.device c.commit.new.disk in
    let from = store g.S.Sources.told g.S.Sources.faults g.S.Sources.strays c.args.sources.now in
    let to = store g.S.Sources.told g.S.Sources.faults g.S.Sources.strays c.commit.new.sources in
    let e = c.commit.ensures in
    let r = carries definitions planned old new from to c.args.ready is long roots c.commit.result
    e.earlier e.told e.made e.disk_cause e.source_cause e.disk_strays in (
      Err c.disk.result,
      subst (λ (a : Outcome). CarriesOut definitions planned old new from to a)
          (told_as c.commit.result c.in-Err-DiskFault.field-0 _ c.disk.result c.in-Err-DiskFault.is c.in-Err-DiskFault.field-0-is (sym c.disk.ensures)) r,
      c.refuse.ensures,
    )

pub returns-in-Err-SourceFault : goal.returns-in-Err-SourceFault
returns-in-Err-SourceFault g c = λ json definitions planned is text long roots.
    let old = g.D.Disk.device c.args.disk.now in
    let new = g.D.Disk.device c.commit.new.disk in
    let from = store g.S.Sources.told g.S.Sources.faults g.S.Sources.strays c.args.sources.now in
    let to = store g.S.Sources.told g.S.Sources.faults g.S.Sources.strays c.commit.new.sources in
    let e = c.commit.ensures in
    let r = carries definitions planned old new from to c.args.ready is long roots c.commit.result
    e.earlier e.told e.made e.disk_cause e.source_cause e.disk_strays in (
      Err c.source.result,
      subst (λ (a : Outcome). CarriesOut definitions planned old new from to a)
          (told_as c.commit.result c.in-Err-SourceFault.field-0 _ c.source.result c.in-Err-SourceFault.is c.in-Err-SourceFault.field-0-is
          (sym c.source.ensures)) r,
      c.refuse-in-Err-SourceFault.ensures,
    )

pub returns-in-Err-SourceChanged : goal.returns-in-Err-SourceChanged
returns-in-Err-SourceChanged g c = λ json definitions planned is text long roots.
    let old = g.D.Disk.device c.args.disk.now in
    let new = g.D.Disk.device c.commit.new.disk in
    let from = store g.S.Sources.told g.S.Sources.faults g.S.Sources.strays c.args.sources.now in
    let to = store g.S.Sources.told g.S.Sources.faults g.S.Sources.strays c.commit.new.sources in
    let e = c.commit.ensures in
    let r = carries definitions planned old new from to c.args.ready is long roots c.commit.result
    e.earlier e.told e.made e.disk_cause e.source_cause e.disk_strays in (
      Err c.changed.result,
      subst (λ (a : Outcome). CarriesOut definitions planned old new from to a)
          (told_as c.commit.result c.in-Err-SourceChanged.field-0 _ c.changed.result c.in-Err-SourceChanged.is c.in-Err-SourceChanged.field-0-is
          (sym c.changed.ensures)) r,
      c.refuse-in-Err-SourceChanged.ensures,
    )
