use Rattle.std.proofs.Common.{Ok, Err, refl, ap}
use Rattle.rp_outcome.specs.Refusals.{disk_refusal}
use Rattle.rp_apply_command.proofs.Opened.{opened_as, opens}
use Rattle.rp_make_command.proofs.command.make_read.Goals as goal

pub returns-in-Ok : goal.returns-in-Ok
returns-in-Ok g c =
    let s = c.sync.ensures in (
      g.D.Disk.device c.sync.new.self,
      Ok tt,
      opens (g.D.Disk.device c.args.disk.now)
          (g.D.Disk.device c.sync.new.self)
          c.sync.result (Ok tt) (ap opened_as c.in-Ok.is) s.earlier s.calls s.answers s.cause,
      c.make_opened.ensures,
    )

pub returns-in-Err : goal.returns-in-Err
returns-in-Err g c =
    let s = c.sync.ensures in (
      g.D.Disk.device c.sync.new.self,
      Err disk_refusal,
      opens (g.D.Disk.device c.args.disk.now)
          (g.D.Disk.device c.sync.new.self)
          c.sync.result (Err disk_refusal) (ap opened_as c.in-Err.is) s.earlier s.calls s.answers s.cause,
      (refl, refl, rw c.disk.ensures at c.refuse.ensures),
    )
