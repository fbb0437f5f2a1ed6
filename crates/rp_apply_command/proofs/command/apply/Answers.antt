use Rattle.std.proofs.Common.{Ok, Err, refl, ap}
use Rattle.rp_outcome.specs.Refusals.{disk_refusal}
use Rattle.rp_reading.specs.Reading.{unread_refusal}
use Rattle.rp_apply_command.proofs.Opened.{opened_as, opens}
use Rattle.rp_apply_command.proofs.command.apply.Goals as goal

pub returns-in-Err : goal.returns-in-Err
returns-in-Err g c = (
  Err (unread_refusal c.in-Err.fault),
  c.in-Err.ensures.read,
  (refl, refl, rw c.unread_refusal.ensures at c.refuse.ensures),
)

pub returns-in-Ok-sync : goal.returns-in-Ok-sync
returns-in-Ok-sync g c =
    let s = c.sync.ensures in (
      Ok c.in-Ok.definitions,
      c.in-Ok.ensures.read,
      (
        g.D.Disk.device c.sync.new.self,
        Ok tt,
        opens (g.D.Disk.device c.args.disk.now) (g.D.Disk.device c.sync.new.self) c.sync.result (Ok tt) (ap opened_as c.in-Ok-sync.is)
            s.earlier s.calls s.answers s.cause,
        c.apply_opened.ensures,
      ),
    )

pub returns : goal.returns
returns g c =
    let s = c.sync.ensures in (
      Ok c.in-Ok.definitions,
      c.in-Ok.ensures.read,
      (
        g.D.Disk.device c.sync.new.self,
        Err disk_refusal,
        opens (g.D.Disk.device c.args.disk.now) (g.D.Disk.device c.sync.new.self) c.sync.result (Err disk_refusal)
            (ap opened_as c.in-Err-sync.is) s.earlier s.calls s.answers s.cause,
        (refl, refl, rw c.disk.ensures at c.refuse-in-Err-sync.ensures),
      ),
    )
