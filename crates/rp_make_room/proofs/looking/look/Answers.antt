use Rattle.rp_reading.specs.Stages.{refused}
use Rattle.rp_make_room.specs.Room.{refusal_of}
use Rattle.rp_make_room.proofs.Looked.{measured}
use Rattle.rp_make_room.proofs.looking.look.Goals as goal

pub returns-in-Ok : goal.returns-in-Ok
returns-in-Ok g c =
    let e = c.in-Ok.ensures in
    measured c.in-Ok.len (g.D.Disk.device c.args.disk.now) (g.D.Disk.device c.len.new.self) (g.D.Disk.device c.look_at.new.disk)
    (refused refusal_of c.look_at.result) e.calls e.earlier (λ past can. e.inside past) e.len e.cause.kept c.look_at.ensures
