use Rattle.std.proofs.Common.{arith}
use Rattle.rp_make_room.proofs.Looked.{lengthened, long_enough}
use Rattle.rp_make_room.proofs.growing.grow.Goals as goal

pub returns-then-len-ge-LENGTH : goal.returns-then-len-ge-LENGTH
returns-then-len-ge-LENGTH g c = long_enough c.args.len (g.D.Disk.device c.args.disk.now) (omega (arith, c.if-len-ge-LENGTH.true))

pub returns : goal.returns
returns g c =
    let s = c.in_ok-set_len.ensures in
    let e = c.sync.ensures in
    lengthened c.args.len (g.D.Disk.device c.args.disk.now) (g.D.Disk.device c.set_len.new.self) (g.D.Disk.device c.sync.new.self)
    c.sync.result (omega (arith, c.if-len-ge-LENGTH.false)) s.calls.ok s.answers s.earlier s.cause.kept e.calls e.answers e.earlier e.cause
