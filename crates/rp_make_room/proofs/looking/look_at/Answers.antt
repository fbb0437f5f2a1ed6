use Rattle.std.proofs.Common.{◌≡◌, arith, false, rules}
use Rattle.rp_make_room.specs.Room.{is_looked_at}
use Rattle.rp_make_room.proofs.Looked.{too_long, unseen}
use Rattle.rp_make_room.proofs.looking.look_at.Goals as goal

pub returns-then-len-gt-LENGTH : goal.returns-then-len-gt-LENGTH
returns-then-len-gt-LENGTH g c = too_long c.args.len (g.D.Disk.device c.args.disk.now) (omega (arith, c.if-len-gt-LENGTH.true))

pub returns-then-not-is_looked_at : goal.returns-then-not-is_looked_at
returns-then-not-is_looked_at g c =
    let none : is_looked_at c.args.len ≡ false = search rules in
    unseen c.args.len (g.D.Disk.device c.args.disk.now) (omega (arith, c.if-len-gt-LENGTH.false)) none
