use Rattle.std.proofs.Common.{refl}
use Rattle.rp_make_command.proofs.command.make_looked.Goals as goal

pub returns-in-Err : goal.returns-in-Err
returns-in-Err g c = (
  g.D.Disk.device c.grow.new.disk,
  c.grow.result,
  c.grow.ensures,
  rw c.in-Err.is (refl, refl, rw c.disk.ensures at c.refuse.ensures),
)
