use Rattle.std.proofs.Common.{Ok}
use Rattle.rp_reset_command.proofs.plan.plan_read.Goals as goal

pub returns-in-Ok : goal.returns-in-Ok
returns-in-Ok g c = (Ok c.in-Ok.renewal, rw c.as_slice-list.ensures at c.in-Ok.ensures.renews, c.tell.ensures)
