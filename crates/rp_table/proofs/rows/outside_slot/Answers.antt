use Rattle.rp_table.proofs.FromPlace.{outside_from-zero}
use Rattle.rp_table.proofs.rows.outside_slot.Goals as goal

pub loop-row-init : goal.loop-row-init
loop-row-init c = outside_from-zero c.args.table.now
