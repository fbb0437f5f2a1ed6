use Rattle.rp_reset.proofs.Fitting.{row_gone, row_stays, rows_old}
use Rattle.rp_reset.proofs.law.other_rows_stay.Goals as goal

pub returns-clause-old : goal.returns-clause-old
returns-clause-old c seen defs plan is = rows_old seen defs plan is

pub returns-clause-stay : goal.returns-clause-stay
returns-clause-stay c seen defs plan place row is at in' = row_stays seen defs plan is place row at in'

pub returns-clause-gone : goal.returns-clause-gone
returns-clause-gone c seen defs plan place row plannable is at out = row_gone seen defs plan is place row plannable at out
