use Rattle.std.proofs.Common.{ℕ, ◌<◌, get_or}
use Rattle.rp_base.specs.Table.{RowFits}
use Rattle.rp_base.specs.declared.table.Row.{Row}
use Rattle.rp_apply.proofs.numbers.rows_fit.Given as goal

abbrev pub invariant-loop-row : goal.invariant-loop-row
invariant-loop-row l = (k : ℕ) (d : Row) → k < l.row-index → RowFits (get_or l.rows k d)
