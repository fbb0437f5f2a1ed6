use Rattle.std.proofs.Common.{◌+◌, ◌≤◌, All, take}
use Rattle.rp_base.specs.declared.table.Row.{Row}
use Rattle.rp_rows_places.proofs.areas.all_within.Given as goal

abbrev pub invariant-loop-row : goal.invariant-loop-row
invariant-loop-row l = All (λ (row : Row). 1 ≤ row.size) (take l.row-index l.rows)
    × All (λ (row : Row). (l.first ≤ row.start) × (row.start + row.size ≤ l.last + 1)) (take l.row-index l.rows)
