use Rattle.std.proofs.Common.{◌+◌, ◌≤◌, ◌⊎◌, All, take}
use Rattle.rp_base.specs.declared.table.Row.{Row}
use Rattle.rp_rows_places.proofs.areas.all_apart.Given as goal

abbrev pub invariant-loop-other : goal.invariant-loop-other
invariant-loop-other l = All (λ (a : Row). (a.start + a.size ≤ l.row.start) ⊎ (l.row.start + l.row.size ≤ a.start))
    (take l.other-index l.rows)
