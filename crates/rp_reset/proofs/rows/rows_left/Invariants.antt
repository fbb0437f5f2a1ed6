use Rattle.std.proofs.Common.{◌≡◌, ◌++◌, drop}
use Rattle.std.specs.List.{enumerate_from, filter_map}
use Rattle.rp_reset.specs.Reset.{rows_left, row_left}
use Rattle.rp_reset.proofs.rows.rows_left.Given as goal

abbrev pub invariant-loop-place : goal.invariant-loop-place
invariant-loop-place l = l.left ++ filter_map (row_left l.matched l.defs) (enumerate_from l.place (drop l.place l.rows)) ≡ rows_left l.matched l.defs l.rows
