use Rattle.std.proofs.Common.{◌≡◌, ◌++◌, drop, map}
use Rattle.std.specs.List.{enumerate_from}
use Rattle.rp_plan.specs.Rows.{row_again}
use Rattle.rp_plan.proofs.rows.old_rows.Given as goal

abbrev pub invariant-loop-place : goal.invariant-loop-place
invariant-loop-place l = l.laid ++ map (row_again l.matched l.spots) (enumerate_from l.place (drop l.place l.rows)) ≡ map (row_again l.matched l.spots) (enumerate_from 0 l.rows)
