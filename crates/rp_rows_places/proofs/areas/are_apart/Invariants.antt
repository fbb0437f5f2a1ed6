use Rattle.std.proofs.Common.{◌+◌, ◌≤◌, ◌⊎◌, AllPairs, take}
use Rattle.rp_base.specs.declared.table.Row.{Row}
use Rattle.rp_rows_places.proofs.areas.are_apart.Given as goal

abbrev pub invariant-loop-place : goal.invariant-loop-place
invariant-loop-place l = AllPairs (λ (a b : Row). (a.start + a.size ≤ b.start) ⊎ (b.start + b.size ≤ a.start)) (take l.place l.rows)
