use Rattle.std.proofs.Common.{◌≡◌, ◌≤◌, take}
use Rattle.rp_plan.specs.Kept.{first_free}
use Rattle.rp_plan.proofs.kept.first_free.Given as goal

abbrev pub invariant-loop-row : goal.invariant-loop-row
invariant-loop-row l = (l.free ≤ 1024) × (l.free ≡ first_free (take l.row-index l.rows))
