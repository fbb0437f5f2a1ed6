use Rattle.std.proofs.Common.{◌≡◌, drop}
use Rattle.rp_gpt.specs.Shown.{overlap}
use Rattle.rp_table.proofs.rows.least_pair.Given as goal

abbrev pub invariant-loop-i : goal.invariant-loop-i
invariant-loop-i l = overlap l.rows ≡ overlap (drop l.i l.rows)
