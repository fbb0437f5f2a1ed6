use Rattle.std.proofs.Common.{◌≡◌, drop}
use Rattle.std.specs.Prelude.{find}
use Rattle.rp_verdict.specs.Rows.{may_be}
use Rattle.rp_verdict.proofs.rows.row_of.Given as goal

-- none so far
abbrev pub invariant-loop-row : goal.invariant-loop-row
invariant-loop-row l = find (may_be l.arch l.designator) l.rows ≡ find (may_be l.arch l.designator) (drop l.row-index l.rows)
