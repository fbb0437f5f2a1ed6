-- The spans of the rows so far.
use Rattle.std.proofs.Common.{◌≡◌, take, map}
use Rattle.rp_table.specs.Spans.{span_of}
use Rattle.rp_table.proofs.rows.spans.Given as goal

abbrev pub invariant-loop-row : goal.invariant-loop-row
invariant-loop-row l = l.spans.items ≡ map span_of (take l.row-index l.rows)
