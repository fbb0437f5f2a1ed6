-- The spans so far are chained, so all are where those left are, from where it has come.
use Rattle.std.proofs.Common.{drop}
use Rattle.rp_table.specs.Spans.{IsChained}
use Rattle.rp_table.proofs.rows.are_chained.Given as goal

abbrev pub invariant-loop-start : goal.invariant-loop-start
invariant-loop-start l = record {
  gives : IsChained l.reached (drop l.start-index l.spans) → IsChained 0 l.spans;
  given : IsChained 0 l.spans → IsChained l.reached (drop l.start-index l.spans);
}
