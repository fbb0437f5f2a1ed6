use Rattle.std.proofs.Common.{◌≡◌, All}
use Rattle.rp_base.specs.Table.{RowFits}
use Rattle.rp_gpt.specs.Copy.{rows_of}
use Rattle.rp_gpt.proofs.decode.read_rows.Given as goal

abbrev pub invariant-loop-slot : goal.invariant-loop-slot
invariant-loop-slot l = record {
  rows : l.rows ≡ rows_of l.sector l.array l.slot;
  fits : All RowFits l.rows;
}
