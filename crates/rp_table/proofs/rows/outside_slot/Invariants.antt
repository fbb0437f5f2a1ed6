use Rattle.std.proofs.Common.{◌≡◌}
use Rattle.rp_gpt.specs.Shown.{row_outside}
use Rattle.rp_table.proofs.FromPlace.{outside_from}
use Rattle.rp_table.proofs.rows.outside_slot.Given as goal

abbrev pub invariant-loop-row : goal.invariant-loop-row
invariant-loop-row l = row_outside l.table ≡ outside_from l.table l.row-index
