use Rattle.std.proofs.Common.{◌∙◌, arith}
use Rattle.rp_report.specs.Tables.{table_lines}
use Rattle.rp_report.proofs.TextLemmas.{written_all, lines-past, lines_behind}
use Rattle.rp_report.proofs.tables.push_table.Goals as goal

pub returns : goal.returns
unfolding table_lines
returns c =
    written_all _ _ _ (lines-past c.as_slice-row-items.result.now c.loop-row.row-index (omega arith)) c.loop-row.invariant
    ∙ lines_behind _ _ _ _ _ c.in_ok-push_table_line.ensures c.as_slice-row-items.ensures
