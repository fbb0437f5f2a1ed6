use Rattle.std.proofs.Common.{◌≡◌, ◌++◌, string_bytes, drop}
use Rattle.std.specs.List.{flat_map}
use Rattle.rp_report.specs.Tables.{row_line}
use Rattle.rp_report.proofs.tables.push_table.Given as goal

-- what is written and the lines of the rows that are left make the whole
abbrev pub invariant-loop-row : goal.invariant-loop-row
invariant-loop-row l = string_bytes l.text ++ flat_map row_line (drop l.row-index l.row-items) ≡ string_bytes l.initial.text ++ flat_map row_line l.row-items
