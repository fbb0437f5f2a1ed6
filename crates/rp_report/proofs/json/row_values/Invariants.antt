use Rattle.std.proofs.Common.{◌≡◌, map, take}
use Rattle.serde_json.specs.View.{view}
use Rattle.rp_report.specs.Json.{row_data}
use Rattle.rp_report.proofs.json.row_values.Given as goal

-- the rows so far, as data
abbrev pub invariant-loop-row : goal.invariant-loop-row
invariant-loop-row l = map view l.values.items ≡ map row_data (take l.row-index l.rows)
