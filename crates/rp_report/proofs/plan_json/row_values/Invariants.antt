use Rattle.std.proofs.Common.{◌≡◌, map, take}
use Rattle.std.specs.Prelude.{zip}
use Rattle.serde_json.specs.View.{view}
use Rattle.rp_report.specs.PlanJson.{noted_data}
use Rattle.rp_report.proofs.plan_json.row_values.Given as goal

-- the rows so far, as data
abbrev pub invariant-loop-i : goal.invariant-loop-i
invariant-loop-i l = map view l.values.items ≡ map (noted_data l.list) (take l.i (zip l.rows l.notes))
