use Rattle.std.proofs.Common.{◌≡◌, map, take}
use Rattle.serde_json.specs.View.{view}
use Rattle.rp_report.specs.Json.{integer}
use Rattle.rp_report.proofs.plan_json.slot_values.Given as goal

-- the numbers so far, as data
abbrev pub invariant-loop-slot : goal.invariant-loop-slot
invariant-loop-slot l = map view l.values.items ≡ map integer (take l.slot-index l.slots)
