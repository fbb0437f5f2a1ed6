use Rattle.std.proofs.Common.{◌≡◌, map, take}
use Rattle.serde_json.specs.View.{view}
use Rattle.rp_verdict_text.specs.Reports.{integer}
use Rattle.rp_verdict_text.proofs.json.slot_values.Given as goal

-- the values so far
abbrev pub invariant-loop-slot : goal.invariant-loop-slot
invariant-loop-slot l = map view l.values.items ≡ map integer (take l.slot-index l.slots)
