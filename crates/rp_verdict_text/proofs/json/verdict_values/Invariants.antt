use Rattle.std.proofs.Common.{◌≡◌, map, take}
use Rattle.serde_json.specs.View.{view}
use Rattle.rp_verdict_text.specs.Reports.{verdict_data}
use Rattle.rp_verdict_text.proofs.json.verdict_values.Given as goal

-- the values so far
abbrev pub invariant-loop-verdict : goal.invariant-loop-verdict
invariant-loop-verdict l = map view l.values.items ≡ map verdict_data (take l.verdict-index l.list)
