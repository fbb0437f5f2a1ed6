use Rattle.std.proofs.Common.{◌≡◌, map, take}
use Rattle.serde_json.specs.Data.{string}
use Rattle.serde_json.specs.View.{view}
use Rattle.rp_report.specs.Plans.{file_text}
use Rattle.rp_report.proofs.plan_json.file_values.Given as goal

-- the names so far, as data
abbrev pub invariant-loop-place : goal.invariant-loop-place
invariant-loop-place l = map view l.values.items ≡ map (λ place. string (file_text l.list place)) (take l.place-index l.places)
