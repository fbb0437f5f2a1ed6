use Rattle.std.proofs.Common.{◌≡◌, ◌++◌, string_bytes, drop}
use Rattle.std.specs.List.{flat_map}
use Rattle.rp_report.specs.Plans.{dropped_line}
use Rattle.rp_report.proofs.plan.push_dropped.Given as goal

-- what is written and the lines of the definitions that are left make the whole
abbrev pub invariant-loop-place : goal.invariant-loop-place
invariant-loop-place l =
    string_bytes l.text ++ flat_map (dropped_line l.list) (drop l.place-index l.dropped)
    ≡ string_bytes l.initial.text ++ flat_map (dropped_line l.list) l.dropped
