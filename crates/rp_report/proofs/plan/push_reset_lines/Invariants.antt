use Rattle.std.proofs.Common.{◌≡◌, ◌++◌, string_bytes, drop}
use Rattle.std.specs.List.{flat_map}
use Rattle.rp_report.specs.Plans.{reset_line}
use Rattle.rp_report.proofs.plan.push_reset_lines.Given as goal

-- what is written and the lines of the slots that are left make the whole
abbrev pub invariant-loop-slot : goal.invariant-loop-slot
invariant-loop-slot l =
    string_bytes l.text ++ flat_map reset_line (drop l.slot-index l.slots) ≡ string_bytes l.initial.text ++ flat_map reset_line l.slots
