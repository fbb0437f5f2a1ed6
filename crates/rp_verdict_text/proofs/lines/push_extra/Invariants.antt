use Rattle.std.proofs.Common.{◌≡◌, ◌++◌, take, string_bytes}
use Rattle.std.specs.List.{flat_map}
use Rattle.rp_verdict_text.specs.Reports.{extra_line}
use Rattle.rp_verdict_text.proofs.lines.push_extra.Given as goal

-- the lines so far are written
abbrev pub invariant-loop-slot : goal.invariant-loop-slot
invariant-loop-slot l = string_bytes l.text ≡ string_bytes l.initial.text ++ flat_map extra_line (take l.slot-index l.extra)
