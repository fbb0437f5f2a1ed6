use Rattle.std.proofs.Common.{◌≡◌, ◌++◌, take, string_bytes}
use Rattle.std.specs.List.{flat_map}
use Rattle.rp_verdict_text.specs.Reports.{verdict_line}
use Rattle.rp_verdict_text.proofs.lines.push_lines.Given as goal

-- the lines so far are written
abbrev pub invariant-loop-verdict : goal.invariant-loop-verdict
invariant-loop-verdict l = string_bytes l.text ≡ string_bytes l.initial.text ++ flat_map verdict_line (take l.verdict-index l.list)
