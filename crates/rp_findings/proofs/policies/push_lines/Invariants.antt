use Rattle.std.proofs.Common.{◌≡◌, ◌++◌, take, string_bytes}
use Rattle.std.specs.List.{flat_map}
use Rattle.rp_findings.specs.Policies.{flags_line}
use Rattle.rp_policy.specs.Reading.{designators}
use Rattle.rp_findings.proofs.policies.push_lines.Given as goal

-- the lines of the designators so far are written
abbrev pub invariant-loop-designator : goal.invariant-loop-designator
invariant-loop-designator l =
    string_bytes l.text ≡ string_bytes l.initial.text ++ flat_map (flags_line l.policy) (take l.designator-index designators)
