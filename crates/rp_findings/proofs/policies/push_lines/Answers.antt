use Rattle.std.proofs.Common.{string_bytes, arith}
use Rattle.rp_findings.specs.Policies.{flags_line}
use Rattle.rp_policy.specs.Reading.{designators}
use Rattle.rp_findings.proofs.Lines.{line_more}
use Rattle.rp_findings.proofs.policies.push_lines.Goals as goal

pub loop-designator-preserved : goal.loop-designator-preserved
loop-designator-preserved c =
    line_more (flags_line c.args.policy.now) designators c.loop-designator.designator-index _ (string_bytes c.args.text.now)
    (string_bytes c.loop-designator.text) (string_bytes c.push_line.new.text) (omega arith) c.loop-designator.invariant
    c.in_ok-push_line.ensures
