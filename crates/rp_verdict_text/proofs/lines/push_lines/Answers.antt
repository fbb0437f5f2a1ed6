use Rattle.std.proofs.Common.{string_bytes, arith}
use Rattle.rp_verdict_text.specs.Reports.{verdict_line}
use Rattle.rp_verdict_text.proofs.Texts.{line_more}
use Rattle.rp_verdict_text.proofs.lines.push_lines.Goals as goal

pub loop-verdict-preserved : goal.loop-verdict-preserved
loop-verdict-preserved c =
    line_more verdict_line c.args.list.now c.loop-verdict.verdict-index _ (string_bytes c.args.text.now) (string_bytes c.loop-verdict.text)
    (string_bytes c.push_line.new.text) (omega arith) c.loop-verdict.invariant c.in_ok-push_line.ensures
