use Rattle.std.proofs.Common.{string_bytes, arith}
use Rattle.rp_verdict_text.specs.Reports.{extra_line}
use Rattle.rp_verdict_text.proofs.Texts.{line_more}
use Rattle.rp_verdict_text.proofs.lines.push_extra.Goals as goal

pub loop-slot-preserved : goal.loop-slot-preserved
loop-slot-preserved c =
    line_more extra_line c.args.extra.now c.loop-slot.slot-index _ (string_bytes c.args.text.now) (string_bytes c.loop-slot.text)
    (string_bytes c.push_extra_line.new.text) (omega arith) c.loop-slot.invariant c.in_ok-push_extra_line.ensures
