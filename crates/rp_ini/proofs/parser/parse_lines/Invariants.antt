-- The lines left, after what the lines so far made, give the answer.
use Rattle.std.proofs.Common.{◌≡◌, length, Ok}
use Rattle.rp_ini.specs.Parser.{after_lines}
use Rattle.rp_ini.specs.Text.{logical_lines}
use Rattle.rp_ini.proofs.parser.parse_lines.Given as goal

abbrev pub invariant-loop-parser : goal.invariant-loop-parser
invariant-loop-parser l = after_lines (Ok l.initial.parser) (logical_lines l.initial.lines) ≡ after_lines (Ok l.parser) (logical_lines l.lines)

abbrev pub decreases-loop-parser : goal.decreases-loop-parser
decreases-loop-parser l = length l.lines
