-- The lines so far were comments.
use Rattle.std.proofs.Common.{◌≡◌, ◌+◌, ◌<◌, ◌^◌, length}
use denote.Text.{Utf8}
use denote.Shadow.{shadow}
use Rattle.rp_ini.specs.Text as grammar
use Rattle.rp_ini.proofs.lines.next_kept.Given as goal

abbrev pub invariant-loop-rest : goal.invariant-loop-rest
invariant-loop-rest l = record {
  utf8 : shadow (Utf8 l.rest);
  fits : l.number + length l.rest < 2 ^ 32;
  same : grammar.kept_lines (l.taken + 1) (grammar.lines_of l.text) ≡ grammar.kept_lines (l.number + 1) (grammar.lines_of l.rest);
}

abbrev pub decreases-loop-rest : goal.decreases-loop-rest
decreases-loop-rest l = length l.rest
