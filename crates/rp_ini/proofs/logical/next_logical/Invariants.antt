-- The text so far stands in front of the piece and of the lines left.
use Rattle.std.proofs.Common.{◌≡◌, ◌∷◌, ◌<◌, length}
use denote.Text.{Utf8}
use denote.Shadow.{shadow}
use Rattle.std.specs.String.{string_bytes}
use Rattle.rp_ini.specs.Text as grammar
use Rattle.rp_ini.proofs.logical.next_logical.Given as goal

abbrev pub invariant-loop-front : goal.invariant-loop-front
invariant-loop-front l = record {
  utf8 : shadow (Utf8 l.piece);
  shorter : length l.lines < length l.fn.lines;
  same : grammar.logical_lines l.fn.lines ≡ grammar.joined l.number (string_bytes l.text) (grammar.logical_lines (record { number = l.number; text = l.piece } ∷ l.lines));
}

abbrev pub decreases-loop-front : goal.decreases-loop-front
decreases-loop-front l = length l.lines
