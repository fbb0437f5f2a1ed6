-- What is written so far stands before what the rest says.
use Rattle.std.proofs.Common.{◌≡◌, Some, length, string_bytes}
use denote.Text.{Utf8}
use denote.Shadow.{shadow}
use Rattle.rp_values.specs.Texts.{expanded, joined}
use Rattle.rp_values.proofs.expand.expanded.Given as goal

abbrev pub invariant-loop-front : goal.invariant-loop-front
invariant-loop-front l = record {
  utf8 : shadow (Utf8 l.rest);
  same : joined (Some (string_bytes l.whole)) (expanded l.arch l.rest) ≡ expanded l.arch l.text;
}

abbrev pub decreases-loop-front : goal.decreases-loop-front
decreases-loop-front l = length l.rest
