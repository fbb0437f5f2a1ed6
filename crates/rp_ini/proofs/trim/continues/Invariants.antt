-- Each backslash turns the answer.
use Rattle.std.proofs.Common.{◌≡◌, length, cond, not}
use denote.Text.{Utf8}
use denote.Shadow.{shadow}
use Rattle.rp_ini.specs.Text as grammar
use Rattle.rp_ini.proofs.trim.continues.Given as goal

abbrev pub invariant-loop-next : goal.invariant-loop-next
invariant-loop-next l = shadow (Utf8 l.rest) × (grammar.continues l.text ≡ cond l.odd (not (grammar.continues l.rest)) (grammar.continues l.rest))

abbrev pub decreases-loop-next : goal.decreases-loop-next
decreases-loop-next l = length l.rest
