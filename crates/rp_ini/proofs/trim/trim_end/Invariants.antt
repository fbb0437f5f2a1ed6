-- What is left has the same text without white space.
use Rattle.std.proofs.Common.{◌≡◌, length}
use denote.Text.{Utf8}
use denote.Shadow.{shadow}
use Rattle.rp_ini.specs.Text as grammar
use Rattle.rp_ini.proofs.trim.trim_end.Given as goal

abbrev pub invariant-loop-next : goal.invariant-loop-next
invariant-loop-next l = shadow (Utf8 l.rest) × (grammar.trim_end l.text ≡ grammar.trim_end l.rest)

abbrev pub decreases-loop-next : goal.decreases-loop-next
decreases-loop-next l = length l.rest
