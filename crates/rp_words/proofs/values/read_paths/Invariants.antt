-- The paths so far, and those of what is left, are all.
use denote.Shadow.{shadow}
use denote.Text.{Utf8}
use Rattle.std.proofs.Common.{◌≡◌, ◌++◌, length}
use Rattle.rp_words.specs.Values.{paths_of}
use Rattle.rp_words.proofs.values.read_paths.Given as goal

abbrev pub invariant-cuts : goal.invariant-cuts
invariant-cuts l = shadow (Utf8 l.rest) × (l.paths ++ paths_of l.rest ≡ paths_of l.fn.text)

abbrev pub decreases-cuts : goal.decreases-cuts
decreases-cuts l = length l.rest
