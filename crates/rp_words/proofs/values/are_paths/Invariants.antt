-- What is left decides.
use Rattle.std.proofs.Common.{◌≡◌}
use Rattle.rp_words.specs.Values.{are_paths}
use Rattle.rp_words.proofs.Paths.{all_but, left}
use Rattle.rp_words.proofs.values.are_paths.Given as goal

abbrev pub invariant-loop-byte : goal.invariant-loop-byte
invariant-loop-byte l = are_paths l.text ≡ all_but l.begun (left l.byte-items l.byte-index)
