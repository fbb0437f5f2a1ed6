-- What the words so far leave: none of them gives a value.
use Rattle.std.proofs.Common.{◌≡◌, drop, string_bytes}
use Rattle.rp_words.specs.Words.{first_of, value_of}
use Rattle.rp_words.proofs.words.value_in.Given as goal

abbrev pub invariant-loop-word : goal.invariant-loop-word
invariant-loop-word l =
    first_of (λ word. value_of l.name (string_bytes word)) l.words ≡ first_of (λ word. value_of l.name (string_bytes word)) (drop l.word-index l.words)
