-- What is left of the table decides.
use Rattle.std.proofs.Common.{◌≡◌, drop, map, string_bytes}
use Rattle.rp_words.specs.Faults.{wanting}
use Rattle.rp_words.specs.Table.{option_entry}
use Rattle.rp_words.specs.Words.{first_of}
use Rattle.rp_words.proofs.fault.wanting_among.Given as goal

abbrev pub invariant-loop-entry : goal.invariant-loop-entry
invariant-loop-entry l =
    first_of (λ entry. wanting l.command (map string_bytes l.words) (option_entry entry)) l.entries
    ≡ first_of (λ entry. wanting l.command (map string_bytes l.words) (option_entry entry)) (drop l.entry-index l.entries)
