-- What is left of the table decides.
use Rattle.std.proofs.Common.{◌≡◌, drop}
use Rattle.rp_words.specs.Entry.{own}
use Rattle.rp_words.specs.Table.{option_entry}
use Rattle.rp_words.specs.Words.{first_of}
use Rattle.rp_words.proofs.entry.own_among.Given as goal

abbrev pub invariant-loop-entry : goal.invariant-loop-entry
invariant-loop-entry l =
    first_of (λ entry. own l.option (option_entry entry)) l.entries ≡ first_of (λ entry. own l.option (option_entry entry)) (drop l.entry-index l.entries)
