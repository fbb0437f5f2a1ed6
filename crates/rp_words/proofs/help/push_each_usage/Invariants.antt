-- What is written and the pieces of the entries that are left make the whole.
use Rattle.std.proofs.Common.{◌≡◌, ◌++◌, string_bytes, drop}
use Rattle.std.specs.List.{flat_map}
use Rattle.rp_words.specs.Help.{usage}
use Rattle.rp_words.specs.Table.{option_entry}
use Rattle.rp_words.proofs.help.push_each_usage.Given as goal

abbrev pub invariant-loop-entry : goal.invariant-loop-entry
invariant-loop-entry l =
    string_bytes l.text ++ flat_map (λ entry. usage l.command (option_entry entry)) (drop l.entry-index l.entries)
    ≡ string_bytes l.initial.text ++ flat_map (λ entry. usage l.command (option_entry entry)) l.entries
