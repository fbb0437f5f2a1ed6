-- The commands and their options: the tables of src/table.rt (own).
use Rattle.std.specs.Prelude.{ℕ, List, map}
use Rattle.std.specs.Borrow.{Bor}
use Rattle.rp_words.specs.declared.table.CommandRow.{CommandRow}
use Rattle.rp_words.specs.declared.table.OptionRow.{OptionRow}
use Rattle.rp_words.specs.declared.table.TheConstants.{COMMANDS, OPTIONS}

-- a command by name, and what it does, for people
abbrev pub CommandEntry : Type 0
CommandEntry = List ℕ × CommandRow × List ℕ

-- the same, where its texts were lent
abbrev pub command_entry : Bor (List ℕ) × CommandRow × Bor (List ℕ) → CommandEntry
command_entry entry = (entry.0.now, entry.1, entry.2.now)

-- an option by name, with the value that stands where it isn't given, how its values are written, and what they mean
abbrev pub Entry : Type 0
Entry = List ℕ × List ℕ × List ℕ × OptionRow × List ℕ

-- the same, where its texts were lent
abbrev pub option_entry : Bor (List ℕ) × Bor (List ℕ) × Bor (List ℕ) × OptionRow × Bor (List ℕ) → Entry
option_entry entry = (entry.0.now, entry.1.now, entry.2.now, entry.3, entry.4.now)

-- the commands by name
unfoldable pub commands : List CommandEntry
commands = map (λ entry. (entry.0.now, entry.1, entry.2.now)) COMMANDS

-- the options of all commands, by name
unfoldable pub options : List Entry
options = map (λ entry. (entry.0.now, entry.1.now, entry.2.now, entry.3, entry.4.now)) OPTIONS
