-- The entry of an option in the table (own).
use Rattle.std.specs.Prelude.{ℕ, ◌==◌, List, [], if◌then◌else◌, Option, Some, None}
use Rattle.std.specs.Option.{option_map_or}
use Rattle.rp_words.specs.declared.table.Opt.{Opt}
use Rattle.rp_words.specs.declared.table.Opt.TheVariants.{Definitions, Seed, Arch, Empty, Size, Json, SectorSize, FactoryReset, Policy, Against, Number}
use Rattle.rp_words.specs.Table.{Entry, options}
use Rattle.rp_words.specs.Words.{first_of}

-- the number of an option
abbrev pub number_of : Opt → ℕ
number_of Definitions = 0
number_of Seed = 1
number_of Arch = 2
number_of Empty = 3
number_of Size = 4
number_of Json = 5
number_of SectorSize = 6
number_of FactoryReset = 7
number_of Policy = 8
number_of Against = 9
number_of Number = 10

-- an entry, if it is this option's
abbrev pub own : Opt → Entry → Option Entry
own option entry = if number_of entry.3.option == number_of option then Some entry else None

-- the entry of an option
unfoldable pub entry_of : Opt → Option Entry
entry_of option = first_of (own option) options

-- the option's name, and how its values are written
abbrev pub name_text : Opt → List ℕ
name_text option = option_map_or (λ entry. entry.0) (entry_of option) []

abbrev pub form_text : Opt → List ℕ
form_text option = option_map_or (λ entry. entry.2) (entry_of option) []
