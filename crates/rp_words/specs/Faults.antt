-- What is wrong with words: the first fault, word by word (own).
use Rattle.std.specs.Prelude.{ℕ, ◌+◌, List, [], Bool, true, false, not, ◌&&◌, if◌then◌else◌, Option, Some, None, is_some, length, take, slice_index_or}
use Rattle.std.specs.List.{range_with_len}
use Rattle.std.specs.Str.{bytes_eq}
use Rattle.rp_words.specs.declared.table.Command.{Command}
use Rattle.rp_words.specs.declared.table.Command.TheVariants.{Show, Plan, Apply, Check, Dissect, Policy, Make, Compare}
use Rattle.rp_words.specs.declared.table.Opt.{Opt}
use Rattle.rp_words.specs.declared.table.OptionRow.{OptionRow}
use Rattle.rp_words.specs.declared.table.Use.{Use}
use Rattle.rp_words.specs.declared.table.Use.TheVariants.{Never, May, Must}
use Rattle.rp_words.specs.declared.fault.WordFault.{WordFault}
use Rattle.rp_words.specs.declared.fault.WordFault.TheVariants.{NotOption, UnknownOption, OtherCommand, Twice, BadValue}
use Rattle.rp_words.specs.Table.{Entry, options}
use Rattle.rp_words.specs.Values.{is_value}
use Rattle.rp_words.specs.Words.{first_of, option_in, value_in}

-- what an option is to a command
abbrev pub use_by : OptionRow → Command → Use
use_by row Show = row.show
use_by row Plan = row.plan
use_by row Apply = row.apply
use_by row Check = row.check
use_by row Dissect = row.dissect
use_by row Policy = row.policy
use_by row Make = row.make
use_by row Compare = row.compare

abbrev pub is_allowed : Use → Bool
is_allowed Never = false
is_allowed May = true
is_allowed Must = true

abbrev pub is_required : Use → Bool
is_required Never = false
is_required May = false
is_required Must = true

-- an entry, if it is called this
abbrev pub called : List ℕ → Entry → Option Entry
called name entry = if bytes_eq entry.0 name then Some entry else None

-- the option of a name
unfoldable pub entry_called : List ℕ → Option Entry
entry_called name = first_of (called name) options

-- whether words give a value to the option of this name
abbrev pub is_given : List ℕ → List (List ℕ) → Bool
is_given name words = is_some (value_in name words)

-- what is wrong with a value that is given to an option of this name, behind these words: the command doesn't have the
-- option, it was given before, or the value isn't of its form
abbrev pub fault_of_value : Command → List (List ℕ) → ℕ → List ℕ → List ℕ → Option Entry → Option WordFault
fault_of_value command before place name value None = Some (UnknownOption place)
fault_of_value command before place name value (Some entry) =
    if not (is_allowed (use_by entry.3 command)) then Some (OtherCommand place)
    else if is_given name before then Some (Twice place)
    else if not (is_value entry.3.option value) then Some (BadValue place entry.3.option)
    else None

abbrev pub fault_of_parts : Command → List (List ℕ) → ℕ → Option (List ℕ × List ℕ) → Option WordFault
fault_of_parts command before place None = Some (NotOption place)
fault_of_parts command before place (Some parts) = fault_of_value command before place parts.0 parts.1 (entry_called parts.0)

-- what is wrong with a word behind the command and these words
abbrev pub fault_of : Command → List (List ℕ) → List ℕ → Option WordFault
fault_of command before word = fault_of_parts command before (length before + 1) (option_in word)

-- the first fault among words behind the command
unfoldable pub first_fault : Command → List (List ℕ) → Option WordFault
first_fault command words =
    first_of (λ place. fault_of command (take place words) (slice_index_or words place [])) (range_with_len 0 (length words))

-- an entry's option, if the command wants it and the words don't give it
abbrev pub wanting : Command → List (List ℕ) → Entry → Option Opt
wanting command words entry = if is_required (use_by entry.3 command) && not (is_given entry.0 words) then Some entry.3.option else None

-- the first option that the command wants and the words don't give
unfoldable pub missing : Command → List (List ℕ) → Option Opt
missing command words = first_of (wanting command words) options
