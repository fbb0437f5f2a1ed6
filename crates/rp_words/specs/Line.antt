-- What a command line asks for, or the first thing that is wrong with its words (own).
use Rattle.std.specs.Prelude.{ℕ, ◌-◌, List, [], ◌∷◌, Bool, false, not, ◌&&◌, if◌then◌else◌, codes, length, take, replicate, Option, Some, None, option_map, Result, Ok, Err, unwrap_or}
use Rattle.std.specs.Option.{option_map_or}
use Rattle.std.specs.Str.{bytes_eq}
use Rattle.rp_gpt.specs.declared.table_fault.Empty.{Empty}
use Rattle.rp_gpt.specs.declared.table_fault.Empty.TheVariants.{Refuse, Allow, Require}
use Rattle.rp_types.specs.Guids.{guid_of}
use Rattle.rp_types.specs.declared.arch.Arch.{Arch}
use Rattle.rp_types.specs.declared.arch.Arch.TheVariants.{X86_64, Arm64}
use Rattle.rp_words.specs.declared.line.Line.{Line}
use Rattle.rp_words.specs.declared.table.Command.{Command}
use Rattle.rp_words.specs.declared.table.CommandRow.{CommandRow}
use Rattle.rp_words.specs.declared.fault.WordFault.{WordFault}
use Rattle.rp_words.specs.declared.fault.WordFault.TheVariants.{NoCommand, UnknownCommand, Missing, NoImage}
use Rattle.rp_words.specs.declared.table.Opt.{Opt}
use Rattle.rp_words.specs.Entry.{name_text}
use Rattle.rp_words.specs.Faults.{entry_called, first_fault, missing}
use Rattle.rp_words.specs.Table.{CommandEntry, commands}
use Rattle.rp_words.specs.Values.{number_in, size_in}
use Rattle.rp_words.specs.Words.{first_of, is_image, last_of, value_in}

-- a command, if it is called this
abbrev pub named : List ℕ → CommandEntry → Option CommandRow
named name entry = if bytes_eq entry.0 name then Some entry.1 else None

-- the command of a name
unfoldable pub command_of : List ℕ → Option CommandRow
command_of name = first_of (named name) commands

-- words begin with a command that has an image behind its options
abbrev pub has_image : List (List ℕ) → Bool
has_image [] = false
has_image (command ∷ words) = option_map_or (λ row. row.image) (command_of command) false

-- the value of an option: the one that the words give, or the one that stands where none is given
abbrev pub value_or : List ℕ → List (List ℕ) → List ℕ
value_or name words = unwrap_or (value_in name words) (option_map_or (λ entry. entry.1) (entry_called name) [])

-- the text of an option
abbrev pub text_in : Opt → List (List ℕ) → List ℕ
text_in option words = value_or (name_text option) words

-- whether an option has this value
abbrev pub is_set : List ℕ → List ℕ → List (List ℕ) → Bool
is_set name value words = bytes_eq (value_or name words) value

abbrev pub arch_in : List (List ℕ) → Arch
arch_in words = if is_set (codes "arch") (codes "arm64") words then Arm64 else X86_64

abbrev pub empty_in : List (List ℕ) → Empty
empty_in words =
    if is_set (codes "empty") (codes "allow") words then Allow
    else if is_set (codes "empty") (codes "require") words then Require
    else Refuse

abbrev pub size_of_words : List (List ℕ) → ℕ
size_of_words words = unwrap_or (size_in (value_or (codes "size") words)) 0

abbrev pub sector_in : List (List ℕ) → ℕ
sector_in words = if is_set (codes "sector-size") (codes "4096") words then 4096 else 512

-- the line of a command and canonical words behind it; what isn't asked of a command stands at its default, or is zero
abbrev pub line_by : Command → List (List ℕ) → Line
line_by command words = record {
  command = command;
  seed = unwrap_or (guid_of (value_or (codes "seed") words)) (record { 0 = replicate 16 0 });
  arch = arch_in words;
  empty = empty_in words;
  size = size_of_words words;
  json = is_set (codes "json") (codes "short") words;
  sector = sector_in words;
  factory_reset = is_set (codes "factory-reset") (codes "on") words;
  number = unwrap_or (number_in (value_or (codes "number") words)) 0;
}

-- the words without the image behind them
abbrev pub options_in : Bool → List (List ℕ) → List (List ℕ)
options_in image words = if image && is_image (last_of words) then take (length words - 1) words else words

-- the rest of a judgement, unless there is a fault
abbrev pub unless : Option WordFault → Result Line WordFault → Result Line WordFault
unless None line = line
unless (Some fault) line = Err fault

-- the line of the words behind a command, or their first fault: in a word, an option that isn't there, the image
abbrev pub line_with : CommandRow → List (List ℕ) → Result Line WordFault
line_with row words =
    unless (first_fault row.command (options_in row.image words))
    (unless (option_map (λ option. Missing option) (missing row.command words))
    (if row.image && not (is_image (last_of words)) then Err NoImage else Ok (line_by row.command words)))

-- the words behind a command that is there, or isn't
abbrev pub line_behind : Option CommandRow → List (List ℕ) → Result Line WordFault
line_behind None words = Err UnknownCommand
line_behind (Some row) words = line_with row words

-- the line of words, or their first fault; the words don't hold the program's name
abbrev pub line_of : List (List ℕ) → Result Line WordFault
line_of [] = Err NoCommand
line_of (command ∷ words) = line_behind (command_of command) words
