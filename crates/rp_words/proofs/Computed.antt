-- Lines that were worked out by hand come out of the definition.
use Rattle.std.proofs.Common.{Some, None, ◌≡◌, refl, ℕ, List, [], ◌∷◌, ◌++◌, Bool, true, false, replicate}
use Rattle.std.specs.Option.{option_map_or}
use Rattle.std.specs.Prelude.{codes, Ok, Err}
use Rattle.rp_gpt.specs.declared.table_fault.Empty.TheVariants.{Refuse, Allow}
use Rattle.rp_types.specs.declared.arch.Arch.{Arch}
use Rattle.rp_types.specs.declared.arch.Arch.TheVariants.{X86_64, Arm64}
use Rattle.rp_words.specs.declared.fault.WordFault.TheVariants.{NoCommand, UnknownCommand, NotOption, UnknownOption, OtherCommand, Twice, BadValue, Missing, NoImage}
use Rattle.rp_words.specs.declared.line.Line.{Line}
use Rattle.rp_words.specs.declared.table.Command.{Command}
use Rattle.rp_words.specs.declared.table.Command.TheVariants.{Show, Dissect, Compare}
use Rattle.rp_words.specs.declared.table.Opt.TheVariants.{Against, Definitions, FactoryReset, Json, Number, Policy, SectorSize, Seed, Size}
use Rattle.rp_words.specs.Faults.{entry_called, first_fault, missing}
use Rattle.rp_words.specs.Help.{command_text, option_text}
use Rattle.rp_words.specs.Entry.{entry_of}
use Rattle.rp_words.specs.Hint.{hint_of}
use Rattle.rp_words.specs.Line.{arch_in, command_of, empty_in, line_of, size_of_words, text_in}
use Rattle.rp_words.specs.Values.{paths_of}
use Rattle.rp_words.specs.Table.{CommandEntry, commands, options}
use Rattle.rp_words.specs.Words.{first_of}
use Rattle.std.specs.Str.{bytes_eq}
use Rattle.std.specs.Prelude.{if◌then◌else◌}
use Rattle.rp_types.specs.Guids.{guid_of}
use Rattle.rp_values.specs.Numbers.{size_of}

-- the line of a command for an architecture, with JSON or not, for sectors of so many bytes
abbrev line : Command → Arch → Bool → ℕ → Line
line command arch json sector = record {
  command = command;
  seed = record { 0 = replicate 16 0 };
  arch = arch;
  empty = Refuse;
  size = 0;
  json = json;
  sector = sector;
  factory_reset = false;
  number = 0;
}

abbrev show : Bool → ℕ → Line
show json sector = line Show X86_64 json sector

no_words : line_of [] ≡ Err NoCommand
no_words = refl

a_command_that_there_is_not : line_of (codes "format" ∷ codes "image" ∷ []) ≡ Err UnknownCommand
unfolding command_of commands
a_command_that_there_is_not = refl

without_a_number : line_of (codes "make" ∷ codes "image" ∷ []) ≡ Err (Missing Number)
unfolding command_of commands first_fault missing entry_called options
without_a_number = refl

no_number_begins_with_zero : line_of (codes "make" ∷ codes "--number=07" ∷ codes "image" ∷ []) ≡ Err (BadValue 1 Number)
unfolding command_of commands first_fault missing entry_called options
no_number_begins_with_zero = refl

no_reset_to_check : line_of (codes "check" ∷ codes "--factory-reset=on" ∷ codes "image" ∷ []) ≡ Err (OtherCommand 1)
unfolding command_of commands first_fault missing entry_called options
no_reset_to_check = refl

a_reset_is_on_or_off : line_of (codes "plan" ∷ codes "--factory-reset=yes" ∷ codes "image" ∷ []) ≡ Err (BadValue 1 FactoryReset)
unfolding command_of commands first_fault missing entry_called options
a_reset_is_on_or_off = refl

by_default : line_of (codes "show" ∷ codes "image" ∷ []) ≡ Ok (show false 512)
unfolding command_of commands first_fault missing entry_called options guid_of size_of
by_default = refl

in_any_order : line_of (codes "show" ∷ codes "--sector-size=4096" ∷ codes "--json=short" ∷ codes "image" ∷ []) ≡ Ok (show true 4096)
unfolding command_of commands first_fault missing entry_called options guid_of size_of
in_any_order = refl

without_an_image : line_of (codes "show" ∷ []) ≡ Err NoImage
unfolding command_of commands first_fault missing entry_called options
without_an_image = refl

an_image_with_a_hyphen : line_of (codes "show" ∷ codes "-x" ∷ []) ≡ Err (NotOption 1)
unfolding command_of commands first_fault missing entry_called options
an_image_with_a_hyphen = refl

behind_the_image : line_of (codes "show" ∷ codes "image" ∷ codes "--json=off" ∷ []) ≡ Err (NotOption 1)
unfolding command_of commands first_fault missing entry_called options
behind_the_image = refl

given_twice : line_of (codes "show" ∷ codes "--json=off" ∷ codes "--json=off" ∷ codes "image" ∷ []) ≡ Err (Twice 2)
unfolding command_of commands first_fault missing entry_called options
given_twice = refl

an_empty_value : line_of (codes "show" ∷ codes "--json=" ∷ codes "image" ∷ []) ≡ Err (BadValue 1 Json)
unfolding command_of commands first_fault missing entry_called options
an_empty_value = refl

another_sector_size : line_of (codes "show" ∷ codes "--sector-size=1024" ∷ codes "image" ∷ []) ≡ Err (BadValue 1 SectorSize)
unfolding command_of commands first_fault missing entry_called options
another_sector_size = refl

of_another_command : line_of (codes "show" ∷ codes "--seed=x" ∷ codes "image" ∷ []) ≡ Err (OtherCommand 1)
unfolding command_of commands first_fault missing entry_called options
of_another_command = refl

an_unknown_option : line_of (codes "show" ∷ codes "--color=x" ∷ codes "image" ∷ []) ≡ Err (UnknownOption 1)
unfolding command_of commands first_fault missing entry_called options
an_unknown_option = refl

hint_at_a_value : hint_of (codes "show" ∷ codes "--json=long" ∷ codes "image" ∷ [])
    ≡ Some (codes "--json=long", codes "not a value of this option, which takes", codes "off|short")
unfolding command_of commands first_fault missing entry_called options entry_of
hint_at_a_value = refl

hint_without_an_image : hint_of (codes "show" ∷ []) ≡ Some ([], codes "no image is given, as the last word", [])
unfolding command_of commands first_fault missing entry_called options
hint_without_an_image = refl

-- what `plan` wants
without_definitions : line_of (codes "plan" ∷ codes "image" ∷ []) ≡ Err (Missing Definitions)
unfolding command_of commands first_fault missing entry_called options
without_definitions = refl

without_a_seed : line_of (codes "plan" ∷ codes "--definitions=a" ∷ codes "image" ∷ []) ≡ Err (Missing Seed)
unfolding command_of commands first_fault missing entry_called options
without_a_seed = refl

a_bad_seed : line_of (codes "plan" ∷ codes "--seed=x" ∷ codes "image" ∷ []) ≡ Err (BadValue 1 Seed)
unfolding command_of commands first_fault missing entry_called options guid_of
a_bad_seed = refl

no_path_may_be_empty : line_of (codes "plan" ∷ codes "--definitions=a::b" ∷ codes "image" ∷ []) ≡ Err (BadValue 1 Definitions)
unfolding command_of commands first_fault missing entry_called options
no_path_may_be_empty = refl

too_large_a_size : line_of (codes "plan" ∷ codes "--size=17T" ∷ codes "image" ∷ []) ≡ Err (BadValue 1 Size)
unfolding command_of commands first_fault missing entry_called options size_of
too_large_a_size = refl

-- values that the words give, and others by default
words_of_plan : List (List ℕ)
words_of_plan = codes "--size=1048575" ∷ codes "--definitions=a:b" ∷ codes "--arch=arm64" ∷ codes "--empty=allow" ∷ codes "image" ∷ []

a_size_is_rounded_up : size_of_words words_of_plan ≡ 1048576
unfolding words_of_plan entry_called options size_of
a_size_is_rounded_up = refl

an_architecture : arch_in words_of_plan ≡ Arm64
unfolding words_of_plan entry_called options
an_architecture = refl

an_image_without_a_table : empty_in words_of_plan ≡ Allow
unfolding words_of_plan entry_called options
an_image_without_a_table = refl

its_folders : paths_of (text_in Definitions words_of_plan) ≡ codes "a" ∷ codes "b" ∷ []
unfolding words_of_plan entry_called entry_of options
its_folders = refl

no_size_by_default : size_of_words (codes "image" ∷ []) ≡ 0
unfolding entry_called options size_of
no_size_by_default = refl

-- what `check` takes, and what it doesn't
no_seed_to_check : line_of (codes "check" ∷ codes "--sector-size=4096" ∷ codes "--arch=arm64" ∷ codes "--definitions=a" ∷ codes "image" ∷ [])
    ≡ Err (Missing Seed)
unfolding command_of commands first_fault missing entry_called options
no_seed_to_check = refl

no_size_to_check : line_of (codes "check" ∷ codes "--size=0" ∷ codes "image" ∷ []) ≡ Err (OtherCommand 1)
unfolding command_of commands first_fault missing entry_called options
no_size_to_check = refl

no_blank_to_check : line_of (codes "check" ∷ codes "--empty=allow" ∷ codes "image" ∷ []) ≡ Err (OtherCommand 1)
unfolding command_of commands first_fault missing entry_called options
no_blank_to_check = refl

no_json_of_a_difference : line_of (codes "check" ∷ codes "--json=off" ∷ codes "image" ∷ []) ≡ Err (OtherCommand 1)
unfolding command_of commands first_fault missing entry_called options
no_json_of_a_difference = refl

-- what the commands on policies want
an_image_for_an_architecture : line_of (codes "dissect" ∷ codes "--json=short" ∷ codes "--arch=arm64" ∷ codes "image" ∷ [])
    ≡ Ok (line Dissect Arm64 true 512)
unfolding command_of commands first_fault missing entry_called options guid_of size_of
an_image_for_an_architecture = refl

two_policies : line_of (codes "compare" ∷ codes "--against=*" ∷ codes "--policy=" ∷ []) ≡ Ok (line Compare X86_64 false 512)
unfolding command_of commands first_fault missing entry_called options guid_of size_of
two_policies = refl

without_a_policy : line_of (codes "policy" ∷ []) ≡ Err (Missing Policy)
unfolding command_of commands first_fault missing entry_called options
without_a_policy = refl

without_a_second_policy : line_of (codes "compare" ∷ codes "--policy=-" ∷ []) ≡ Err (Missing Against)
unfolding command_of commands first_fault missing entry_called options
without_a_second_policy = refl

no_image_of_a_policy : line_of (codes "policy" ∷ codes "--policy=-" ∷ codes "image" ∷ []) ≡ Err (NotOption 2)
unfolding command_of commands first_fault missing entry_called options
no_image_of_a_policy = refl

no_policy_of_a_table : line_of (codes "show" ∷ codes "--policy=-" ∷ codes "image" ∷ []) ≡ Err (OtherCommand 1)
unfolding command_of commands first_fault missing entry_called options
no_policy_of_a_table = refl

a_policy : text_in Policy (codes "--policy=root=verity" ∷ codes "image" ∷ []) ≡ codes "root=verity"
unfolding entry_called entry_of options
a_policy = refl

a_policy_by_default : text_in Policy (codes "image" ∷ []) ≡ codes "*"
unfolding entry_called entry_of options
a_policy_by_default = refl

-- what `--help` prints of a command, and of an option
command_in_help : List ℕ → List ℕ
command_in_help name = option_map_or command_text (first_of (λ (entry : CommandEntry). if bytes_eq entry.0 name then Some entry else None) commands) []

help_on_show : command_in_help (codes "show")
    ≡ codes "repart show prints the table of an image:\n\n    repart show\n        [--json=off|short]\n        [--sector-size=512|4096]\n        IMAGE\n\n"
unfolding command_in_help commands command_text options
help_on_show = refl

help_on_compare : command_in_help (codes "compare")
    ≡ codes "repart compare tells whether a policy allows what another denies:\n\n    repart compare\n        --policy=POLICY\n        --against=POLICY\n\n"
unfolding command_in_help commands command_text options
help_on_compare = refl

help_on_check : command_in_help (codes "check")
    ≡ codes "repart check tells whether table and hash trees are as apply leaves them:\n\n    repart check\n        --definitions=FOLDER[:FOLDER...]\n"
    ++ codes "        --seed=UUID\n        [--arch=x86-64|arm64]\n        [--sector-size=512|4096]\n        IMAGE\n\n"
unfolding command_in_help commands command_text options
help_on_check = refl

help_on_an_option : option_map_or option_text (entry_called (codes "json")) []
    ≡ codes "    --json=off|short\n        lines of text, or one line of JSON; off if not given\n"
unfolding option_text options entry_called
help_on_an_option = refl
