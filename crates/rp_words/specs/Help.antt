-- What `--help` prints: each command, and each option (own).
use Rattle.std.specs.Prelude.{ℕ, List, [], ◌++◌, Bool, ◌==◌, if◌then◌else◌, codes, length}
use Rattle.std.specs.List.{flat_map}
use Rattle.rp_words.specs.declared.help.TheConstants.{HEAD, MIDDLE, TAIL}
use Rattle.rp_words.specs.declared.table.Command.{Command}
use Rattle.rp_words.specs.declared.table.Use.{Use}
use Rattle.rp_words.specs.declared.table.Use.TheVariants.{Never, May, Must}
use Rattle.rp_words.specs.Faults.{use_by}
use Rattle.rp_words.specs.Table.{CommandEntry, Entry, commands, options}

-- an option as it is written
abbrev pub written : Entry → List ℕ
written entry = codes "--" ++ entry.0 ++ codes "=" ++ entry.2

-- an option that a command has, on a line; in brackets where it may be left out
abbrev pub usage_by : Use → Entry → List ℕ
usage_by Never entry = []
usage_by May entry = codes "\n        [" ++ written entry ++ codes "]"
usage_by Must entry = codes "\n        " ++ written entry

abbrev pub usage : Command → Entry → List ℕ
usage command entry = usage_by (use_by entry.3 command) entry

-- the end of how a command is written
abbrev pub end_text : Bool → List ℕ
end_text image = if image then codes "\n        IMAGE\n\n" else codes "\n\n"

-- what a command does, and how it is written
unfoldable pub command_text : CommandEntry → List ℕ
command_text entry =
    codes "repart " ++ entry.0 ++ codes " " ++ entry.2 ++ codes ":\n\n    repart " ++ entry.0
    ++ flat_map (usage entry.1.command) options ++ end_text entry.1.image

-- the value that stands where an option isn't given
abbrev pub default_text : List ℕ → List ℕ
default_text default = if length default == 0 then [] else codes "; " ++ default ++ codes " if not given"

-- how an option is written, and what it means
unfoldable pub option_text : Entry → List ℕ
option_text entry = codes "    " ++ written entry ++ codes "\n        " ++ entry.4 ++ default_text entry.1 ++ codes "\n"

-- the whole
unfoldable pub help : List ℕ
help = HEAD.now ++ flat_map command_text commands ++ MIDDLE.now ++ flat_map option_text options ++ TAIL.now
