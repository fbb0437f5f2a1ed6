-- What is said of words that aren't canonical: the word, what is wrong with it, and how the option's values are written (own).
use Rattle.std.specs.Prelude.{ℕ, List, [], codes, Option, Some, None, Result, Ok, Err, slice_index_or}
use Rattle.rp_words.specs.declared.line.Line.{Line}
use Rattle.rp_words.specs.declared.fault.WordFault.{WordFault}
use Rattle.rp_words.specs.declared.fault.WordFault.TheVariants.{NoCommand, UnknownCommand, NotOption, UnknownOption, OtherCommand, Twice, BadValue, Missing, NoImage}
use Rattle.rp_words.specs.Entry.{form_text, name_text}
use Rattle.rp_words.specs.Line.{line_of}

-- the word that is wrong, or the option that is missing
abbrev pub wrong_word : List (List ℕ) → WordFault → List ℕ
wrong_word words NoCommand = []
wrong_word words UnknownCommand = slice_index_or words 0 []
wrong_word words (NotOption place) = slice_index_or words place []
wrong_word words (UnknownOption place) = slice_index_or words place []
wrong_word words (OtherCommand place) = slice_index_or words place []
wrong_word words (Twice place) = slice_index_or words place []
wrong_word words (BadValue place option) = slice_index_or words place []
wrong_word words (Missing option) = name_text option
wrong_word words NoImage = []

-- why
abbrev pub reason_of : WordFault → List ℕ
reason_of NoCommand = codes "no command is given"
reason_of UnknownCommand = codes "no such command"
reason_of (NotOption place) = codes "not an option, which is written --NAME=VALUE"
reason_of (UnknownOption place) = codes "no such option"
reason_of (OtherCommand place) = codes "not an option of this command"
reason_of (Twice place) = codes "the option is given twice"
reason_of (BadValue place option) = codes "not a value of this option, which takes"
reason_of (Missing option) = codes "this option has to be given, with"
reason_of NoImage = codes "no image is given, as the last word"

-- how the values of the option are written
abbrev pub values_of : WordFault → List ℕ
values_of NoCommand = []
values_of UnknownCommand = []
values_of (NotOption place) = []
values_of (UnknownOption place) = []
values_of (OtherCommand place) = []
values_of (Twice place) = []
values_of (BadValue place option) = form_text option
values_of (Missing option) = form_text option
values_of NoImage = []

-- the word, the reason and the values for these words, none exactly where they are canonical
abbrev pub hint_by : List (List ℕ) → Result Line WordFault → Option (List ℕ × List ℕ × List ℕ)
hint_by words (Ok line) = None
hint_by words (Err fault) = Some (wrong_word words fault, reason_of fault, values_of fault)

abbrev pub hint_of : List (List ℕ) → Option (List ℕ × List ℕ × List ℕ)
hint_of words = hint_by words (line_of words)
