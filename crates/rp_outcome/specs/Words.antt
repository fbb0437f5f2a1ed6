-- The words of a line.
use Rattle.std.specs.Prelude.{ℕ, List, ◌++◌, ◌==◌, Option, Some, None, codes, filter_map, if◌then◌else◌, length}
use Rattle.std.specs.Fmt.{decimal}
use Rattle.std.specs.List.{flat_map}
use Rattle.hex.specs.Hex.{encode_lower}
use Rattle.rp_outcome.specs.declared.refusal.Word.{Word}
use Rattle.rp_outcome.specs.declared.refusal.Word.TheVariants.{Absent, Text, Number, Piece, Line, Hash}

-- the name of a definition file, or of its drop-in of this name where there is one
abbrev pub piece_text : List ℕ → List ℕ → List ℕ
piece_text file part = if length part == 0 then file else file ++ codes ".d/" ++ part

-- a line of it
abbrev pub line_text : List ℕ → List ℕ → ℕ → List ℕ
line_text file part line = piece_text file part ++ codes ":" ++ decimal line

-- the text of a word that is there
abbrev pub word_text : Word → Option (List ℕ)
word_text Absent = None
word_text (Text text) = Some text.now
word_text (Number number) = Some (decimal number)
word_text (Piece file part) = Some (piece_text file.now part.now)
word_text (Line file part line) = Some (line_text file.now part.now line)
word_text (Hash bytes) = Some (encode_lower bytes.now)

-- a word behind a blank
abbrev pub behind_blank : List ℕ → List ℕ
behind_blank word = codes " " ++ word

-- the texts of the words that are there, each behind a blank
unfoldable pub words_text : List Word → List ℕ
words_text words = flat_map behind_blank (filter_map word_text words)
