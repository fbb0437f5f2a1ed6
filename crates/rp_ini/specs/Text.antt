-- A definition file as logical lines (systemd.syntax(7)).
use Rattle.std.specs.Prelude.{ℕ, ◌+◌, ◌-◌, ◌≡◌, ◌<◌, List, [], ◌∷◌, ◌++◌, Bool, false, Option, Some, None, ◌&&◌, ◌||◌, not, if◌then◌else◌, ◌==◌, take, length, reverse}
use Rattle.std.specs.List.{onto_first}
use Rattle.std.specs.Str.Lines.{strip_carriage_return}

-- white space: a space or a tab
abbrev pub is_blank : ℕ → Bool
is_blank byte = byte == 32 || byte == 9

-- the text without white space in front, at its end, or both
abbrev pub trim_start : List ℕ → List ℕ
trim_start [] = []
trim_start (byte ∷ bytes) = if is_blank byte then trim_start bytes else byte ∷ bytes

abbrev pub trim_end : List ℕ → List ℕ
trim_end text = reverse (trim_start (reverse text))

abbrev pub trim : List ℕ → List ℕ
trim text = trim_end (trim_start text)

-- the text cut at each line feed; a last piece that is empty is no line
abbrev pub lines_of : List ℕ → List (List ℕ)
lines_of [] = []
lines_of (byte ∷ bytes) = if byte == 10 then [] ∷ lines_of bytes else onto_first byte (lines_of bytes)

-- a line that begins with `#` or `;` is a comment
abbrev pub is_comment : List ℕ → Bool
is_comment [] = false
is_comment (byte ∷ bytes) = byte == 35 || byte == 59

-- a line with its number, from 1
pub record Line : Type 0 where
  pub number : ℕ
  pub text : List ℕ

-- the lines that are no comments, numbered from this number on, without a carriage return at the end and white space in front
abbrev pub kept_lines : ℕ → List (List ℕ) → List Line
kept_lines number [] = []
kept_lines number (line ∷ lines) =
    let text = trim_start (strip_carriage_return line) in
    if is_comment text then kept_lines (number + 1) lines else record { number = number; text = text } ∷ kept_lines (number + 1) lines

-- the bytes begin with an odd number of backslashes
abbrev pub has_odd_backslashes : List ℕ → Bool
has_odd_backslashes [] = false
has_odd_backslashes (byte ∷ bytes) = byte == 92 && not (has_odd_backslashes bytes)

-- a line that ends in an odd number of backslashes is continued
abbrev pub continues : List ℕ → Bool
continues text = has_odd_backslashes (reverse text)

-- its last backslash becomes a space
abbrev pub opened : List ℕ → List ℕ
opened text = take (length text - 1) text ++ 32 ∷ []

-- the first of these lines has a text put in front, and the number of the line that it came from
abbrev pub joined : ℕ → List ℕ → List Line → List Line
joined number text [] = record { number = number; text = text } ∷ []
joined number text (line ∷ lines) = record { number = number; text = text ++ line.text } ∷ lines

-- the logical lines: a continued line and the next one are one, to the end of the text at most
abbrev pub logical_lines : List Line → List Line
logical_lines [] = []
logical_lines (line ∷ lines) =
    if continues line.text then joined line.number (opened line.text) (logical_lines lines) else line ∷ logical_lines lines

-- the next of the logical lines, if there is one, and the lines left
abbrev pub IsNext : List Line → List Line → Option ℕ → List ℕ → Type 0
IsNext before now None text = logical_lines before ≡ []
IsNext before now (Some number) text = (logical_lines before ≡ record { number = number; text = text } ∷ logical_lines now)
    × (length now < length before)
