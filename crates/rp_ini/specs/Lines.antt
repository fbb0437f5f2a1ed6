-- What the logical lines of a definition file assign (systemd.syntax(7)).
use Rattle.std.specs.Prelude.{ℕ, ◌+◌, ◌-◌, List, [], ◌∷◌, ◌++◌, Bool, ◌&&◌, ◌||◌, not, if◌then◌else◌, ◌==◌, nat_lt, Option, Some, None, Result, Ok, Err, take, drop, fold, length, count_by}
use Rattle.std.specs.List.{list_any, before_first, after_first}
use Rattle.std.specs.Str.{bytes_eq, is_utf8}
use Rattle.std.specs.Str.Lossy.{utf8_valid_len}
use Rattle.rp_ini.specs.declared.fault.IniFault.{IniFault}
use Rattle.rp_ini.specs.declared.fault.IniFault.TheVariants.{NotUtf8, TooLong, BadLine, NoSection}
use Rattle.rp_ini.specs.declared.assign.Assign.{Assign}
use Rattle.rp_ini.specs.Text.{Line, lines_of, kept_lines, logical_lines, trim, trim_end}

-- a section: its name, and assignments that stand in it
pub record Section : Type 0 where
  pub name : List ℕ
  pub assigns : List Assign

-- the name of a section isn't empty and has no brackets
abbrev pub is_section_name : List ℕ → Bool
is_section_name name = not (length name == 0) && not (list_any (λ byte. byte == 91 || byte == 93) name)

-- the name in `[name]`
abbrev pub header_of : List ℕ → Option (List ℕ)
header_of text =
    let name = take (length text - 2) (drop 1 text) in
    if bytes_eq text (91 ∷ name ++ 93 ∷ []) && is_section_name name then Some name else None

-- the key and the value of `key=value`, cut at the first `=`, both without white space around; the key isn't empty
abbrev pub assignment_of : List ℕ → Option (List ℕ × List ℕ)
assignment_of text =
    let key = trim (before_first (λ byte. byte == 61) text) in
    if list_any (λ byte. byte == 61) text && not (length key == 0) then Some (key, trim (after_first (λ byte. byte == 61) text)) else None

-- what a logical line says: nothing, the header of a section, or an assignment of a key and a value
pub data Entry : Type 0 where
  Nothing : Entry
  Header : List ℕ → Entry
  Assignment : List ℕ → List ℕ → Entry

abbrev pub header_entry : ℕ → Option (List ℕ) → Result Entry IniFault
header_entry number None = Err (BadLine number)
header_entry number (Some name) = Ok (Header name)

abbrev pub assignment_entry : ℕ → Option (List ℕ × List ℕ) → Result Entry IniFault
assignment_entry number None = Err (BadLine number)
assignment_entry number (Some pair) = Ok (Assignment pair.0 pair.1)

-- a line that begins with `[` is a header, and any other that isn't empty is an assignment
abbrev pub entry_in : ℕ → List ℕ → Result Entry IniFault
entry_in number [] = Ok Nothing
entry_in number (byte ∷ bytes) = if byte == 91 then header_entry number (header_of (byte ∷ bytes))
    else assignment_entry number (assignment_of (byte ∷ bytes))

-- what a logical line of at most 4,096 bytes says without the white space at its end, or its fault
abbrev pub entry_of : Line → Result Entry IniFault
entry_of line = if nat_lt 4096 (length line.text) then Err (TooLong line.number) else entry_in line.number (trim_end line.text)

-- a section and those behind it, or their fault
abbrev pub with_first : Section → Result (List Section) IniFault → Result (List Section) IniFault
with_first section (Ok sections) = Ok (section ∷ sections)
with_first section (Err fault) = Err fault

-- an entry gives a section without assignments, or one with one: that of the nearest header above. `rest` gives those behind
abbrev pub written_by : Option (List ℕ) → ℕ → Result Entry IniFault → (Option (List ℕ) → Result (List Section) IniFault)
    → Result (List Section) IniFault
written_by header number (Err fault) rest = Err fault
written_by header number (Ok Nothing) rest = rest header
written_by header number (Ok (Header name)) rest = with_first (record { name = name; assigns = [] }) (rest (Some name))
written_by None number (Ok (Assignment key value)) rest = Err (NoSection number)
written_by (Some name) number (Ok (Assignment key value)) rest =
    with_first (record { name = name; assigns = record { key = key; value = value; line = number } ∷ [] }) (rest (Some name))

-- the sections as they are written, part by part, or the first fault by line. The nearest header above these lines is given
abbrev pub written : Option (List ℕ) → List Line → Result (List Section) IniFault
written header [] = Ok []
written header (line ∷ lines) = written_by header line.number (entry_of line) (λ nearest. written nearest lines)

-- the test for a section of this name
abbrev pub is_named : List ℕ → Section → Bool
is_named name section = bytes_eq name section.name

-- the sections with a part of one: it goes to the section of its name, or is a new one behind the others
abbrev pub with_part : List Section → Section → List Section
with_part [] part = part ∷ []
with_part (section ∷ sections) part =
    if is_named part.name section then record { name = section.name; assigns = section.assigns ++ part.assigns } ∷ sections
    else section ∷ with_part sections part

-- behind these sections, the parts by section: all of one name are one, in order of first appearance
abbrev pub merged : List Section → Result (List Section) IniFault → Result (List Section) IniFault
merged sections (Ok parts) = Ok (fold with_part sections parts)
merged sections (Err fault) = Err fault

-- the text without a byte order mark at its front
abbrev pub without_mark : List ℕ → List ℕ
without_mark bytes = if bytes_eq (take 3 bytes) (0xEF ∷ 0xBB ∷ 0xBF ∷ []) then drop 3 bytes else bytes

-- the number of the line that has the byte at this place
abbrev pub line_at : List ℕ → ℕ → ℕ
line_at bytes place = count_by (λ byte. byte == 10) (take place bytes) + 1

-- the assignments of a definition file by section, or its first fault: that it isn't UTF-8 comes before all else
abbrev pub assignments : List ℕ → Result (List Section) IniFault
assignments bytes =
    if is_utf8 bytes then merged [] (written None (logical_lines (kept_lines 1 (lines_of (without_mark bytes)))))
    else Err (NotUtf8 (line_at bytes (utf8_valid_len bytes)))

-- the assignments of a section, none where there is no such section
abbrev pub assigns_of : List Section → List ℕ → List Assign
assigns_of [] name = []
assigns_of (section ∷ sections) name = if is_named name section then section.assigns else assigns_of sections name
