-- What the parser has after some lines, and what one more does. `rp_ini.proofs.ParserLemmas` ties it to `assignments`.
use Rattle.std.specs.Prelude.{ℕ, zero, suc, List, [], ◌∷◌, ◌++◌, if◌then◌else◌, Option, Some, None, Result, Ok, Err}
use Rattle.std.specs.List.{list_any, position_or_len}
use Rattle.rp_ini.specs.declared.fault.IniFault.{IniFault}
use Rattle.rp_ini.specs.declared.fault.IniFault.TheVariants.{NoSection}
use Rattle.rp_ini.specs.declared.assign.Assign.{Assign}
use Rattle.rp_ini.specs.declared.entry.Said.{Said}
use Rattle.rp_ini.specs.declared.entry.Said.TheVariants as said
use Rattle.rp_ini.specs.Text.{Line}
use Rattle.rp_ini.specs.Lines.{Section, Entry, Nothing, Header, Assignment, is_named, entry_of}

-- an entry by its bytes
abbrev pub entry : Said → Entry
entry said.Nothing = Nothing
entry (said.Header name) = Header name.now
entry (said.Assignment key value) = Assignment key.now value.now

abbrev pub entry_read : Result Said IniFault → Result Entry IniFault
entry_read (Ok read) = Ok (entry read)
entry_read (Err fault) = Err fault

-- the sections so far, in order of first appearance, and the place of the one that is open
pub record Progress : Type 0 where
  pub sections : List Section
  pub current : Option ℕ

-- the sections with one of this name, and its place: a new one goes last
abbrev pub with_section : List ℕ → List Section → List Section
with_section name sections = if list_any (is_named name) sections then sections else sections ++ record { name = name; assigns = [] } ∷ []

abbrev pub place_of : List ℕ → List Section → ℕ
place_of name sections = position_or_len (is_named name) sections

-- the section at a place has one more assignment
abbrev pub with_assign : ℕ → Assign → List Section → List Section
with_assign place assign [] = []
with_assign zero assign (section ∷ sections) = record { name = section.name; assigns = section.assigns ++ assign ∷ [] } ∷ sections
with_assign (suc place) assign (section ∷ sections) = section ∷ with_assign place assign sections

-- the place of the open section; an assignment needs one
abbrev pub open_place : ℕ → Option ℕ → Result ℕ IniFault
open_place number None = Err (NoSection number)
open_place number (Some place) = Ok place

abbrev pub assigned : List Section → Assign → Result ℕ IniFault → Result Progress IniFault
assigned sections assign (Err fault) = Err fault
assigned sections assign (Ok place) = Ok (record { sections = with_assign place assign sections; current = Some place })

abbrev pub after_entry : Progress → ℕ → Entry → Result Progress IniFault
after_entry progress number Nothing = Ok progress
after_entry progress number (Header name) =
    Ok (record { sections = with_section name progress.sections; current = Some (place_of name progress.sections) })
after_entry progress number (Assignment key value) =
    assigned progress.sections (record { key = key; value = value; line = number }) (open_place number progress.current)

abbrev pub after_read : Progress → ℕ → Result Entry IniFault → Result Progress IniFault
after_read progress number (Err fault) = Err fault
after_read progress number (Ok read) = after_entry progress number read

abbrev pub after_line : Progress → Line → Result Progress IniFault
after_line progress line = after_read progress line.number (entry_of line)

-- the sections after all logical lines, or the first fault
abbrev pub after_lines : Result Progress IniFault → List Line → Result (List Section) IniFault
after_lines (Err fault) lines = Err fault
after_lines (Ok progress) [] = Ok progress.sections
after_lines (Ok progress) (line ∷ lines) = after_lines (after_line progress line) lines
