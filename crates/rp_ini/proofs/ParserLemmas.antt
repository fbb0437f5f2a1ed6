-- The parser's sections after all lines are the parts as they are written, merged.
use Rattle.std.proofs.Common.{◌≡◌, ℕ, suc, ◌+◌, List, [], ◌∷◌, ◌++◌, Bool, true, false, cond, not, ◌||◌, Option, Some, None, Result, Ok, Err, refl, ap, sym, subst, ◌∙◌, arith}
use Rattle.std.specs.List.{list_any}
use Rattle.std.specs.Str.{bytes_eq, is_utf8}
use Rattle.std.specs.Str.Lossy.{utf8_valid_len}
use Rattle.rp_base.specs.Answers.{Gives}
use Rattle.std.proofs.lemmas.List.{append-nil}
use Rattle.rp_ini.specs.declared.assign.Assign.{Assign}
use Rattle.rp_ini.specs.declared.fault.IniFault.{IniFault}
use Rattle.rp_ini.specs.declared.fault.IniFault.TheVariants.{NotUtf8, Memory}
use Rattle.rp_ini.specs.Text.{Line, lines_of, kept_lines, logical_lines}
use Rattle.rp_ini.specs.Lines.{Section, Entry, Nothing, Header, Assignment, entry_of, with_first, written_by, written, is_named, with_part, merged, without_mark, line_at, assignments}
use Rattle.rp_ini.specs.Parser.{Progress, with_section, place_of, with_assign, open_place, assigned, after_read, after_lines}
use Rattle.rp_ini.proofs.LineLemmas.{same_bytes}

module _ (name : List ℕ) where
  more_place : (part section : Section) (sections rest : List Section) (b : Bool) → bytes_eq name section.name ≡ b → place_of name rest ≡ place_of name sections
      → place_of name (cond b (record { name = section.name; assigns = section.assigns ++ part.assigns } ∷ sections) (section ∷ rest)) ≡ place_of name (section ∷ sections)
  more_place part section sections rest true same then = refl
  more_place part section sections rest false same then = ap (λ n. cond (not (bytes_eq name section.name)) (1 + n) 0) then

  place-part : (part : Section) (sections : List Section) → part.name ≡ name → place_of name (with_part sections part) ≡ place_of name sections
  place-part part [] is = ap (λ b. cond (not b) 1 0) (ap (bytes_eq name) is ∙ same_bytes name)
  place-part part (section ∷ sections) is =
      more_place part section sections (with_part sections part) (bytes_eq part.name section.name) (ap (λ n. bytes_eq n section.name) (sym is)) (place-part part sections is)

  more_there : (part section : Section) (sections rest : List Section) (b : Bool) → bytes_eq name section.name ≡ b → list_any (is_named name) rest ≡ true
      → list_any (is_named name) (cond b (record { name = section.name; assigns = section.assigns ++ part.assigns } ∷ sections) (section ∷ rest)) ≡ true
  more_there part section sections rest true same then = ap (λ t. t || list_any (is_named name) sections) same
  more_there part section sections rest false same then = ap (λ t. t || list_any (is_named name) rest) same ∙ then

  there-part : (part : Section) (sections : List Section) → part.name ≡ name → list_any (is_named name) (with_part sections part) ≡ true
  there-part part [] is = ap (λ b. b || false) (ap (bytes_eq name) is ∙ same_bytes name)
  there-part part (section ∷ sections) is =
      more_there part section sections (with_part sections part) (bytes_eq part.name section.name) (ap (λ n. bytes_eq n section.name) (sym is)) (there-part part sections is)

  kept_first : (b : Bool) (section : Section) (xs ys : List Section) → cond b (section ∷ xs) (section ∷ ys) ≡ section ∷ cond b xs ys
  kept_first true section xs ys = refl
  kept_first false section xs ys = refl

  more_section : (section : Section) (sections rest : List Section) (b : Bool) → with_section name sections ≡ rest
      → cond (b || list_any (is_named name) sections) (section ∷ sections) (section ∷ (sections ++ record { name = name; assigns = [] } ∷ []))
      ≡ cond b (record { name = section.name; assigns = section.assigns ++ [] } ∷ sections) (section ∷ rest)
  more_section section sections rest true then = ap (λ assigns. record { name = section.name; assigns = assigns } ∷ sections) (sym (append-nil section.assigns))
  more_section section sections rest false then =
      kept_first (list_any (is_named name) sections) section sections (sections ++ record { name = name; assigns = [] } ∷ []) ∙ ap (λ ss. section ∷ ss) then

  -- a header opens the section of its name, or a new one
  section-part : (sections : List Section) → with_section name sections ≡ with_part sections (record { name = name; assigns = [] })
  section-part [] = refl
  section-part (section ∷ sections) = more_section section sections (with_part sections (record { name = name; assigns = [] })) (bytes_eq name section.name) (section-part sections)

  more_assign : (assign : Assign) (section : Section) (sections rest : List Section) (b : Bool) → bytes_eq name section.name ≡ b → (b || list_any (is_named name) sections) ≡ true
      → (list_any (is_named name) sections ≡ true → with_assign (place_of name sections) assign sections ≡ rest)
      → with_assign (cond (not b) (1 + place_of name sections) 0) assign (section ∷ sections)
      ≡ cond b (record { name = section.name; assigns = section.assigns ++ assign ∷ [] } ∷ sections) (section ∷ rest)
  more_assign assign section sections rest true is there then = refl
  more_assign assign section sections rest false is there then =
      let next : 1 + place_of name sections ≡ suc (place_of name sections) = omega arith in
      ap (λ n. with_assign n assign (section ∷ sections)) next ∙ ap (λ ss. section ∷ ss) (then there)

  -- an assignment goes to the section that is there
  assign-part : (assign : Assign) (sections : List Section) → list_any (is_named name) sections ≡ true
      → with_assign (place_of name sections) assign sections ≡ with_part sections (record { name = name; assigns = assign ∷ [] })
  assign-part assign [] there = cc
  assign-part assign (section ∷ sections) there =
      more_assign assign section sections (with_part sections (record { name = name; assigns = assign ∷ [] })) (bytes_eq name section.name) refl there (assign-part assign sections)

-- what is open is the section of the nearest header
IsOpen : Option (List ℕ) → Progress → Type 0
IsOpen None progress = progress.current ≡ None
IsOpen (Some name) progress = (progress.current ≡ Some (place_of name progress.sections)) × (list_any (is_named name) progress.sections ≡ true)

merged-first : (sections : List Section) (part : Section) (parts : Result (List Section) IniFault) → merged (with_part sections part) parts ≡ merged sections (with_first part parts)
merged-first sections part (Ok parts) = refl
merged-first sections part (Err fault) = refl

one_line : (header : Option (List ℕ)) (progress : Progress) (number : ℕ) (read : Result Entry IniFault) (lines : List Line) (rest : Option (List ℕ) → Result (List Section) IniFault)
    → IsOpen header progress
    → ((nearest : Option (List ℕ)) (next : Progress) → IsOpen nearest next → after_lines (Ok next) lines ≡ merged next.sections (rest nearest))
    → after_lines (after_read progress number read) lines ≡ merged progress.sections (written_by header number read rest)
unfolding IsOpen
one_line header progress number (Err fault) lines rest is go = refl
one_line header progress number (Ok Nothing) lines rest is go = go header progress is
one_line header progress number (Ok (Header name)) lines rest is go =
    let part : Section = record { name = name; assigns = [] } in
    let same = section-part name progress.sections in
    let next : Progress = record { sections = with_section name progress.sections; current = Some (place_of name progress.sections) } in
    go (Some name) next
    (ap Some (sym (ap (place_of name) same ∙ place-part name part progress.sections refl)), ap (list_any (is_named name)) same ∙ there-part name part progress.sections refl)
    ∙ ap (λ ss. merged ss (rest (Some name))) same ∙ merged-first progress.sections part (rest (Some name))
one_line None progress number (Ok (Assignment key value)) lines rest is go =
    ap (λ place. after_lines (assigned progress.sections (record { key = key; value = value; line = number }) (open_place number place)) lines) is
one_line (Some name) progress number (Ok (Assignment key value)) lines rest is go =
    let assign : Assign = record { key = key; value = value; line = number } in
    let part : Section = record { name = name; assigns = assign ∷ [] } in
    let same = assign-part name assign progress.sections is.1 in
    let next : Progress = record { sections = with_assign (place_of name progress.sections) assign progress.sections; current = Some (place_of name progress.sections) } in
    ap (λ place. after_lines (assigned progress.sections assign (open_place number place)) lines) is.0
    ∙ go (Some name) next
    (ap Some (sym (ap (place_of name) same ∙ place-part name part progress.sections refl)), ap (list_any (is_named name)) same ∙ there-part name part progress.sections refl)
    ∙ ap (λ ss. merged ss (rest (Some name))) same ∙ merged-first progress.sections part (rest (Some name))

all_lines : (lines : List Line) (header : Option (List ℕ)) (progress : Progress) → IsOpen header progress → after_lines (Ok progress) lines ≡ merged progress.sections (written header lines)
all_lines [] header progress is = refl
all_lines (line ∷ lines) header progress is =
    one_line header progress line.number (entry_of line) lines (λ nearest. written nearest lines) is (λ nearest next. all_lines lines nearest next)

pub parsed_lines : (lines : List Line) → after_lines (Ok (record { sections = []; current = None })) lines ≡ merged [] (written None lines)
unfolding IsOpen
parsed_lines lines = all_lines lines None (record { sections = []; current = None }) refl

-- what the lines of a text give is what the definition says of its bytes
pub assigned_by : (bytes text : List ℕ) (lines : List Line) (result : Result (List Section) IniFault) → is_utf8 bytes ≡ true → text ≡ without_mark bytes → lines ≡ kept_lines 1 (lines_of text)
    → Gives Memory (after_lines (Ok (record { sections = []; current = None })) (logical_lines lines)) result → Gives Memory (assignments bytes) result
assigned_by bytes text lines result utf8 mark kept gives =
    subst (λ (a : Result (List Section) IniFault). Gives Memory a result)
    (parsed_lines (logical_lines lines)
    ∙ ap (λ (ls : List Line). merged [] (written None (logical_lines ls))) (kept ∙ ap (λ t. kept_lines 1 (lines_of t)) mark)
    ∙ ap (λ b. cond b (merged [] (written None (logical_lines (kept_lines 1 (lines_of (without_mark bytes)))))) (Err (NotUtf8 (line_at bytes (utf8_valid_len bytes))))) (sym utf8))
    gives
