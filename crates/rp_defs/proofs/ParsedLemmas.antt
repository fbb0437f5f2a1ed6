-- A file that was parsed: its names differ, and it has at most as many assignments as bytes.
use Rattle.std.proofs.Common.{◌≡◌, ℕ, zero, suc, ◌+◌, ◌≤◌, List, [], ◌∷◌, ◌++◌, Bool, true, false, cond, not, ◌&&◌, ◌||◌, None, Result, Ok}
use Rattle.std.proofs.Common.{Err, length, take, drop, subst, inl, inr, refl, ap, sym, ◌∙◌, arith}
use Rattle.std.specs.Prelude.{sum_by, ◌==◌}
use Rattle.std.specs.List.{list_any, onto_first}
use Rattle.std.specs.Str.{bytes_eq, is_utf8}
use Rattle.std.specs.Str.Lossy.{utf8_valid_len}
use Rattle.std.specs.Str.Lines.{strip_carriage_return}
use Rattle.std.proofs.lemmas.Bool.{and_parts, not-true, or_parts}
use Rattle.std.proofs.lemmas.List.{map-append, length-drop, length_push}
use Rattle.std.proofs.lemmas.List.Sums.{sum_by-cons, sum_by_push}
use Rattle.rp_base.specs.Answers.{Gives}
use Rattle.rp_ini.specs.declared.assign.Assign.{Assign}
use Rattle.rp_ini.specs.declared.fault.IniFault.{IniFault}
use Rattle.rp_ini.specs.declared.fault.IniFault.TheVariants.{NotUtf8, Memory}
use Rattle.rp_ini.specs.Text.{Line, lines_of, kept_lines, logical_lines, trim_start, is_comment, continues, joined, opened}
use Rattle.rp_ini.specs.Lines.{Section, Entry, Nothing, Header, Assignment, is_named, entry_of, without_mark, line_at, assignments}
use Rattle.rp_ini.specs.Parser.{Progress, with_assign, open_place, assigned, after_entry, after_read, after_line, after_lines}
use Rattle.rp_ini.proofs.ParserLemmas.{parsed_lines}
use Rattle.rp_ini.proofs.FileLemmas.{list_any-map}
use Rattle.rp_defs.specs.Counting.{differ, IsParsed}
use Rattle.rp_defs.proofs.IgnoredLemmas.{names_of, other_name}

-- how many assignments sections have
abbrev pub count_of : List Section → ℕ
count_of sections = sum_by (λ (section : Section). length section.assigns) sections

-- sections of names that differ, with at most so many assignments
record IsKept (most : ℕ) (sections : List Section) : Type 0 where
  apart : differ (names_of sections) ≡ true
  few : count_of sections ≤ most

new_name : (name other : List ℕ) (others : List (List ℕ)) → list_any (bytes_eq other) others ≡ false → bytes_eq name other ≡ false
    → list_any (bytes_eq other) (others ++ name ∷ []) ≡ false
new_name name other [] h apart = ap (λ b. b || false) (other_name name other apart)
new_name name other (next ∷ others) h apart =
    let parts = or_parts _ _ h in ap (λ b. b || list_any (bytes_eq other) (others ++ name ∷ [])) parts.0
    ∙ new_name name other others parts.1 apart

differ-push : (name : List ℕ) (names : List (List ℕ)) → differ names ≡ true → list_any (bytes_eq name) names ≡ false
    → differ (names ++ name ∷ []) ≡ true
differ-push name [] apart new = refl
differ-push name (next ∷ names) apart new =
    let parts = and_parts _ _ apart in let news = or_parts _ _ new in
    ap (λ b. not b && differ (names ++ name ∷ [])) (new_name name next names (not-true _ parts.0) news.0)
    ∙ differ-push name names parts.1 news.1

section_keeps : (b : Bool) (most : ℕ) (name : List ℕ) (sections : List Section) → list_any (bytes_eq name) (names_of sections) ≡ b
    → IsKept most sections
    → IsKept (most + 1) (cond b sections (sections ++ record { name = name; assigns = [] } ∷ []))
section_keeps true most name sections is h = record { apart = h.apart; few = let few = h.few in omega arith }
section_keeps false most name sections is h = record {
  apart = ap differ (map-append (λ (s : Section). s.name) sections (record { name = name; assigns = [] } ∷ []))
      ∙ differ-push name (names_of sections) h.apart is;
  few = let few = h.few in let more =
      sum_by_push (λ (s : Section). length s.assigns) sections (record { name = name; assigns = [] }) in omega arith;
}

progress_sections : (most : ℕ) (a b : Progress) → IsKept most a.sections → ◌≡◌ {A = Result Progress IniFault} (Ok a) (Ok b)
    → IsKept most b.sections
progress_sections most a b h is = let same : a ≡ b = cc in subst (λ (p : Progress). IsKept most p.sections) same h

names-with_assign : (place : ℕ) (assign : Assign) (sections : List Section)
    → names_of (with_assign place assign sections) ≡ names_of sections
names-with_assign place assign [] = refl
names-with_assign zero assign (section ∷ sections) = refl
names-with_assign (suc place) assign (section ∷ sections) = ap (λ names. section.name ∷ names) (names-with_assign place assign sections)

count-with_assign : (place : ℕ) (assign : Assign) (sections : List Section)
    → count_of (with_assign place assign sections) ≤ count_of sections + 1
count-with_assign place assign [] = omega arith
count-with_assign zero assign (section ∷ sections) =
    let before = sum_by-cons (λ (s : Section). length s.assigns) section sections in
    let now = sum_by-cons (λ (s : Section). length s.assigns)
    (record { name = section.name; assigns = section.assigns ++ assign ∷ [] }) sections in
    let more = length_push section.assigns assign in omega (arith, before, now, more)
count-with_assign (suc place) assign (section ∷ sections) =
    let before = sum_by-cons (λ (s : Section). length s.assigns) section sections in
    let now = sum_by-cons (λ (s : Section). length s.assigns) section (with_assign place assign sections) in
    let rest = count-with_assign place assign sections in omega (arith, before, now, rest)

assigned_keeps : (most : ℕ) (sections : List Section) (next : Progress) (assign : Assign) (place : Result ℕ IniFault) → IsKept most sections
    → assigned sections assign place ≡ Ok next → IsKept (most + 1) next.sections
assigned_keeps most sections next assign (Err fault) h is = absurd (cc)
assigned_keeps most sections next assign (Ok place) h is =
    progress_sections (most + 1) _ next
    (record {
      apart = ap differ (names-with_assign place assign sections) ∙ h.apart;
      few = let few = h.few in let more = count-with_assign place assign sections in omega arith;
    }) is

entry_keeps : (most : ℕ) (progress next : Progress) (number : ℕ) (entry : Entry) → IsKept most progress.sections
    → after_entry progress number entry ≡ Ok next → IsKept (most + 1) next.sections
entry_keeps most progress next number Nothing h is =
    progress_sections (most + 1) progress next (record { apart = h.apart; few = let few = h.few in omega arith }) is
entry_keeps most progress next number (Header name) h is =
    progress_sections (most + 1) _ next
    (section_keeps (list_any (is_named name) progress.sections) most name progress.sections
    (list_any-map (λ (s : Section). s.name) (bytes_eq name) progress.sections) h) is
entry_keeps most progress next number (Assignment key value) h is =
    assigned_keeps most progress.sections next (record { key = key; value = value; line = number })
    (open_place number progress.current) h is

read_keeps : (most : ℕ) (progress next : Progress) (number : ℕ) (read : Result Entry IniFault) → IsKept most progress.sections
    → after_read progress number read ≡ Ok next → IsKept (most + 1) next.sections
read_keeps most progress next number (Err fault) h is = absurd (cc)
read_keeps most progress next number (Ok entry) h is = entry_keeps most progress next number entry h is

after_step : (r : Result Progress IniFault) (lines : List Line) (sections : List Section) (P : Type 0) → after_lines r lines ≡ Ok sections
    → ((next : Progress) → r ≡ Ok next → after_lines (Ok next) lines ≡ Ok sections → P) → P
after_step (Err fault) lines sections P is then = absurd (cc)
after_step (Ok next) lines sections P is then = then next refl is

lines_keep : (most : ℕ) (progress : Progress) (lines : List Line) (sections : List Section) → IsKept most progress.sections
    → after_lines (Ok progress) lines ≡ Ok sections → IsKept (most + length lines) sections
lines_keep most progress [] sections h is =
    let same : progress.sections ≡ sections =
    cc in subst (IsKept (most + 0)) same (record { apart = h.apart; few = let few = h.few in omega arith })
lines_keep most progress (line ∷ lines) sections h is =
    let size : most + 1 + length lines ≡ most + suc (length lines) = omega arith in
    after_step (after_line progress line) lines sections (IsKept (most + suc (length lines)) sections) is
    (λ next one rest. subst (λ n. IsKept n sections) size
    (lines_keep (most + 1) next lines sections (read_keeps most progress next line.number (entry_of line) h one) rest))

length-joined : (number : ℕ) (text : List ℕ) (lines : List Line) → length (joined number text lines) ≤ suc (length lines)
length-joined number text [] = omega arith
length-joined number text (line ∷ lines) = omega arith

longer : (b : Bool) (first second : List Line) (n : ℕ) → length first ≤ n → length second ≤ n → length (cond b first second) ≤ n
longer true first second n f s = f
longer false first second n f s = s

length-logical_lines : (lines : List Line) → length (logical_lines lines) ≤ length lines
length-logical_lines [] = omega arith
length-logical_lines (line ∷ lines) =
    let rest = length-logical_lines lines in let first = length-joined line.number (opened line.text) (logical_lines lines) in
    longer (continues line.text) (joined line.number (opened line.text) (logical_lines lines)) (line ∷ logical_lines lines) _ (omega arith)
    (omega arith)

length-kept_lines : (number : ℕ) (lines : List (List ℕ)) → length (kept_lines number lines) ≤ length lines
length-kept_lines number [] = omega arith
length-kept_lines number (line ∷ lines) =
    let rest = length-kept_lines (number + 1) lines in let text = trim_start (strip_carriage_return line) in
    longer (is_comment text) (kept_lines (number + 1) lines) (record { number = number; text = text } ∷ kept_lines (number + 1) lines) _
    (omega arith) (omega arith)

length-onto_first : (byte : ℕ) (lines : List (List ℕ)) → length (onto_first byte lines) ≤ suc (length lines)
length-onto_first byte [] = omega arith
length-onto_first byte (line ∷ lines) = omega arith

shorter : (b : Bool) (first second : List (List ℕ)) (n : ℕ) → length first ≤ n → length second ≤ n → length (cond b first second) ≤ n
shorter true first second n f s = f
shorter false first second n f s = s

length-lines_of : (bytes : List ℕ) → length (lines_of bytes) ≤ length bytes
length-lines_of [] = omega arith
length-lines_of (byte ∷ bytes) =
    let rest = length-lines_of bytes in let first = length-onto_first byte (lines_of bytes) in
    shorter (byte == 10) ([] ∷ lines_of bytes) (onto_first byte (lines_of bytes)) _ (omega arith) (omega arith)

marked : (b : Bool) (bytes : List ℕ) → length (cond b (drop 3 bytes) bytes) ≤ length bytes
marked true bytes = let less = length-drop 3 bytes in omega (arith, less)
marked false bytes = omega arith

-- at most as many logical lines as bytes
length-lines : (bytes : List ℕ) → length (logical_lines (kept_lines 1 (lines_of (without_mark bytes)))) ≤ length bytes
length-lines bytes =
    let a = length-logical_lines (kept_lines 1 (lines_of (without_mark bytes))) in let b =
    length-kept_lines 1 (lines_of (without_mark bytes)) in
    let c = length-lines_of (without_mark bytes) in let d = marked (bytes_eq (take 3 bytes) (0xEF ∷ 0xBB ∷ 0xBF ∷ [])) bytes in
    omega arith

parsed_text : (b : Bool) (fault : IniFault) (r : Result (List Section) IniFault) (sections : List Section)
    → cond b r (Err fault) ≡ Ok sections → r ≡ Ok sections
parsed_text true fault r sections is = is
parsed_text false fault r sections is = absurd (cc)

parsed : (bytes : List ℕ) (sections : List Section) → length bytes ≤ 65536 → assignments bytes ≡ Ok sections → IsParsed sections
parsed bytes sections short is =
    let kept = lines_keep 0 (record { sections = []; current = None })
    (logical_lines (kept_lines 1 (lines_of (without_mark bytes)))) sections
    (record { apart = refl; few = omega arith })
    (parsed_lines (logical_lines (kept_lines 1 (lines_of (without_mark bytes))))
    ∙ parsed_text (is_utf8 bytes) (NotUtf8 (line_at bytes (utf8_valid_len bytes))) _ sections is) in
    let few = kept.few in let lines = length-lines bytes in
    record { apart = kept.apart; few = omega arith }

-- what a parser gives of a piece's bytes
pub parsed_by : (bytes given : List ℕ) (sections : List Section) → length bytes ≤ 65536 → given ≡ bytes
    → Gives Memory (assignments given) (Ok sections) → IsParsed sections
parsed_by bytes given sections short same (inl is) = parsed bytes sections short (ap assignments (sym same) ∙ sym is)
parsed_by bytes given sections short same (inr is) = absurd (cc)
