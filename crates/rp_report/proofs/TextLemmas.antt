-- What is left to write of a text, from an index on.
use Rattle.std.proofs.Common.{ℕ, ◌≡◌, ◌≢◌, ◌<◌, ◌≤◌, ◌+◌, ◌++◌, List, [], ◌∷◌, length, get_or, drop, refl, sym, ◌∙◌, ap, add-one, arith, drop-cons, append_assoc, append-nil, Result, Ok, Err, OnOk, is_ok, if◌then◌else◌}
use Rattle.std.proofs.Math.ListN.{drop_of_length-le}
use Rattle.std.specs.List.{flat_map}
use Rattle.rp_base.specs.declared.table.Row.{Row}
use Rattle.rp_report.specs.Names.{name_text, unit_text}
use Rattle.rp_report.specs.Tables.{row_line}

-- one more piece was written of what was left
pub written_more : (whole old new piece left rest : List ℕ) → new ≡ old ++ piece → left ≡ piece ++ rest → old ++ left ≡ whole → new ++ rest ≡ whole
written_more whole old new piece left rest e f before =
    ap (λ s. s ++ rest) e ∙ (append_assoc old piece rest ∙ (ap (λ s. old ++ s) (sym f) ∙ before))

-- nothing is left
pub written_all : (whole old left : List ℕ) → left ≡ [] → old ++ left ≡ whole → old ≡ whole
written_all whole old left e before = sym (append-nil old) ∙ (ap (λ s. old ++ s) (sym e) ∙ before)

-- a name's text ends at a zero unit
name_text-zero : (rest : List ℕ) → name_text (0 ∷ rest) ≡ []
unfolding name_text
name_text-zero rest = refl

name_text-unit : (unit : ℕ) (rest : List ℕ) → unit ≢ 0 → name_text (unit ∷ rest) ≡ unit_text unit ++ name_text rest
unfolding name_text
name_text-unit unit rest nonzero = grind arith

pub name_text-nil : name_text [] ≡ []
unfolding name_text
name_text-nil = refl

pub name_text-end : (name : List ℕ) (i : ℕ) → i < length name → get_or name i 0 ≡ 0 → name_text (drop i name) ≡ []
name_text-end name i below zero = rw (drop-cons name i 0 below, zero) (name_text-zero _)

pub name_text-more : (name : List ℕ) (i : ℕ) → i < length name → get_or name i 0 ≢ 0
    → name_text (drop i name) ≡ unit_text (get_or name i 0) ++ name_text (drop (i + 1) name)
name_text-more name i below nonzero = rw (drop-cons name i 0 below, add-one) (name_text-unit _ _ nonzero)

pub lines-more : (rows : List Row) (i : ℕ) (d : Row) → i < length rows
    → flat_map row_line (drop i rows) ≡ row_line (get_or rows i d) ++ flat_map row_line (drop (i + 1) rows)
lines-more rows i d below = rw (drop-cons rows i d below, add-one) refl

pub name_text-past : (name : List ℕ) (i : ℕ) → length name ≤ i → name_text (drop i name) ≡ []
name_text-past name i past = rw (drop_of_length-le name past) name_text-nil

pub lines-past : (rows : List Row) (i : ℕ) → length rows ≤ i → flat_map row_line (drop i rows) ≡ []
lines-past rows i past = rw (drop_of_length-le rows past) refl

-- the lines of rows behind a line that was written
pub lines_behind : (old new line : List ℕ) (items rows : List Row) → new ≡ old ++ line → items ≡ rows
    → new ++ flat_map row_line items ≡ old ++ (line ++ flat_map row_line rows)
lines_behind old new line items rows e f =
    ap (λ s. s ++ flat_map row_line items) e
    ∙ (append_assoc old line (flat_map row_line items) ∙ ap (λ rows. old ++ (line ++ flat_map row_line rows)) f)

-- five pieces, one behind the other
pub five_pieces : {E : Type 0} (r : Result (Unit {0}) E) (t t1 t2 t3 t4 n a b c d e : List ℕ) → t1 ≡ t ++ a → t2 ≡ t1 ++ b → t3 ≡ t2 ++ c → t4 ≡ t3 ++ d
    → n ≡ (if is_ok r then t4 ++ e else t4) → OnOk r (n ≡ t ++ (a ++ b ++ c ++ d ++ e))
five_pieces (Err x) t t1 t2 t3 t4 n a b c d e e1 e2 e3 e4 last = tt
five_pieces (Ok u) t t1 t2 t3 t4 n a b c d e e1 e2 e3 e4 last =
    let four : t4 ≡ ((((t ++ a) ++ b) ++ c) ++ d) = cc in last ∙ rw four (simp append_assoc)
