-- Headers and assignments.
use Rattle.std.proofs.Common.{◌≡◌, ◌≢◌, ℕ, suc, ◌+◌, ◌-◌, ◌<◌, List, [], ◌∷◌, ◌++◌, Bool, true, false, cond, not, ◌||◌, length, take, drop, refl, ap, sym, ◌∙◌, arith, eqb, lit<, Some, None}
use Rattle.std.specs.List.{list_any, position_or_len}
use Rattle.std.specs.Str.{bytes_eq}
use Rattle.std.specs.Str.Pattern.{FindsCharPrefix, FindsCharSuffix}
use Rattle.std.proofs.lemmas.List.{length-append}
use Rattle.std.proofs.lemmas.Slice.Eq.{bytes_eq-Decides}
use Rattle.std.proofs.lemmas.Str.Pattern.{strip_prefix_char, strip_suffix_char}
use Rattle.std.proofs.Math.Seq.{take-append_seam}
use Rattle.rp_ini.specs.Lines.{header_of, is_section_name, assignment_of}

pub same_bytes : (xs : List ℕ) → bytes_eq xs xs ≡ true
same_bytes xs = (bytes_eq-Decides xs xs).1 refl

inner_name : (name : List ℕ) → take (length (91 ∷ (name ++ 93 ∷ [])) - 2) (drop 1 (91 ∷ (name ++ 93 ∷ []))) ≡ name
inner_name name =
    let n : length (91 ∷ (name ++ 93 ∷ [])) - 2 ≡ length name = omega (arith, length-append name (93 ∷ [])) in
    rw n (take-append_seam name (93 ∷ []))

pub header_of-there : (text name : List ℕ) → text ≡ 91 ∷ (name ++ 93 ∷ []) → header_of text ≡ cond (is_section_name name) (Some name) None
header_of-there text name is = rw is (rw (inner_name name) (rw (same_bytes (91 ∷ (name ++ 93 ∷ []))) refl))

pub header_of-elsewhere : (text : List ℕ) → ((name : List ℕ) → text ≢ 91 ∷ (name ++ 93 ∷ [])) → header_of text ≡ None
header_of-elsewhere text isnt = by_test (bytes_eq text (91 ∷ take (length text - 2) (drop 1 text) ++ 93 ∷ [])) refl where
  by_test : (b : Bool) → bytes_eq text (91 ∷ take (length text - 2) (drop 1 text) ++ 93 ∷ []) ≡ b → header_of text ≡ None
  by_test true h = absurd (isnt _ ((bytes_eq-Decides _ _).0 h))
  by_test false h = rw h refl

pub no_opening : (text : List ℕ) → FindsCharPrefix 91 text None → header_of text ≡ None
no_opening text h = header_of-elsewhere text (λ name is. strip_prefix_char 91 text None h (lit< tt) _ is)

pub no_closing : (text rest : List ℕ) → text ≡ 91 ∷ rest → FindsCharSuffix 93 rest None → header_of text ≡ None
no_closing text rest is h =
    header_of-elsewhere text (λ name other. strip_suffix_char 93 rest None h (lit< tt) name (ap (λ t. drop 1 t) (sym is ∙ other)))

first_absent : (b : Bool) (n m : ℕ) (rest : Bool) → cond (not b) (1 + n) 0 ≡ suc m → (n ≡ m → rest ≡ false) → (b || rest) ≡ false
first_absent true n m rest h then = absurd (omega arith)
first_absent false n m rest h then = then (omega arith)

pub list_any-absent : (p : ℕ → Bool) (xs : List ℕ) → position_or_len p xs ≡ length xs → list_any p xs ≡ false
list_any-absent p [] h = refl
list_any-absent p (x ∷ xs) h = first_absent (p x) (position_or_len p xs) (length xs) (list_any p xs) h (list_any-absent p xs)

first_present : (b : Bool) (n m : ℕ) (rest : Bool) → cond (not b) (1 + n) 0 < suc m → (n < m → rest ≡ true) → (b || rest) ≡ true
first_present true n m rest h then = refl
first_present false n m rest h then = then (omega arith)

pub list_any-present : (p : ℕ → Bool) (xs : List ℕ) → position_or_len p xs < length xs → list_any p xs ≡ true
list_any-present p [] h = absurd (omega arith)
list_any-present p (x ∷ xs) h = first_present (p x) (position_or_len p xs) (length xs) (list_any p xs) h (list_any-present p xs)

-- a text with no `=` is no assignment
pub no_equals : (text : List ℕ) → position_or_len (λ byte. eqb byte 61) text ≡ length text → assignment_of text ≡ None
no_equals text h = rw (list_any-absent (λ byte. eqb byte 61) text h) refl
