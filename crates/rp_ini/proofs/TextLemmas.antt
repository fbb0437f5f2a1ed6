-- A text cut into lines, byte by byte.
use Rattle.std.proofs.Common.{◌≡◌, ◌≢◌, ℕ, suc, ◌+◌, ◌-◌, ◌<◌, List, [], ◌∷◌, ◌++◌, Bool, true, false, length, take, get_or, refl, ap, sym, ◌∙◌, arith, eqb, lit<, None}
use Rattle.std.specs.List.{onto_first}
use Rattle.std.specs.Str.Pattern.{FindsCharSuffix}
use Rattle.std.specs.Str.Lines.{strip_carriage_return}
use Rattle.std.proofs.lemmas.Bool.Decides.{Decides-eqb}
use Rattle.std.proofs.lemmas.List.{take_more}
use Rattle.std.proofs.lemmas.Str.Pattern.{strip_suffix_char}
use Rattle.std.proofs.Math.Seq.{take-length}
use Rattle.rp_ini.specs.Text.{lines_of}

pub other_byte : (b c : ℕ) → b ≢ c → eqb b c ≡ false
other_byte b c ne = by_test (eqb b c) refl where
  by_test : (t : Bool) → eqb b c ≡ t → eqb b c ≡ false
  by_test true h = absurd (ne ((Decides-eqb b c).0 h))
  by_test false h = h

-- no byte of the line is a line feed
abbrev pub HasNoFeed : List ℕ → Type 0
HasNoFeed line = (i : ℕ) → i < length line → get_or line i 0 ≢ 10

without_first : (b : ℕ) (bs : List ℕ) → HasNoFeed (b ∷ bs) → HasNoFeed bs
without_first b bs none i h = none (suc i) (omega arith)

first_byte : (b : ℕ) (bs : List ℕ) → HasNoFeed (b ∷ bs) → eqb b 10 ≡ false
first_byte b bs none = other_byte b 10 (none 0 (omega arith))

lines_of-feed : (line behind : List ℕ) → HasNoFeed line → lines_of (line ++ 10 ∷ behind) ≡ line ∷ lines_of behind
lines_of-feed [] behind none = refl
lines_of-feed (b ∷ bs) behind none =
    rw (first_byte b bs none) (ap (λ ls. onto_first b ls) (lines_of-feed bs behind (without_first b bs none)))

pub lines_of-cut : (text line behind : List ℕ) → (text ≡ line ++ 10 ∷ behind) × HasNoFeed line → lines_of text ≡ line ∷ lines_of behind
lines_of-cut text line behind h = ap lines_of h.0 ∙ lines_of-feed line behind h.1

pub lines_of-last : (text : List ℕ) → text ≢ [] → HasNoFeed text → lines_of text ≡ text ∷ []
lines_of-last [] ne none = absurd (ne refl)
lines_of-last (b ∷ []) ne none = rw (first_byte b [] none) refl
lines_of-last (b ∷ x ∷ xs) ne none =
    rw (first_byte b (x ∷ xs) none) (ap (λ ls. onto_first b ls) (lines_of-last (x ∷ xs) (λ h. cc) (without_first b (x ∷ xs) none)))

last_byte : (line : List ℕ) → get_or line (length line - 1) 0 ≡ 13 → line ≡ take (length line - 1) line ++ 13 ∷ []
last_byte [] h = absurd (omega arith)
last_byte (b ∷ bs) h =
    let i : ℕ = length (b ∷ bs) - 1 in
    let n : i + 1 ≡ length (b ∷ bs) = omega arith in
    sym (take-length (b ∷ bs)) ∙ ap (λ k. take k (b ∷ bs)) (sym n) ∙ take_more (b ∷ bs) i 0 (omega arith) ∙ ap (λ c. take i (b ∷ bs) ++ c ∷ []) h

pub no_return : (line : List ℕ) → FindsCharSuffix 13 line None → line ≡ strip_carriage_return line
no_return line h = by_test (eqb (get_or line (length line - 1) 0) 13) refl where
  by_test : (t : Bool) → eqb (get_or line (length line - 1) 0) 13 ≡ t → line ≡ strip_carriage_return line
  by_test true is = absurd (strip_suffix_char 13 line None h (lit< tt) (take (length line - 1) line) (last_byte line ((Decides-eqb _ 13).0 is)))
  by_test false is = rw is refl
