-- White space and backslashes at the ends of a text, byte by byte.
use Rattle.std.proofs.Common.{◌≡◌, ◌≢◌, ℕ, List, [], ◌∷◌, ◌++◌, Bool, true, false, not, length, reverse, refl, ap, sym, ◌∙◌, arith, eqb, Option, Some, None, MatchOption, IfNone, lit<, take, ◌-◌}
use Rattle.std.specs.Str.Pattern.{FindsCharPrefix, FindsCharSuffix, StripsPrefix, StripsSuffix}
use Rattle.std.proofs.lemmas.Str.Pattern.{strip_prefix_char, strip_suffix_char}
use Rattle.std.proofs.lemmas.List.{length-append}
use Rattle.std.proofs.Math.Seq.{take-append_seam}
use denote.Ref.{Bor}
use Rattle.std.proofs.lemmas.List.{reverse-append, reverse-reverse}
use Rattle.std.proofs.lemmas.Bool.Decides.{Decides-eqb}
use Rattle.rp_ini.specs.Text.{trim_start, trim_end, continues, has_odd_backslashes, opened}

-- a byte that isn't c, when no text that begins with c is this text
not_first : (c b : ℕ) (bs : List ℕ) → ((rest : List ℕ) → b ∷ bs ≢ c ∷ rest) → eqb b c ≡ false
not_first c b bs isnt = by_test (eqb b c) refl where
  by_test : (t : Bool) → eqb b c ≡ t → eqb b c ≡ false
  by_test true h = absurd (isnt bs (ap (λ x. x ∷ bs) ((Decides-eqb b c).0 h)))
  by_test false h = h

pub trim_start-here : (text : List ℕ) → ((rest : List ℕ) → text ≢ 32 ∷ rest) → ((rest : List ℕ) → text ≢ 9 ∷ rest) → trim_start text ≡ text
trim_start-here [] space tab = refl
trim_start-here (b ∷ bs) space tab = rw (not_first 32 b bs space) (rw (not_first 9 b bs tab) refl)

reversed_end : (text rest : List ℕ) (c : ℕ) → reverse text ≡ c ∷ rest → text ≡ reverse rest ++ c ∷ []
reversed_end text rest c is = sym (reverse-reverse text) ∙ ap reverse is ∙ reverse-append (c ∷ []) rest

pub trim_end-here : (text : List ℕ) → ((front : List ℕ) → text ≢ front ++ 32 ∷ []) → ((front : List ℕ) → text ≢ front ++ 9 ∷ []) → trim_end text ≡ text
trim_end-here text space tab =
    ap reverse (trim_start-here (reverse text) (λ rest is. space (reverse rest) (reversed_end text rest 32 is)) (λ rest is. tab (reverse rest) (reversed_end text rest 9 is)))
    ∙ reverse-reverse text

pub trim_end-space : (front : List ℕ) → trim_end (front ++ 32 ∷ []) ≡ trim_end front
trim_end-space front = ap (λ t. reverse (trim_start t)) (reverse-append front (32 ∷ []))

pub trim_end-tab : (front : List ℕ) → trim_end (front ++ 9 ∷ []) ≡ trim_end front
trim_end-tab front = ap (λ t. reverse (trim_start t)) (reverse-append front (9 ∷ []))

pub continues-backslash : (front : List ℕ) → continues (front ++ 92 ∷ []) ≡ not (continues front)
continues-backslash front = ap has_odd_backslashes (reverse-append front (92 ∷ []))

not_odd : (text : List ℕ) → ((rest : List ℕ) → text ≢ 92 ∷ rest) → has_odd_backslashes text ≡ false
not_odd [] isnt = refl
not_odd (b ∷ bs) isnt = rw (not_first 92 b bs isnt) refl

pub continues-none : (text : List ℕ) → ((front : List ℕ) → text ≢ front ++ 92 ∷ []) → continues text ≡ false
continues-none text isnt = not_odd (reverse text) (λ rest is. isnt (reverse rest) (reversed_end text rest 92 is))

-- what the calls that found nothing say
pub no_blank_front : (text : List ℕ) (r : Option (Bor (List ℕ))) → FindsCharPrefix 32 text None
    → MatchOption r (FindsCharPrefix 9 text None) (λ x. StripsPrefix (FindsCharPrefix 9) text x.now) → IfNone r (trim_start text ≡ text)
no_blank_front text None space tab = trim_start-here text (strip_prefix_char 32 text None space (lit< tt)) (strip_prefix_char 9 text None tab (lit< tt))
no_blank_front text (Some x) space tab = tt

pub no_blank_end : (text : List ℕ) (r : Option (Bor (List ℕ))) → FindsCharSuffix 32 text None
    → MatchOption r (FindsCharSuffix 9 text None) (λ x. StripsSuffix (FindsCharSuffix 9) text x.now) → IfNone r (trim_end text ≡ text)
no_blank_end text None space tab = trim_end-here text (strip_suffix_char 32 text None space (lit< tt)) (strip_suffix_char 9 text None tab (lit< tt))
no_blank_end text (Some x) space tab = tt

pub no_backslash_end : (text : List ℕ) (r : Option (Bor (List ℕ)))
    → MatchOption r (FindsCharSuffix 92 text None) (λ x. StripsSuffix (FindsCharSuffix 92) text x.now) → IfNone r (continues text ≡ false)
no_backslash_end text None h = continues-none text (strip_suffix_char 92 text None h (lit< tt))
no_backslash_end text (Some x) h = tt

front_of : (front : List ℕ) (c : ℕ) → take (length (front ++ c ∷ []) - 1) (front ++ c ∷ []) ≡ front
front_of front c =
    let n : length (front ++ c ∷ []) - 1 ≡ length front = omega (arith, length-append front (c ∷ [])) in
    rw n (take-append_seam front (c ∷ []))

pub opened-backslash : (text front : List ℕ) → text ≡ front ++ 92 ∷ [] → opened text ≡ front ++ 32 ∷ []
opened-backslash text front is = rw is (ap (λ t. t ++ 32 ∷ []) (front_of front 92))

pub opened_cases : (text : List ℕ) (r : Option (Bor (List ℕ)))
    → MatchOption r (FindsCharSuffix 92 text None) (λ x. StripsSuffix (FindsCharSuffix 92) text x.now) → continues text ≡ true
    → MatchOption r (continues text ≡ false) (λ front. (continues text ≡ true) × (opened text ≡ front.now ++ 32 ∷ []))
opened_cases text None h goes = continues-none text (strip_suffix_char 92 text None h (lit< tt))
opened_cases text (Some x) h goes = (goes, opened-backslash text x.now (strip_suffix_char 92 text (Some x) h (lit< tt)))
