-- Paths, cut off one after another at the first colon.
use Rattle.std.proofs.Common.{◌≡◌, ℕ, ◌<◌, ◌≤◌, ◌+◌, ◌++◌, List, [], ◌∷◌, Bool, true, false, cond, ltb, length, Option, Some, None, refl, sym, ◌∙◌, ap, append_assoc, arith, length-drop}
use Rattle.std.proofs.lemmas.Bool.Decides.{nat_tests}
use Rattle.std.proofs.lemmas.List.Elements.{All-from_get_or}
use Rattle.std.proofs.lemmas.List.Splits.{slice_split_first, slice_split_none}
use Rattle.std.proofs.lemmas.List.Sums.{fails_before_first}
use Rattle.std.specs.List.{after_first, before_first, position_or_len}
use Rattle.std.specs.Option.{option_map_or}
use Rattle.std.specs.Prelude.{option_map}
use Rattle.rp_words.proofs.Paths.{is_colon}
use Rattle.rp_words.specs.Values.{at_colon, before_colon, behind_colon, paths_of}

abbrev Parts : Type 0
Parts = List ℕ × List ℕ

some : (a b : Parts) → ◌≡◌ {A = Option Parts} (Some a) (Some b) → a ≡ b
some a b e = cc

-- a colon stands where the text is cut
at_place : (text : List ℕ) (parts : Parts) → at_colon text ≡ Some parts
    → (position_or_len is_colon text < length text) × ((before_first is_colon text, after_first is_colon text) ≡ parts)
at_place text parts e = go (ltb (position_or_len is_colon text) (length text)) refl e where
  go : (b : Bool) → ltb (position_or_len is_colon text) (length text) ≡ b
      → cond b (Some (before_first is_colon text, after_first is_colon text)) None ≡ Some parts
      → (position_or_len is_colon text < length text) × ((before_first is_colon text, after_first is_colon text) ≡ parts)
  go true is e = (grind (arith, nat_tests), some (before_first is_colon text, after_first is_colon text) parts e)
  go false is e = absurd (cc)

-- what is cut off is the first path, and what is left has the others
paths-first : (text : List ℕ) (parts : Parts) → at_colon text ≡ Some parts → paths_of text ≡ parts.0 ∷ paths_of parts.1
paths-first text parts e =
    let at = at_place text parts e in
    slice_split_first is_colon text 0 at.0 ∙ ap (λ (p : Parts). p.0 ∷ paths_of p.1) at.1

-- a text without a colon is one path
paths-none : (text : List ℕ) → at_colon text ≡ None → paths_of text ≡ text ∷ []
paths-none text e = go (ltb (position_or_len is_colon text) (length text)) refl e where
  go : (b : Bool) → ltb (position_or_len is_colon text) (length text) ≡ b
      → ◌≡◌ {A = Option Parts} (cond b (Some (before_first is_colon text, after_first is_colon text)) None) None
      → paths_of text ≡ text ∷ []
  go true is e = absurd (cc)
  go false is e =
      let past : length text ≤ position_or_len is_colon text = grind (arith, nat_tests) in
      slice_split_none is_colon text
      (All-from_get_or (λ byte. is_colon byte ≡ false) text 0 (λ i below. fails_before_first is_colon text i 0 (omega arith)))

-- a text with something behind a colon is cut there
cut_there : (text more : List ℕ) → behind_colon text ≡ Some more → at_colon text ≡ Some (before_colon text, more)
cut_there text more e = go (at_colon text) e where
  go : (parts : Option Parts) → option_map (λ (p : Parts). p.1) parts ≡ Some more → parts ≡ Some (option_map_or (λ (p : Parts). p.0) parts text, more)
  go None e = absurd (cc)
  go (Some (path, rest)) e = ap (λ (more : List ℕ). Some (path, more)) (same rest more e) where
    same : (a b : List ℕ) → ◌≡◌ {A = Option (List ℕ)} (Some a) (Some b) → a ≡ b
    same a b e = cc

-- one with nothing there isn't
not_cut : (text : List ℕ) → behind_colon text ≡ None → at_colon text ≡ None
not_cut text e = go (at_colon text) e where
  go : (parts : Option Parts) → option_map (λ (p : Parts). p.1) parts ≡ None → parts ≡ None
  go None e = refl
  go (Some parts) e = absurd (cc)

-- what is left is shorter
pub paths_shorter : (text more : List ℕ) → behind_colon text ≡ Some more → length more < length text
paths_shorter text more e =
    let at = at_place text (before_colon text, more) (cut_there text more e) in
    let left : length (after_first is_colon text) < length text = omega (arith, length-drop (position_or_len is_colon text + 1) text, at.0) in
    let same : length (after_first is_colon text) ≡ length more = ap (λ (p : Parts). length p.1) at.1 in
    omega arith

-- one more path was cut off
pub paths_more : (all paths : List (List ℕ)) (text more : List ℕ) → behind_colon text ≡ Some more → paths ++ paths_of text ≡ all
    → (paths ++ before_colon text ∷ []) ++ paths_of more ≡ all
paths_more all paths text more e before =
    append_assoc paths (before_colon text ∷ []) (paths_of more)
    ∙ ap (λ rest. paths ++ rest) (sym (paths-first text (before_colon text, more) (cut_there text more e))) ∙ before

-- all were
pub paths_all : (all paths : List (List ℕ)) (text : List ℕ) → behind_colon text ≡ None → paths ++ paths_of text ≡ all → paths ++ text ∷ [] ≡ all
paths_all all paths text e before = ap (λ rest. paths ++ rest) (sym (paths-none text (not_cut text e))) ∙ before
