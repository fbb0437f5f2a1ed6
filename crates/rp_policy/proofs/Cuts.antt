-- Texts that are cut at a byte.
use Rattle.std.proofs.Common.{inl, inr, ◌≡◌, ℕ, ◌+◌, ◌-◌, ◌<◌, ◌≤◌, cond, List, [], ◌∷◌, length, Option, Some, None, arith, refl, ap, sym, ◌∙◌}
use Rattle.std.specs.Prelude.{nat_lt, not, ◌==◌}
use Rattle.std.specs.List.{onto_first, slice_split, before_first, after_first, position_or_len}
use Rattle.std.proofs.lemmas.Bool.{cases_Bool, ltb-false, ltb-true}
use Rattle.std.proofs.lemmas.List.{length-drop, length-take-le}
use Rattle.std.proofs.lemmas.List.Splits.{slice_split-cons_no, slice_split_first}
use Rattle.rp_policy.specs.Reading.{cut}

some_same : {X : Type 0} (x y : X) → Some x ≡ Some y → x ≡ y
some_same x y is = cc

-- a text that is cut begins with the part before the byte
pub record Parts (mark : ℕ) (text front rest : List ℕ) : Type 0 where
  pub split : slice_split (λ byte. byte == mark) text ≡ front ∷ slice_split (λ byte. byte == mark) rest
  pub size : length front + 1 + length rest ≡ length text

pub cut_some : (mark : ℕ) (text front rest : List ℕ) → Some (front, rest) ≡ cut mark text → Parts mark text front rest
cut_some mark text front rest is = elim (cases_Bool (nat_lt (position_or_len (λ byte. byte == mark) text) (length text))) [
  | inl t ↦
      let below : position_or_len (λ byte. byte == mark) text < length text = ltb-true _ _ t in
      let found : ◌≡◌ {A = Option (List ℕ × List ℕ)} (Some (front, rest))
      (Some (before_first (λ byte. byte == mark) text, after_first (λ byte. byte == mark) text)) =
      is ∙ ap (λ b. cond b (Some (before_first (λ byte. byte == mark) text, after_first (λ byte. byte == mark) text)) None) t in
      let pair : ◌≡◌ {A = List ℕ × List ℕ} (front, rest)
      (before_first (λ byte. byte == mark) text, after_first (λ byte. byte == mark) text) =
      some_same _ _ found in
      let first : front ≡ before_first (λ byte. byte == mark) text = ap (λ (p : List ℕ × List ℕ). p.0) pair in
      let second : rest ≡ after_first (λ byte. byte == mark) text = ap (λ (p : List ℕ × List ℕ). p.1) pair in
      let front_len : length (before_first (λ byte. byte == mark) text) ≡ position_or_len (λ byte. byte == mark) text =
      length-take-le (position_or_len (λ byte. byte == mark) text) text (omega arith) in
      let rest_len : length (after_first (λ byte. byte == mark) text) ≡ length text - (position_or_len (λ byte. byte == mark) text + 1) =
      length-drop (position_or_len (λ byte. byte == mark) text + 1) text in
      let front_same = ap length first in
      let rest_same = ap length second in
      record {
        split = slice_split_first (λ byte. byte == mark) text 0 below
            ∙ ap (λ a. a ∷ slice_split (λ byte. byte == mark) (after_first (λ byte. byte == mark) text)) (sym first)
            ∙ ap (λ b. front ∷ slice_split (λ byte. byte == mark) b) (sym second);
        size = omega arith;
      }
  | inr t ↦
      let none : ◌≡◌ {A = Option (List ℕ × List ℕ)} (Some (front, rest)) None =
      is ∙ ap (λ b. cond b (Some (before_first (λ byte. byte == mark) text, after_first (λ byte. byte == mark) text)) None) t in
      cc
]

-- a text without the byte is one part
split_one : (mark : ℕ) (text : List ℕ) → length text ≤ position_or_len (λ byte. byte == mark) text
    → slice_split (λ byte. byte == mark) text ≡ text ∷ []
split_one mark [] none = refl
split_one mark (x ∷ xs) none = elim (cases_Bool (x == mark)) [
  | inl t ↦ absurd (omega (arith, ap (λ b. cond (not b) (1 + position_or_len (λ byte. byte == mark) xs) 0) t))
  | inr t ↦
      let more : position_or_len (λ byte. byte == mark) (x ∷ xs) ≡ 1 + position_or_len (λ byte. byte == mark) xs =
      ap (λ b. cond (not b) (1 + position_or_len (λ byte. byte == mark) xs) 0) t in
      slice_split-cons_no (λ byte. byte == mark) x xs t ∙ ap (onto_first x) (split_one mark xs (omega arith))
]

-- one that isn't cut is the one part
pub cut_none : (mark : ℕ) (text : List ℕ) → None ≡ cut mark text → slice_split (λ byte. byte == mark) text ≡ text ∷ []
cut_none mark text is = elim (cases_Bool (nat_lt (position_or_len (λ byte. byte == mark) text) (length text))) [
  | inl t ↦
      let found : ◌≡◌ {A = Option (List ℕ × List ℕ)} None
      (Some (before_first (λ byte. byte == mark) text, after_first (λ byte. byte == mark) text)) =
      is ∙ ap (λ b. cond b (Some (before_first (λ byte. byte == mark) text, after_first (λ byte. byte == mark) text)) None) t in
      cc
  | inr t ↦ split_one mark text (ltb-false _ _ t)
]
