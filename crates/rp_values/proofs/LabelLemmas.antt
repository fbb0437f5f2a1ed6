-- A label, once its specifiers are replaced, and its units.
use Rattle.std.proofs.Common.{◌≡◌, ◌≢◌, ℕ, ◌+◌, ◌-◌, ◌/◌, ◌%◌, List, [], ◌∷◌, ◌++◌, Bool, true, false, cond, eqb, leb, not, ◌&&◌, ◌||◌, nat_lt, encode_utf8_all, length, replicate, slice_index, Option, Some, None, Err, IfOk, IsUtf8, refl, sym, ap, ◌∙◌, flat_map}
use Rattle.std.specs.List.{list_any}
use Rattle.std.specs.Option.{ok_or}
use Rattle.std.specs.Str.{chars}
use Rattle.std.specs.Str.Iter.{encode_utf16_rest, encode_utf16_steps}
use Rattle.std.specs.declared.str.EncodeUtf16.{EncodeUtf16}
use Rattle.std.specs.Char.Escape.{encode_utf16}
use Rattle.std.proofs.lemmas.Str.{encodes-chars}
use Rattle.std.proofs.lemmas.Iterator.{YieldsList}
use Rattle.std.proofs.lemmas.Iterator.Splits.{YieldsList-from_shown_while}
use Rattle.rp_base.specs.Name.{name_of, units_of}
use Rattle.rp_base.proofs.Units.{units_left, units_left-more, units_left-none}
use Rattle.rp_types.specs.Designators.{arch_name}
use Rattle.rp_types.specs.declared.arch.Arch.{Arch}
use Rattle.rp_types.specs.declared.arch.Arch.TheVariants.{X86_64, Arm64}
use Rattle.rp_values.specs.declared.label.LabelFault.{LabelFault}
use Rattle.rp_values.specs.declared.label.LabelFault.TheVariants.{BadLabel, TooLong}
use Rattle.rp_values.specs.Texts.{expanded, joined, specified, label_of_text, label_units}

pub label_of_text-none : (arch : Arch) (text : List ℕ) → None ≡ expanded arch text → Err BadLabel ≡ label_of_text arch text
unfolding label_of_text
label_of_text-none arch text e = rw (← e) refl

pub label_of_text-some : (arch : Arch) (text whole : List ℕ) → Some whole ≡ expanded arch text → label_units whole ≡ label_of_text arch text
unfolding label_of_text
label_of_text-some arch text whole e = rw (← e) refl

-- ---- the units that `encode_utf16` yields
pub YieldsList-from_utf16 : (s : EncodeUtf16) → IsUtf8 (encode_utf16_rest s) → YieldsList encode_utf16_steps (λ unit. unit) s (units_left s)
YieldsList-from_utf16 s utf8 =
    YieldsList-from_shown_while encode_utf16_steps (λ unit. unit) units_left (λ s. IsUtf8 (encode_utf16_rest s)) none_left one_less s utf8 where
      none_left : (s t : EncodeUtf16) → IsUtf8 (encode_utf16_rest s) → encode_utf16_steps s None t → length (units_left s) ≡ 0
      none_left s t h step = ap length (units_left-none s step.0 step.1)

      one_less : (s : EncodeUtf16) (unit : ℕ) (t : EncodeUtf16) → IsUtf8 (encode_utf16_rest s) → encode_utf16_steps s (Some unit) t → IsUtf8 (encode_utf16_rest t) × (units_left s ≡ unit ∷ units_left t)
      one_less s unit t h step = let more = units_left-more s t unit h step in (more.1, more.0)

-- ---- a text that isn't empty gives a first unit that isn't zero
joined-there : (front whole : List ℕ) (rest : Option (List ℕ)) → front ≢ [] → joined (Some front) rest ≡ Some whole → whole ≢ []
joined-there front whole None there e = cc
joined-there [] whole (Some r) there e = absurd (there refl)
joined-there (c ∷ cs) whole (Some r) there e = λ empty. cc

specified-there : (arch : Arch) (letter : ℕ) (whole : List ℕ) (rest : Option (List ℕ)) → joined (specified arch letter) rest ≡ Some whole → whole ≢ []
specified-there arch letter whole rest = by_tests (eqb letter 37) (eqb letter 97) arch where
  by_tests : (percent known : Bool) (arch : Arch) → joined (cond percent (Some (37 ∷ [])) (cond known (Some (arch_name arch)) None)) rest ≡ Some whole → whole ≢ []
  by_tests true known arch e = joined-there (37 ∷ []) whole rest (λ h. cc) e
  by_tests false true X86_64 e = joined-there (arch_name X86_64) whole rest (λ h. cc) e
  by_tests false true Arm64 e = joined-there (arch_name Arm64) whole rest (λ h. cc) e
  by_tests false false arch e = cc

pub expanded-there : (arch : Arch) (text whole : List ℕ) → text ≢ [] → Some whole ≡ expanded arch text → whole ≢ []
unfolding expanded
expanded-there arch [] whole there e = absurd (there refl)
expanded-there arch (c ∷ []) whole there e = by_test (eqb c 37) e where
  by_test : (b : Bool) → Some whole ≡ cond b None (Some (c ∷ [])) → whole ≢ []
  by_test true e = cc
  by_test false e = λ empty. cc
expanded-there arch (c ∷ letter ∷ rest) whole there e = by_test (eqb c 37) e where
  by_test : (b : Bool) → Some whole ≡ cond b (joined (specified arch letter) (expanded arch rest)) (joined (Some (c ∷ [])) (expanded arch (letter ∷ rest))) → whole ≢ []
  by_test true e = specified-there arch letter whole (expanded arch rest) (sym e)
  by_test false e = joined-there (c ∷ []) whole (expanded arch (letter ∷ rest)) (λ h. cc) (sym e)

encode_utf16-there : (c : ℕ) (rest : List ℕ) → encode_utf16 c ++ rest ≢ []
encode_utf16-there c rest = by_test (nat_lt c 0x1_0000) where
  by_test : (b : Bool) → cond b (c ∷ []) ((0xD800 + (c - 0x1_0000) / 0x400) ∷ (0xDC00 + (c - 0x1_0000) % 0x400) ∷ []) ++ rest ≢ []
  by_test true = λ h. cc
  by_test false = λ h. cc

units_of-there : (whole : List ℕ) → IsUtf8 whole → whole ≢ [] → units_of whole ≢ []
unfolding units_of
units_of-there whole utf8 there = by_chars (chars whole) (encodes-chars whole utf8) where
  by_chars : (cs : List ℕ) → encode_utf8_all cs ≡ whole → flat_map encode_utf16 cs ≢ []
  by_chars [] e = λ h. there (sym e)
  by_chars (c ∷ cs) e = encode_utf16-there c (flat_map encode_utf16 cs)

name_of-first : (text units : List ℕ) → units_of text ≢ [] → name_of text ≡ Some units → slice_index units 0 ≢ 0
unfolding name_of
name_of-first text units there e = by_units (units_of text) there e where
  by_units : (us : List ℕ) → us ≢ [] → cond (leb (length us) 36 && not (list_any (λ unit. eqb unit 0) us)) (Some (us ++ replicate (36 - length us) 0)) None ≡ Some units → slice_index units 0 ≢ 0
  by_units [] there e = absurd (there refl)
  by_units (u ∷ us) there e = by_tests (leb (length (u ∷ us)) 36) (eqb u 0) (list_any (λ unit. eqb unit 0) us) refl e where
    by_tests : (fits zero others : Bool) → eqb u 0 ≡ zero → cond (fits && not (zero || others)) (Some (u ∷ us ++ replicate (36 - length (u ∷ us)) 0)) None ≡ Some units → slice_index units 0 ≢ 0
    by_tests false zero others z e = cc
    by_tests true true others z e = cc
    by_tests true false true z e = cc
    by_tests true false false z e = λ h. absurd (first_zero h) where
      first_zero : slice_index units 0 ≡ 0 → ⊥
      first_zero h =
          let is : units ≡ u ∷ us ++ replicate (36 - length (u ∷ us)) 0 = cc in
          let zero_first : u ≡ 0 = ap (λ xs. slice_index xs 0) (sym is) ∙ h in
          let true_false : true ≡ false = sym (ap (λ x. eqb x 0) zero_first) ∙ z in
          cc

pub label_units-first : (whole : List ℕ) → IsUtf8 whole → whole ≢ [] → IfOk (label_units whole) (λ units. slice_index units 0 ≢ 0)
label_units-first whole utf8 there = by_name (nat_lt 36 (length (units_of whole))) (name_of whole) refl where
  by_name : (long : Bool) (name : Option (List ℕ)) → name_of whole ≡ name → IfOk {E = LabelFault} (cond long (Err TooLong) (ok_or name BadLabel)) (λ units. slice_index units 0 ≢ 0)
  by_name true name e = tt
  by_name false None e = tt
  by_name false (Some units) e = name_of-first whole units (units_of-there whole utf8 there) e
