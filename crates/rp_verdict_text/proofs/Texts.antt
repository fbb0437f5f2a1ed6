-- Lines one behind another; and the JSON of verdicts has no number with a fraction, so its text is said whole.
use Rattle.std.proofs.Common.{ℕ, ◌≡◌, ◌<◌, ◌+◌, ◌++◌, List, [], ◌∷◌, false, Option, Some, None, length, get_or, map, take, refl, sym, ◌∙◌, ap, append_assoc, append-nil}
use Rattle.std.proofs.lemmas.List.{take_more}
use Rattle.std.proofs.lemmas.Grind.{flat_map-append}
use Rattle.std.specs.List.{flat_map}
use Rattle.std.specs.Option.{option_map_or}
use Rattle.serde_json.specs.Data.{Data, null}
use Rattle.serde_json.specs.View.{items_of}
use Rattle.serde_json.specs.Written.{compact_text, has_float, items_have_float}
use Rattle.rp_verdict.specs.declared.verdict.Verdict.{Verdict}
use Rattle.rp_verdict.specs.declared.verdict.Verdicts.{Verdicts}
use Rattle.rp_verdict_text.specs.Reports.{integer, verdict_data, verdicts_data}

-- one more line behind those so far
pub line_more : {A : Type 0} (line : A → List ℕ) (items : List A) (i : ℕ) (d : A) (start old new : List ℕ) → i < length items
    → old ≡ start ++ flat_map line (take i items) → new ≡ old ++ line (get_or items i d) → new ≡ start ++ flat_map line (take (i + 1) items)
line_more line items i d start old new below e f =
    f ∙ ap (λ s. s ++ line (get_or items i d)) e
    ∙ append_assoc start (flat_map line (take i items)) (line (get_or items i d))
    ∙ ap (λ s. start ++ s)
    (sym (ap (flat_map line) (take_more items i d below)
    ∙ flat_map-append line (take i items) (get_or items i d ∷ [])
    ∙ ap (λ s. flat_map line (take i items) ++ s) (append-nil (line (get_or items i d)))))

slots_have_no_float : (slots : List ℕ) → items_have_float (items_of (map integer slots)) ≡ false
slots_have_no_float [] = refl
slots_have_no_float (slot ∷ slots) = slots_have_no_float slots

slot_has_no_float : (slot : Option ℕ) → has_float (option_map_or integer slot null) ≡ false
slot_has_no_float None = refl
slot_has_no_float (Some slot) = refl

list_has_no_float : (list : List Verdict) → items_have_float (items_of (map verdict_data list)) ≡ false
list_has_no_float [] = refl
list_has_no_float (verdict ∷ list) = rw (slot_has_no_float verdict.slot) (list_has_no_float list)

verdicts_have_no_float : (verdicts : Verdicts) → has_float (verdicts_data verdicts) ≡ false
verdicts_have_no_float verdicts = rw (slots_have_no_float verdicts.extra, list_has_no_float verdicts.list) refl

-- the text of a value that is the verdicts'
pub text_of_verdicts : (verdicts : Verdicts) (value : Data) (text : List ℕ) → value ≡ verdicts_data verdicts
    → (has_float value ≡ false → text ≡ compact_text value) → text ≡ compact_text (verdicts_data verdicts)
text_of_verdicts verdicts value text e written = written (ap has_float e ∙ verdicts_have_no_float verdicts) ∙ ap compact_text e
