-- Lines of designators, one behind another.
use Rattle.std.proofs.Common.{ℕ, ◌≡◌, ◌<◌, ◌+◌, ◌++◌, List, [], ◌∷◌, length, get_or, take, ◌∙◌, ap, sym, append_assoc, append-nil}
use Rattle.std.proofs.lemmas.List.{take_more}
use Rattle.std.proofs.lemmas.Grind.{flat_map-append}
use Rattle.std.specs.List.{flat_map}

-- one more line behind those so far
pub line_more : {A : Type 0} (line : A → List ℕ) (items : List A) (i : ℕ) (d : A) (start old new : List ℕ) → i < length items
    → old ≡ start ++ flat_map line (take i items) → new ≡ old ++ line (get_or items i d) → new ≡ start ++ flat_map line (take (i + 1) items)
line_more line items i d start old new below e f =
    f ∙ ap (λ s. s ++ line (get_or items i d)) e
    ∙ append_assoc start (flat_map line (take i items)) (line (get_or items i d))
    ∙ ap (λ s. start ++ s)
    (sym (ap (flat_map line) (take_more items i d below)
    ∙ flat_map-append line (take i items) (get_or items i d ∷ [])
    ∙ ap (λ s. flat_map line (take i items) ++ s) (append-nil (line (get_or items i d)))))
