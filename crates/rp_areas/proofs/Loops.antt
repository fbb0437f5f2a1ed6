-- The steps of the loops over extents by rising start.
use Rattle.std.proofs.Common.{◌≡◌, ℕ, ◌+◌, ◌<◌, List, [], ◌∷◌, ◌++◌, length, get_or, drop, fold, Option, Some, None, ap, sym, ◌∙◌, append_assoc}
use Rattle.std.specs.List.{cons_option}
use Rattle.std.proofs.lemmas.List.{drop_more}
use Rattle.rp_base.specs.declared.want.Want.{Want}
use Rattle.rp_areas.specs.declared.behind.Refusal.{Refusal}
use Rattle.rp_areas.specs.declared.extents.Extent.{Extent}
use Rattle.rp_areas.specs.declared.gaps.Area.{Area}
use Rattle.rp_areas.specs.Areas.{area_behind, areas_behind, limit_of, lesser, refusal_of, refusals_of}

-- one more area behind an extent
pub areas_more : (last : ℕ) (wants : List Want) (areas : List Area) (es : List Extent) (i : ℕ) (d : Extent) → i < length es
    → (areas ++ area_behind wants (limit_of last (drop (i + 1) es)) (get_or es i d) ∷ []) ++ areas_behind last wants
    (drop (i + 1) es) ≡ areas ++ areas_behind last wants (drop i es)
areas_more last wants areas es i d below =
    append_assoc areas (area_behind wants (limit_of last (drop (i + 1) es)) (get_or es i d) ∷ [])
    (areas_behind last wants (drop (i + 1) es))
    ∙ ap (λ rest. areas ++ areas_behind last wants rest) (sym (drop_more es i d below))

-- the refusal behind one more extent, if there is one, is taken in
pub refusals_some : (last : ℕ) (wants : List Want) (least : Option Refusal) (es : List Extent) (i : ℕ) (d : Extent) (r : Refusal)
    → i < length es
    → refusal_of wants (limit_of last (drop (i + 1) es)) (get_or es i d) ≡ Some r
    → fold lesser (lesser least r) (refusals_of last wants (drop (i + 1) es)) ≡ fold lesser least (refusals_of last wants (drop i es))
refusals_some last wants least es i d r below some =
    sym (ap (λ o. fold lesser least (cons_option o (refusals_of last wants (drop (i + 1) es)))) some)
    ∙ ap (λ rest. fold lesser least (refusals_of last wants rest)) (sym (drop_more es i d below))

pub refusals_none : (last : ℕ) (wants : List Want) (least : Option Refusal) (es : List Extent) (i : ℕ) (d : Extent) → i < length es
    → refusal_of wants (limit_of last (drop (i + 1) es)) (get_or es i d) ≡ None
    → fold lesser least (refusals_of last wants (drop (i + 1) es)) ≡ fold lesser least (refusals_of last wants (drop i es))
refusals_none last wants least es i d below none =
    sym (ap (λ o. fold lesser least (cons_option o (refusals_of last wants (drop (i + 1) es)))) none)
    ∙ ap (λ rest. fold lesser least (refusals_of last wants rest)) (sym (drop_more es i d below))
