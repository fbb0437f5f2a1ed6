-- Rows with their notes, one behind the other.
use Rattle.std.proofs.Common.{ℕ, suc, ◌≡◌, ◌<◌, ◌≤◌, ◌+◌, ◌++◌, ◌∙◌, List, [], ◌∷◌, length, map, get_or, drop, take, refl, sym, ap, add-one, arith, drop-cons}
use Rattle.std.proofs.Math.ListN.{drop_of_length-le}
use Rattle.std.proofs.lemmas.List.{take_all, take_more, map-append}
use Rattle.std.proofs.lemmas.Slice.Zip.{get_or-zip, length-zip}
use Rattle.std.specs.List.{flat_map, zip}
use Rattle.serde_json.specs.Data.{Data}
use Rattle.rp_base.specs.declared.plan.Note.{Note}
use Rattle.rp_base.specs.declared.table.Row.{Row}
use Rattle.rp_defs.specs.declared.definition.Definition.{Definition}
use Rattle.rp_report.specs.PlanJson.{noted_data}
use Rattle.rp_report.specs.Plans.{noted_line}

module _ (rows : List Row) (notes : List Note) (i : ℕ) where
  -- there are as many as rows
  within : i < length rows → length notes ≡ length rows → i < length (zip rows notes)
  within below same = omega (arith, length-zip rows notes)

  pub noted-more : (list : List Definition) (d : Row) (e : Note) → i < length rows → length notes ≡ length rows
      → flat_map (noted_line list) (drop i (zip rows notes))
      ≡ noted_line list (get_or rows i d, get_or notes i e) ++ flat_map (noted_line list) (drop (i + 1) (zip rows notes))
  noted-more list d e below same =
      let here : get_or (zip rows notes) i (d, e) ≡ (get_or rows i d, get_or notes i e) =
      get_or-zip rows notes i (d, e) below (omega arith) in
      rw (drop-cons (zip rows notes) i (d, e) (within below same), add-one) (ap (λ noted. noted_line list noted ++ flat_map (noted_line list) (drop (suc i) (zip rows notes))) here)

  pub noted-past : (list : List Definition) → length rows ≤ i → length notes ≡ length rows
      → flat_map (noted_line list) (drop i (zip rows notes)) ≡ []
  noted-past list past same =
      let none : length (zip rows notes) ≤ i = omega (arith, length-zip rows notes) in
      rw (drop_of_length-le (zip rows notes) none) refl

  -- one more row as data
  pub data-more : {V : Type 0} (view : V → Data) (list : List Definition) (d : Row) (e : Note) (old new : List V) (value : V)
      → i < length rows → length notes ≡ length rows → new ≡ old ++ value ∷ []
      → map view old ≡ map (noted_data list) (take i (zip rows notes))
      → view value ≡ noted_data list (get_or rows i d, get_or notes i e)
      → map view new ≡ map (noted_data list) (take (i + 1) (zip rows notes))
  data-more view list d e old new value below same pushed before is =
      let here : get_or (zip rows notes) i (d, e) ≡ (get_or rows i d, get_or notes i e) =
      get_or-zip rows notes i (d, e) below (omega arith) in
      ap (map view) pushed ∙ map-append view old (value ∷ [])
      ∙ ap (λ front. front ++ view value ∷ []) before
      ∙ ap (λ last. map (noted_data list) (take i (zip rows notes)) ++ last ∷ []) (is ∙ ap (noted_data list) (sym here))
      ∙ sym (ap (map (noted_data list)) (take_more (zip rows notes) i (d, e) (within below same))
      ∙ map-append (noted_data list) (take i (zip rows notes)) (get_or (zip rows notes) i (d, e) ∷ []))

  -- all rows as data
  pub data-all : {V : Type 0} (view : V → Data) (list : List Definition) (values : List V)
      → length rows ≤ i → length notes ≡ length rows
      → map view values ≡ map (noted_data list) (take i (zip rows notes)) → map view values ≡ map (noted_data list) (zip rows notes)
  data-all view list values past same before =
      let all : length (zip rows notes) ≤ i = omega (arith, length-zip rows notes) in
      before ∙ ap (map (noted_data list)) (take_all i (zip rows notes) all)
