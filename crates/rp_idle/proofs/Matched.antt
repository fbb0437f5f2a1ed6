-- Matched again, each definition has the row that it had or got.
use Rattle.std.proofs.Common.{◌≡◌, ◌∙◌, ℕ, ◌+◌, ◌<◌, false, List, [], length, get_or, Option, Some, None, All, arith, refl, ap, slice_get}
use Rattle.std.specs.Prelude.{IsSome, is_none, is_some}
use Rattle.std.specs.Option.{option_map, option_or}
use Rattle.std.proofs.lemmas.List.{length-map}
use Rattle.std.proofs.lemmas.Option.{get_or_from_slice_get, slice_get-get_or, slice_get-map, slice_get_within}
use Rattle.rp_base.specs.declared.guid.Guid.{Guid}
use Rattle.rp_base.specs.declared.plan.Plan.{Plan}
use Rattle.rp_base.specs.declared.seen.Seen.{Seen}
use Rattle.rp_areas.specs.declared.gaps.Area.{Area}
use Rattle.rp_areas.specs.Matching.{without}
use Rattle.rp_areas.proofs.Public.{matched_len, matched_new, matched_old}
use Rattle.rp_place.specs.declared.threshold.Placed.{Placed}
use Rattle.rp_defs.specs.declared.definition.Definition.{Definition}
use Rattle.rp_sizes.specs.declared.need.Fact.{Fact}
use Rattle.rp_sizes.specs.Needs.{is_new, kinds_of, matched_of}
use Rattle.rp_plan.specs.Kept.{kept_files, place_in, rank_in}
use Rattle.rp_plan.specs.Plannable.{IsGiven}
use Rattle.rp_plan.proofs.Parts.{IsMadeOf}
use Rattle.rp_idle.proofs.Kept.{kept_place}
use Rattle.rp_idle.proofs.Lists.{no_past}
use Rattle.rp_idle.proofs.Rows.{none_dropped, refilled}

module _ (seen : Seen) (target : ℕ) (defs : List Definition) (facts : List Fact) (seed : Guid) (areas : List Area) (placed : Placed)
    (plan : Plan)
    (given : IsGiven seen target defs (matched_of seen.shown defs)) (made : IsMadeOf seen target defs facts seed areas placed plan)
    (whole : plan.dropped ≡ []) where
  abbrev own : List (Option ℕ)
  own = matched_of seen.shown defs

  abbrev again : List (Option ℕ)
  again = matched_of plan.goal defs

  abbrev rows : ℕ
  rows = length seen.shown.rows

  abbrev files : List ℕ
  files = kept_files (matched_of seen.shown defs) placed.threshold defs

  kind_at : (file : ℕ) (def : Definition) → slice_get defs file ≡ Some def → slice_get (kinds_of defs) file ≡ Some def.kind
  kind_at file def at = slice_get-map (λ (d : Definition). d.kind) defs file ∙ ap (option_map (λ (d : Definition). d.kind)) at

  -- a definition's place in the goal is its row there
  abbrev IsPlace : ℕ → ℕ → Type 0
  IsPlace file p = (slice_get again file ≡ Some (Some p)) × (place_in own rows files file ≡ Some p)

  place_by : (file : ℕ) (def : Definition) → slice_get defs file ≡ Some def → (m : Option ℕ) → slice_get own file ≡ Some m
      → (p : ℕ) × IsPlace file p
  place_by file def at (Some p) has = (
    p,
    (
      matched_old seen.shown.rows plan.goal.rows (kinds_of defs) (refilled seen target defs facts seed areas placed plan given made whole)
          file p has,
      ap (λ o. option_or o (option_map (λ rank. rows + rank) (rank_in files file))) (get_or_from_slice_get own file (Some p) None has),
    ),
  )
  place_by file def at None has = (
    rows + without own file,
    (
      matched_new seen.shown.rows plan.goal.rows (kinds_of defs) (refilled seen target defs facts seed areas placed plan given made whole)
          file def.kind
          (kind_at file def at) has,
      ap (λ o. option_or o (option_map (λ rank. rows + rank) (rank_in files file))) (get_or_from_slice_get own file None None has)
          ∙ ap (option_map (λ rank. rows + rank)) (kept_place own placed.threshold defs
          (none_dropped seen target defs facts seed areas placed plan given made whole)
          file def at has),
    ),
  )

  own_length : length own ≡ length defs
  own_length = matched_len seen.shown.rows (kinds_of defs) ∙ length-map defs (λ (d : Definition). d.kind)

  again_length : length again ≡ length defs
  again_length = matched_len plan.goal.rows (kinds_of defs) ∙ length-map defs (λ (d : Definition). d.kind)

  pub row_at : (file : ℕ) (def : Definition) → slice_get defs file ≡ Some def → (p : ℕ) × IsPlace file p
  row_at file def at = place_by file def at (get_or own file None)
      (slice_get-get_or own file None (omega (arith, slice_get_within defs file def at, own_length)))

  -- so none is new
  pub old_again : (file : ℕ) (def : Definition) → slice_get defs file ≡ Some def → is_new again file ≡ false
  old_again file def at = let p = row_at file def at in ap is_none (get_or_from_slice_get again file (Some p.0) None p.1.0)

  all_at : (k : ℕ) (d : Option ℕ) → k < length again → (o : Option Definition) → slice_get defs k ≡ o → IsSome (get_or again k d)
  all_at k d below (Some def) at = let p = row_at k def at in ap is_some (get_or_from_slice_get again k (Some p.0) d p.1.0)
  all_at k d below None at = absurd (no_past defs k (omega (arith, below, again_length)) at)

  pub all_matched : All IsSome again
  all_matched k d below = all_at k d below (slice_get defs k) refl
