-- The rows of a goal that drops nothing: those that were there, and then one for each definition that had none.
use Rattle.std.proofs.Common.{◌≡◌, ◌∙◌, ℕ, zero, suc, ◌+◌, List, [], ◌∷◌, ◌++◌, length, map, take, Option, Some, None, arith, refl, ap, sym, slice_get}
use Rattle.std.specs.List.{enumerate_from}
use Rattle.std.specs.Option.{option_and_then, option_map, option_map_or}
use Rattle.std.proofs.Math.Seq.{take-append_seam}
use Rattle.std.proofs.lemmas.List.{length-map, map-append}
use Rattle.std.proofs.lemmas.Option.{slice_get-map}
use Rattle.rp_base.specs.declared.guid.Guid.{Guid}
use Rattle.rp_base.specs.declared.plan.Plan.{Plan}
use Rattle.rp_base.specs.declared.seen.Seen.{Seen}
use Rattle.rp_base.specs.declared.table.Row.{Row}
use Rattle.rp_areas.specs.Areas.{file_of}
use Rattle.rp_areas.specs.declared.gaps.Area.{Area}
use Rattle.rp_areas.specs.Matching.{IsRefilled, without}
use Rattle.rp_place.specs.declared.threshold.Placed.{Placed}
use Rattle.rp_layout.specs.declared.spot.Spot.{Spot}
use Rattle.rp_layout.specs.Layout.{spot_at}
use Rattle.rp_defs.specs.declared.definition.Definition.{Definition}
use Rattle.rp_sizes.specs.declared.need.Fact.{Fact}
use Rattle.rp_sizes.specs.Needs.{kinds_of, matched_of}
use Rattle.rp_plan.specs.Kept.{dropped_files, first_free, kept_of}
use Rattle.rp_plan.specs.Plannable.{IsGiven}
use Rattle.rp_plan.specs.Rows.{row_again, row_for, rows_laid}
use Rattle.rp_plan.proofs.Formed.{is_named}
use Rattle.rp_plan.proofs.Listing.{map_same, through}
use Rattle.rp_plan.proofs.Naming.{bare}
use Rattle.rp_plan.proofs.Parts.{IsMadeOf}
use Rattle.rp_plan.proofs.Written.{spots}
use Rattle.rp_idle.proofs.Kept.{kept_rank}

kind_again : (o : Option Spot) (row : Row) → (option_map_or (λ (s : Spot). record row { size = s.size }) o row).kind ≡ row.kind
kind_again None row = refl
kind_again (Some s) row = refl

seconds : {X Y : Type 0} (f : X → Y) (n : ℕ) (xs : List X) → map (λ (e : ℕ × X). f e.1) (enumerate_from n xs) ≡ map f xs
seconds f n [] = refl
seconds f n (x ∷ xs) = ap (λ ys. f x ∷ ys) (seconds f (n + 1) xs)

-- what stands behind so many items
pub behind : {X : Type 0} (xs ys : List X) (n k : ℕ) → n ≡ length xs → slice_get (xs ++ ys) (n + k) ≡ slice_get ys k
behind [] ys n k is = ap (slice_get ys) (let h : n + k ≡ k = omega (arith, is) in h)
behind (x ∷ xs) ys zero k is = absurd (omega (arith, is))
behind (x ∷ xs) ys (suc n) k is =
    ap (slice_get (x ∷ (xs ++ ys))) (let h : suc n + k ≡ suc (n + k) = omega arith in h) ∙ behind xs ys n k (omega (arith, is))

kind_is : (o : Option Definition) (kind : Guid) (def : Definition) → o ≡ Some def → option_map (λ (d : Definition). d.kind) o ≡ Some kind
    → def.kind ≡ kind
kind_is None kind def at is = absurd (cc)
kind_is (Some d) kind def at is = let same : d ≡ def = cc in let here : d.kind ≡ kind = cc in sym (ap (λ (x : Definition). x.kind) same)
    ∙ here

defined : (o : Option Definition) (kind : Guid) → option_map (λ (d : Definition). d.kind) o ≡ Some kind
    → (def : Definition) × (o ≡ Some def)
defined None kind is = absurd (cc)
defined (Some d) kind is = (d, refl)

-- the definition of a type
pub definition_of : (defs : List Definition) (file : ℕ) (kind : Guid) → slice_get (kinds_of defs) file ≡ Some kind
    → (def : Definition) × (slice_get defs file ≡ Some def) × (def.kind ≡ kind)
definition_of defs file kind at =
    let is = sym (slice_get-map (λ (d : Definition). d.kind) defs file) ∙ at in
    let found = defined (slice_get defs file) kind is in
    (found.0, found.1, kind_is (slice_get defs file) kind found.0 found.1 is)

module _ (seen : Seen) (target : ℕ) (defs : List Definition) (facts : List Fact) (seed : Guid) (areas : List Area) (placed : Placed)
    (plan : Plan)
    (given : IsGiven seen target defs (matched_of seen.shown defs)) (made : IsMadeOf seen target defs facts seed areas placed plan)
    (whole : plan.dropped ≡ []) where
  abbrev own : List (Option ℕ)
  own = matched_of seen.shown defs

  abbrev place : List (Option Spot)
  place = spots seen target defs facts seed areas placed plan given made

  abbrev laid_rows : List Row
  laid_rows = rows_laid seen.shown.rows (matched_of seen.shown defs) placed.threshold defs
      (spots seen target defs facts seed areas placed plan given made)

  pub none_dropped : dropped_files (matched_of seen.shown defs) placed.threshold defs ≡ []
  none_dropped = sym (ap (λ (p : Plan). p.dropped) made.same) ∙ whole

  abbrev kind_of : Row → Guid
  kind_of r = r.kind

  abbrev kind_kept : ℕ × Definition → Guid
  kind_kept e = e.1.kind

  -- the types: those that were there, and then those of the definitions that are kept
  goal_kinds : map kind_of plan.goal.rows ≡ map kind_of seen.shown.rows ++ map kind_kept (kept_of own placed.threshold defs)
  goal_kinds =
      let old = map (row_again own place) (enumerate_from 0 seen.shown.rows) in
      let new = map (row_for place) (enumerate_from (first_free seen.shown.rows) (kept_of own placed.threshold defs)) in
      through bare kind_of kind_of (λ r. refl) plan.goal.rows laid_rows
      (is_named seen target defs facts seed areas placed plan given made).rows
      ∙ map-append kind_of old new
      ∙ ap (λ ks. ks ++ map kind_of new)
      (map_same kind_of (row_again own place) (λ (e : ℕ × Row). e.1.kind)
      (λ e. kind_again (option_and_then (spot_at place) (file_of own e.0)) e.1) (enumerate_from 0 seen.shown.rows)
      ∙ seconds kind_of 0 seen.shown.rows)
      ∙ ap (λ ks. map kind_of seen.shown.rows ++ ks)
      (map_same kind_of (row_for place) (λ (e : ℕ × (ℕ × Definition)). e.1.1.kind) (λ e. refl)
      (enumerate_from (first_free seen.shown.rows) (kept_of own placed.threshold defs))
      ∙ seconds kind_kept (first_free seen.shown.rows) (kept_of own placed.threshold defs))

  -- a row was added, in order, for each definition that had none
  pub refilled : IsRefilled seen.shown.rows plan.goal.rows (kinds_of defs)
  refilled = record {
    first = ap (take (length seen.shown.rows)) goal_kinds
        ∙ ap (λ n. take n (map kind_of seen.shown.rows ++ map kind_kept (kept_of own placed.threshold defs)))
        (sym (length-map seen.shown.rows kind_of))
        ∙ take-append_seam (map kind_of seen.shown.rows) (map kind_kept (kept_of own placed.threshold defs));
    more = λ file kind at free.
        let d = definition_of defs file kind at in
        ap (λ ks. slice_get ks (length seen.shown.rows + without own file)) goal_kinds
        ∙ behind (map kind_of seen.shown.rows) (map kind_kept (kept_of own placed.threshold defs)) (length seen.shown.rows)
        (without own file)
        (sym (length-map seen.shown.rows kind_of))
        ∙ slice_get-map kind_kept (kept_of own placed.threshold defs) (without own file)
        ∙ ap (option_map kind_kept) (kept_rank own placed.threshold defs none_dropped file d.0 d.1 free)
        ∙ ap (λ k. Some k) d.2;
  }
