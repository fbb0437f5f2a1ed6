-- The rows of the goal keep to the limits of their definitions.
use Rattle.std.proofs.Common.{◌≡◌, ◌∙◌, ◌⊎◌, ℕ, ◌+◌, ◌<◌, List, length, get_or, Option, Some, None, IfSome, Ok, All, arith, inl, inr, refl, ap, sym, subst, slice_get}
use Rattle.std.specs.Prelude.{int_le, unwrap_or}
use Rattle.std.specs.Option.{option_and_then, option_map_or}
use Rattle.std.proofs.lemmas.Option.{slice_get-get_or, slice_get_within}
use Rattle.rp_base.specs.Plan.{IsTarget, noted_of}
use Rattle.rp_base.specs.declared.guid.Guid.{Guid}
use Rattle.rp_base.specs.declared.plan.Note.{Note}
use Rattle.rp_base.specs.declared.plan.Plan.{Plan}
use Rattle.rp_base.specs.declared.seen.Seen.{Seen}
use Rattle.rp_base.specs.declared.table.Row.{Row}
use Rattle.rp_base.specs.declared.want.Want.{Want}
use Rattle.rp_areas.specs.Areas.{file_of, want_at}
use Rattle.rp_areas.specs.declared.gaps.Area.{Area}
use Rattle.rp_place.specs.declared.threshold.Placed.{Placed}
use Rattle.rp_layout.specs.declared.spot.Spot.{Spot}
use Rattle.rp_layout.specs.Facts.{IsSpot}
use Rattle.rp_layout.specs.Layout.{spot_at}
use Rattle.rp_layout.specs.Seats.{row_of}
use Rattle.rp_defs.specs.WellFormed.{IsWellFormed as AreWellFormed}
use Rattle.rp_defs.specs.declared.definition.Definition.{Definition}
use Rattle.rp_sizes.specs.declared.need.Fact.{Fact}
use Rattle.rp_sizes.specs.Needs.{AreFactsOn, is_new, matched_of, wanted_of}
use Rattle.rp_sizes.specs.Sizes.{asked}
use Rattle.rp_plan.specs.Goal.{goal}
use Rattle.rp_plan.specs.Kept.{kept_of}
use Rattle.rp_plan.specs.Limits.{KeepsLimits, KeepsOwnLimits, ObeysLimits}
use Rattle.rp_plan.specs.Plannable.{IsGiven, IsPlannable}
use Rattle.rp_plan.specs.Rows.{last_of, row_again}
use Rattle.rp_plan.proofs.Fitting.{laid_at, new_row_at, old_row_at}
use Rattle.rp_plan.proofs.Formed.{is_named}
use Rattle.rp_plan.proofs.Given.{matched_length, no_row}
use Rattle.rp_plan.proofs.KeptLemmas.{and_both, owner_has}
use Rattle.rp_plan.proofs.Naming.{bare}
use Rattle.rp_plan.proofs.Parts.{IsMadeOf, made_of}
use Rattle.rp_plan.proofs.Reached.{found_reach}
use Rattle.rp_plan.proofs.Ready.{no_row_of}
use Rattle.rp_plan.proofs.Whole.{is_taken, new_at, old_at, which, zip_at}
use Rattle.rp_plan.proofs.Written.{kept_spot, own_spot, spots}

module _ (seen : Seen) (target : ℕ) (defs : List Definition) (facts : List Fact) (seed : Guid) (areas : List Area) (placed : Placed) (plan : Plan)
    (given : IsGiven seen target defs (matched_of seen.shown defs)) (made : IsMadeOf seen target defs facts seed areas placed plan)
    (are : AreFactsOn (wanted_of seen.shown defs) facts) where
  abbrev own : List (Option ℕ)
  own = matched_of seen.shown defs

  abbrev place : List (Option Spot)
  place = spots seen target defs facts seed areas placed plan given made

  abbrev asks : ℕ → Want
  asks file = want_at (asked (matched_of seen.shown defs) defs facts) file

  to_last : (file : ℕ) (old : Option Row) (s : Spot) → IsSpot seen.shown.first (last_of seen target) (asks file) old s
      → IsSpot seen.shown.first plan.goal.last (asks file) old s
  to_last file old s is = subst (λ (last : ℕ). IsSpot seen.shown.first last (asks file) old s)
      (sym (is_named seen target defs facts seed areas placed plan given made).last) is

  by_spot : (k file : ℕ) (row g : Row) → slice_get seen.shown.rows k ≡ Some row → file_of own k ≡ Some file → (o : Option Spot)
      → spot_at place file ≡ o → bare g ≡ bare (option_map_or (λ (s : Spot). record row { size = s.size }) o row)
      → (g.size ≡ row.size) ⊎ KeepsLimits plan seen.shown.first (asks file) (Some row) g
  by_spot k file row g at owner None found same = inl (ap (λ (r : Row). r.size) same)
  by_spot k file row g at owner (Some s) found same =
      let spot = own_spot seen target defs facts seed areas placed plan given made k file row s at owner found in
      inr (s, spot.kind.start ∙ sym (ap (λ (r : Row). r.start) same), sym (ap (λ (r : Row). r.size) same), to_last file (Some row) s spot)

  old_limits : (k : ℕ) (row g : Row) → slice_get seen.shown.rows k ≡ Some row → bare g ≡ bare (row_again own place (k, row)) → (f : Option ℕ)
      → file_of own k ≡ f → IfSome f (λ file. KeepsOwnLimits plan seen.shown.first (asks file) (row_of seen.shown.rows own file) g)
  old_limits k row g at same None owner = tt
  old_limits k row g at same (Some file) owner =
      let has : row_of seen.shown.rows own file ≡ Some row = ap (λ o. option_and_then (slice_get seen.shown.rows) (unwrap_or o None))
      (owner_has own k file owner) ∙ at in
      let again : Option ℕ → Row = λ f. option_map_or (λ (s : Spot). record row { size = s.size }) (option_and_then (spot_at place) f) row in
      subst (λ (o : Option Row). KeepsOwnLimits plan seen.shown.first (asks file) o g) (sym has)
      (by_spot k file row g at owner (spot_at place file) refl (same ∙ ap (λ f. bare (again f)) owner))

  new_limits : (j : ℕ) (e : ℕ × Definition) (d : Row) → length seen.shown.rows + j < length plan.goal.rows
      → slice_get (kept_of own placed.threshold defs) j ≡ Some e
      → KeepsOwnLimits plan seen.shown.first (asks e.0) (row_of seen.shown.rows own e.0) (get_or plan.goal.rows (length seen.shown.rows + j) d)
  new_limits j e d inside at =
      let g = get_or plan.goal.rows (length seen.shown.rows + j) d in
      let both = is_taken seen target defs facts seed areas placed plan given made are j e at in
      let found = kept_spot seen target defs facts seed areas placed plan given made e.0 e.1 both.0 both.1 in
      let s : Spot = found.0 in
      let same = laid_at seen target defs facts seed areas placed plan given made are (length seen.shown.rows + j) d inside
      ∙ ap bare (new_row_at seen target defs facts seed areas placed plan given made are j e d at) in
      let reach = found_reach place e.0 s found.1 in
      let start : g.start ≡ s.start = ap (λ (r : Row). r.start) same ∙ ap (λ (r : ℕ × ℕ). r.0) reach in
      let size : g.size ≡ s.size = ap (λ (r : Row). r.size) same ∙ ap (λ (r : ℕ × ℕ). r.1) reach in
      let fresh = (and_both (is_new own e.0) (int_le e.1.priority placed.threshold) both.1).0 in
      let none : row_of seen.shown.rows own e.0 ≡ None = ap (λ o. option_and_then (slice_get seen.shown.rows) (unwrap_or o None))
      (no_row_of own e.0 (omega (arith, slice_get_within defs e.0 e.1 both.0, matched_length seen target defs own given)) fresh) in
      subst (λ (o : Option Row). KeepsOwnLimits plan seen.shown.first (asks e.0) o g) (sym none)
      (s, sym start, sym size, to_last e.0 None s found.2)

  pub all_limited : All (ObeysLimits seen defs facts plan) (noted_of plan)
  all_limited k d below =
      let z = zip_at seen target defs facts seed areas placed plan given made are k d below in
      subst (ObeysLimits seen defs facts plan) (sym z.1) (elim (which seen target defs facts seed areas placed plan given made are k z.0) [
        | inl old ↦
            let note = old_at seen target defs facts seed areas placed plan given made are k d.1 old in
            let row = get_or seen.shown.rows k no_row in
            subst (λ (n : Note). ObeysLimits seen defs facts plan (get_or plan.goal.rows k d.0, n)) (sym note.1)
            (old_limits k row (get_or plan.goal.rows k d.0) (slice_get-get_or seen.shown.rows k no_row old)
            (laid_at seen target defs facts seed areas placed plan given made are k d.0 z.0
            ∙ ap bare (old_row_at seen target defs facts seed areas placed plan given made are k d.0 old)) (file_of own k) refl)
        | inr (j, e, at, is) ↦
            subst (λ (p : ℕ). ObeysLimits seen defs facts plan (get_or plan.goal.rows p d.0, get_or plan.notes p d.1)) (sym is)
            (subst (λ (n : Note). ObeysLimits seen defs facts plan (get_or plan.goal.rows (length seen.shown.rows + j) d.0, n))
            (sym (new_at seen target defs facts seed areas placed plan given made are j e d.1 at))
            (new_limits j e d.0 (omega (arith, z.0, is)) at))
      ])

-- the rows of a goal that is a plan keep to the limits
pub goal_limited : (seen : Seen) (target : ℕ) (defs : List Definition) (facts : List Fact) (seed : Guid) (plan : Plan) → IsPlannable seen
    → IsTarget seen.shown.sector seen.sectors target → AreWellFormed defs → AreFactsOn (wanted_of seen.shown defs) facts
    → goal seen target defs facts seed ≡ Ok plan → All (ObeysLimits seen defs facts plan) (noted_of plan)
goal_limited seen target defs facts seed plan plannable aim wf are is =
    let made = made_of seen target defs facts seed plan is in
    all_limited seen target defs facts seed made.0 made.1 plan
    (record { plannable = plannable; aim = aim; well_formed = wf; own = refl }) made.2 are
