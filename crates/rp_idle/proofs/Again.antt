-- The goal for a goal's table is that table.
use Rattle.std.proofs.Common.{◌≡◌, ◌∙◌, ℕ, ℤ, suc, ◌-◌, ◌/◌, ◌^◌, ◌≤◌, true, List, [], ◌∷◌, ◌++◌, length, map, Option, Some, None, Result, Ok, Err, All, arith, refl, ap, sym, slice_get}
use Rattle.std.specs.Prelude.{pos, unwrap_or}
use Rattle.std.specs.List.{enumerate_from}
use Rattle.std.specs.Option.{option_and_then, option_map_or}
use Rattle.std.proofs.lemmas.List.{append-nil}
use Rattle.rp_base.specs.Geometry.{sector_units, usable_end}
use Rattle.rp_base.specs.declared.guid.Guid.{Guid}
use Rattle.rp_base.specs.declared.plan.Plan.{Plan}
use Rattle.rp_base.specs.declared.seen.Seen.{Seen}
use Rattle.rp_base.specs.declared.table.Row.{Row}
use Rattle.rp_base.specs.declared.table.Table.{Table}
use Rattle.rp_base.specs.declared.want.Want.{Want}
use Rattle.rp_areas.specs.Again.{IsFilled, Piece, areas_filled, rows_by_start}
use Rattle.rp_areas.specs.Areas.{area_before, areas_behind, areas_of, extents_of, least_refusal, limit_of, refusals_of, want_at}
use Rattle.rp_areas.specs.declared.behind.Refusal.{Refusal}
use Rattle.rp_areas.specs.declared.extents.Extent.{Extent}
use Rattle.rp_areas.specs.declared.gaps.Area.{Area}
use Rattle.rp_areas.specs.declared.gaps.AreaFault.{AreaFault}
use Rattle.rp_areas.specs.declared.gaps.AreaFault.TheVariants.{Existing}
use Rattle.rp_areas.proofs.Public.{areas_of_again}
use Rattle.rp_place.specs.Placing.{settled}
use Rattle.rp_place.specs.declared.fit.New.{New}
use Rattle.rp_place.specs.declared.fit.PlaceFault.{PlaceFault}
use Rattle.rp_place.specs.declared.threshold.Placed.{Placed}
use Rattle.rp_place.proofs.Public.{nothing_new}
use Rattle.rp_layout.specs.Again.{AreIdle, AsksFor}
use Rattle.rp_layout.specs.Layout.{laid, stack_in, stacks_of}
use Rattle.rp_layout.specs.Seats.{row_of, units_at}
use Rattle.rp_layout.specs.declared.spot.Spot.{Spot}
use Rattle.rp_layout.proofs.Public.{areas_of_own, filled_again, idle_here}
use Rattle.rp_defs.specs.declared.definition.Definition.{Definition}
use Rattle.rp_demand.specs.declared.demand.Demand.{Demand}
use Rattle.rp_ident.specs.declared.fault.IdentFault.{IdentFault}
use Rattle.rp_ident.specs.Naming.{named}
use Rattle.rp_sizes.specs.declared.need.Fact.{Fact}
use Rattle.rp_sizes.specs.Needs.{is_new, matched_of}
use Rattle.rp_sizes.specs.News.{news_of}
use Rattle.rp_sizes.specs.Sizes.{asked}
use Rattle.rp_plan.specs.Goal.{after, area_demand, goal, goal_table, ident_demand, place_demand, plan_among, plan_asked, plan_placed, plan_with, spots_of, unless}
use Rattle.rp_plan.specs.Kept.{dropped_file, dropped_files, first_free, free_slots, kept_files, kept_of}
use Rattle.rp_plan.specs.Names.{namings_of}
use Rattle.rp_plan.specs.Plannable.{IsGiven}
use Rattle.rp_plan.specs.Rows.{last_of, row_for, rows_laid, table_laid}
use Rattle.rp_plan.proofs.Formed.{is_named}
use Rattle.rp_plan.proofs.Given.{matched_length}
use Rattle.rp_plan.proofs.Parts.{IsMadeOf}
use Rattle.rp_plan.proofs.Ready.{no_row_of}
use Rattle.rp_plan.proofs.Written.{ready}
use Rattle.std.proofs.lemmas.Option.{slice_get_within}
use Rattle.rp_idle.proofs.Extents.{extents_same}
use Rattle.rp_idle.proofs.Lists.{no_answers}
use Rattle.rp_idle.proofs.Matched.{old_again}
use Rattle.rp_idle.proofs.Named.{named_again}
use Rattle.rp_idle.proofs.Settled.{IsSettled, all_idle, filled_settled}
use Rattle.rp_idle.proofs.Sizes.{rows_same}
use Rattle.rp_idle.proofs.Wanted.{AllHave, asks_for, in_limits, no_demand, no_news, none_kept}

-- what areas are answered are those between the rows
answered : (o : Option Refusal) (ys areas : List Area) → option_map_or (λ r. Err (Existing r.file r.need r.have)) o (Ok ys) ≡ Ok areas
    → ys ≡ areas
answered None ys areas is = let e : ◌≡◌ {A = Result (List Area) AreaFault} (Ok ys) (Ok areas) = is in cc
answered (Some r) ys areas is = absurd (let e : ◌≡◌ {A = Result (List Area) AreaFault} (Err (Existing r.file r.need r.have))
    (Ok areas) = is in cc)

module _ (seen : Seen) (target : ℕ) (defs : List Definition) (facts : List Fact) (seed : Guid) (areas : List Area) (placed : Placed)
    (plan : Plan)
    (given : IsGiven seen target defs (matched_of seen.shown defs)) (made : IsMadeOf seen target defs facts seed areas placed plan)
    (whole : plan.dropped ≡ []) (others : List Fact) where
  abbrev own : List (Option ℕ)
  own = matched_of seen.shown defs

  abbrev again : List (Option ℕ)
  again = matched_of plan.goal defs

  abbrev last : ℕ
  last = last_of seen target

  abbrev asks : List Want
  asks = asked (matched_of seen.shown defs) defs facts

  abbrev own_asks : List Want
  own_asks = asked (matched_of plan.goal defs) defs others

  abbrev new_ones : List New
  new_ones = news_of (matched_of seen.shown defs) (asked (matched_of seen.shown defs) defs facts) defs

  abbrev stack : ℕ × Area → List Piece
  stack = stack_in seen.shown.rows (matched_of seen.shown defs) (asked (matched_of seen.shown defs) defs facts)
      (news_of (matched_of seen.shown defs) (asked (matched_of seen.shown defs) defs facts) defs) placed.areas

  abbrev rows_now : List Extent
  rows_now = rows_by_start seen.shown (matched_of seen.shown defs)

  abbrev before_area : Area
  before_area = area_before seen.shown.first (last_of seen target) (rows_by_start seen.shown (matched_of seen.shown defs))

  abbrev behind_areas : List Area
  behind_areas = areas_behind (last_of seen target) (asked (matched_of plan.goal defs) defs others)
      (rows_by_start seen.shown (matched_of seen.shown defs))

  abbrev before : List Piece
  before = stack (0, before_area)

  abbrev stacks : List (List Piece)
  stacks = map stack (enumerate_from 1 behind_areas)

  have : AllHave again defs
  have = old_again seen target defs facts seed areas placed plan given made whole

  no_units : (file : ℕ) (def : Definition) → slice_get defs file ≡ Some def → is_new own file ≡ true → units_at seen.shown.rows own file ≡ 0
  no_units file def at new =
      let none : row_of seen.shown.rows own file ≡ None = ap (λ o. option_and_then (slice_get seen.shown.rows) (unwrap_or o None))
      (no_row_of own file (omega (arith, slice_get_within defs file def at, matched_length seen target defs own given)) new) in
      ap (λ (o : Option Row). option_map_or (λ (row : Row). row.size) o 0) none

  asked_more : (file : ℕ) → AsksFor (want_at own_asks file) (units_at seen.shown.rows own file) (want_at asks file)
  asked_more = asks_for own again defs facts others have given.well_formed (units_at seen.shown.rows own) no_units

  limits : (file : ℕ) → (want_at own_asks file).min ≤ (want_at own_asks file).max
  limits = in_limits own again defs facts others have given.well_formed (units_at seen.shown.rows own) no_units

  -- the areas of the first run, by what definitions say themselves
  areas_are : areas ≡ before_area ∷ behind_areas
  areas_are = sym (answered (least_refusal (refusals_of last own_asks rows_now)) (before_area ∷ behind_areas) areas
      (areas_of_own seen.shown last own asks areas new_ones placed (ready seen target defs facts seed areas placed plan given made)
      own_asks asked_more ∙ made.are))

  stacks_are : stacks_of seen.shown.rows own asks areas new_ones placed.areas ≡ before ∷ stacks
  stacks_are = ap (λ (list : List Area). map stack (enumerate_from 0 list)) areas_are

  filled : IsFilled seen.shown plan.goal last own again own_asks before stacks
  filled = filled_again seen.shown last own asks areas new_ones placed (ready seen target defs facts seed areas placed plan given made)
      own_asks asked_more
      plan.goal again before stacks
      (is_named seen target defs facts seed areas placed plan given made).first
      (is_named seen target defs facts seed areas placed plan given made).last
      (extents_same seen target defs facts seed areas placed plan given made whole) stacks_are

  abbrev next_areas : List Area
  next_areas = areas_filled seen.shown last own own_asks before stacks

  areas_again : areas_of plan.goal last again own_asks ≡ Ok next_areas
  areas_again = areas_of_again seen.shown plan.goal last own again own_asks before stacks filled

  -- the area at a place
  area_at : (i : ℕ) (area : Area) → slice_get (before_area ∷ behind_areas) i ≡ Some area → slice_get areas i ≡ Some area
  area_at i area at = ap (λ (list : List Area). slice_get list i) areas_are ∙ at

  idle_at : (i : ℕ) (area : Area) (limit : ℕ) → slice_get (before_area ∷ behind_areas) i ≡ Some area → area.span ≡ limit - area.from
      → AreIdle own_asks limit area.from (stack (i, area))
  idle_at i area limit at long = idle_here seen.shown last own asks areas new_ones placed
      (ready seen target defs facts seed areas placed plan given made)
      own_asks limits asked_more i area (area_at i area at) limit long

  settled_areas : All (IsSettled own_asks (extents_of plan.goal.rows again)) next_areas
  settled_areas = filled_settled own_asks (extents_of plan.goal.rows again) seen.shown last own before stacks
      (idle_at 0 before_area (limit_of last rows_now) refl refl)
      (all_idle own_asks (extents_of plan.goal.rows again) last stack 1 rows_now (λ j i area limit e at long.
      idle_at i area limit (let place : i ≡ suc j = omega (arith, e) in ap (slice_get (before_area ∷ behind_areas)) place ∙ at) long))
      filled.all

  -- the rows as they are laid out again
  rows_again : (t : ℤ) → rows_laid plan.goal.rows again t defs (laid plan.goal.rows again own_asks next_areas [] []) ≡ plan.goal.rows
  rows_again t =
      let place : List (Option Spot) = laid plan.goal.rows again own_asks next_areas [] [] in
      ap (λ (rs : List Row). rs ++ map (row_for place) (enumerate_from (first_free plan.goal.rows) (kept_of again t defs)))
      (rows_same plan.goal.rows again own_asks next_areas (extents_of plan.goal.rows again) refl settled_areas)
      ∙ ap (λ (es : List (ℕ × Definition)). plan.goal.rows ++ map (row_for place) (enumerate_from (first_free plan.goal.rows) es))
      (none_kept again defs have t)
      ∙ append-nil plan.goal.rows

  module _ (next : Seen) (other : Guid) where
    abbrev pub shown_again : Seen
    shown_again = record next { shown = plan.goal }

    abbrev nothing : Placed
    nothing = record { threshold = pos (2 ^ 31 - 1); areas = [] }

    last_again : last_of shown_again target ≡ last
    last_again =
        let is = is_named seen target defs facts seed areas placed plan given made in
        ap (λ s. usable_end s plan.goal.entries (target / sector_units s) - 1) is.sector
        ∙ ap (λ e. usable_end seen.shown.sector e (target / sector_units seen.shown.sector) - 1) is.entries

    table_same : table_laid shown_again target plan.goal.rows ≡ plan.goal
    table_same = ap (λ n. record plan.goal { last = n }) (last_again
        ∙ sym (is_named seen target defs facts seed areas placed plan given made).last)

    none_new : news_of again own_asks defs ≡ []
    none_new = no_news again defs have own_asks

    settled_again : settled next_areas (news_of again own_asks defs) (free_slots plan.goal) ≡ Ok nothing
    settled_again = ap (λ (ns : List New). settled next_areas ns (free_slots plan.goal)) none_new
        ∙ nothing_new next_areas (free_slots plan.goal)

    table_again : goal_table shown_again target defs others other own_asks next_areas nothing ≡ Ok plan.goal
    unfolding goal_table spots_of
    table_again =
        let namings = namings_of others again (length plan.goal.rows) (kept_files again (pos (2 ^ 31 - 1)) defs) defs in
        ap (λ (ns : List New). named (table_laid shown_again target (rows_laid plan.goal.rows again (pos (2 ^ 31 - 1)) defs
        (laid plan.goal.rows again own_asks next_areas ns []))) namings other) none_new
        ∙ ap (λ (rs : List Row). named (table_laid shown_again target rs) namings other) (rows_again (pos (2 ^ 31 - 1)))
        ∙ ap (λ (t : Table). named t namings other) table_same
        ∙ named_again seen target defs facts seed areas placed plan given made whole others (length plan.goal.rows)
        (kept_files again (pos (2 ^ 31 - 1)) defs) other

    -- the goal is a plan with the same table
    pub goal_again : goal shown_again target defs others other ≡ Ok (plan_with shown_again target defs others other (pos (2 ^ 31 - 1))
        plan.goal)
    unfolding goal plan_asked plan_among plan_placed
    goal_again =
        ap (λ (o : Option Demand). unless o (plan_asked shown_again target defs others other own_asks))
        (no_demand again defs others have given.well_formed)
        ∙ ap (λ (r : Result (List Area) AreaFault). after area_demand r
        (λ list. plan_among shown_again target defs others other own_asks list))
        (ap (λ n. areas_of plan.goal n again own_asks) last_again ∙ areas_again)
        ∙ ap (λ (r : Result Placed PlaceFault). after place_demand r (λ p. plan_placed shown_again target defs others other own_asks
        next_areas p)) settled_again
        ∙ ap (λ (r : Result Table IdentFault). after ident_demand r (λ t. Ok
        (plan_with shown_again target defs others other (pos (2 ^ 31 - 1)) t))) table_again

    -- which drops nothing
    pub none_dropped_again : dropped_files again (pos (2 ^ 31 - 1)) defs ≡ []
    none_dropped_again = no_answers (dropped_file again (pos (2 ^ 31 - 1))) 0 defs (λ k m def e at.
        let here : m ≡ k = omega (arith, e) in rw (have m def (ap (slice_get defs) here ∙ at)) refl)
