-- A blank image gets a row for each definition that is never dropped.
use Rattle.std.proofs.Common.{T, ◌≡◌, ◌∙◌, ℕ, ℤ, zero, suc, pos, ◌+◌, ◌≤ℤ◌, Bool, true, false, cond, List, [], ◌∷◌, ◌++◌, length, map, Option, Some, None, Ok, All, refl, ap, zero-add}
use Rattle.std.specs.Prelude.{◌&&◌, filter, int_le, is_none, not, slice_index_or}
use Rattle.std.specs.List.{cons_option, enumerate_from, filter_map}
use Rattle.std.proofs.lemmas.List.Elements.{All-head, All-tail}
use Rattle.std.proofs.lemmas.List.FromFn.{length-enumerate_from}
use Rattle.rp_areas.specs.Matching.{match_of, matches_of}
use Rattle.rp_areas.specs.declared.gaps.Area.{Area}
use Rattle.rp_base.specs.Plan.{IsTarget}
use Rattle.rp_base.specs.declared.guid.Guid.{Guid}
use Rattle.rp_base.specs.declared.plan.Plan.{Plan}
use Rattle.rp_base.specs.declared.seen.Seen.{Seen}
use Rattle.rp_base.specs.declared.table.Row.{Row}
use Rattle.rp_base.specs.declared.table.Table.{Table}
use Rattle.rp_defs.specs.WellFormed.{IsWellFormed as AreWellFormed}
use Rattle.rp_defs.specs.declared.definition.Definition.{Definition}
use Rattle.rp_make_definitions.specs.Made.{IsMade}
use Rattle.rp_place.specs.declared.threshold.Placed.{Placed}
use Rattle.rp_place.proofs.Public.{kept_settled}
use Rattle.rp_plan.specs.Goal.{goal, notes_of}
use Rattle.rp_plan.specs.Kept.{dropped_file, first_free, free_slots, is_kept, kept_files, kept_of}
use Rattle.rp_plan.specs.Notes.{new_note, old_note}
use Rattle.rp_plan.specs.Plannable.{IsPlannable}
use Rattle.rp_plan.proofs.Parts.{IsMadeOf, made_of}
use Rattle.rp_plan.proofs.Whole.{goal_count}
use Rattle.rp_sizes.specs.Needs.{AreFactsOn, is_new, kinds_of, matched_of, wanted_of}
use Rattle.rp_sizes.specs.News.{news_of}
use Rattle.rp_sizes.specs.Sizes.{asked}
use Rattle.rp_sizes.specs.declared.need.Fact.{Fact}

-- no definition has a row of none
none_at : (kinds : List Guid) (n k : ℕ) (list : List Guid) → slice_index_or (map (match_of [] kinds) (enumerate_from n list)) k None ≡ None
none_at kinds n k [] = refl
none_at kinds n zero (kind ∷ list) = refl
none_at kinds n (suc k) (kind ∷ list) = none_at kinds (n + 1) k list

pub all_new : (table : Table) (list : List Definition) (k : ℕ) → table.rows ≡ [] → is_new (matched_of table list) k ≡ true
all_new table list k none =
    ap (λ (rows : List Row). is_new (matches_of rows (kinds_of list)) k) none
    ∙ ap (λ (o : Option ℕ). is_none o) (none_at (kinds_of list) 0 k (kinds_of list))

truth : (b : Bool) → T b → b ≡ true
truth true t = refl
truth false t = absurd t

le_true : (a b : ℤ) → a ≤ℤ b → int_le a b ≡ true
le_true a b h = truth (int_le a b) h.le

-- a priority of 0 is at most each threshold
passes : (priority threshold : ℤ) → priority ≡ pos 0 → pos 0 ≤ℤ threshold → int_le priority threshold ≡ true
passes priority threshold is low = ap (λ (z : ℤ). int_le z threshold) is ∙ le_true (pos 0) threshold low

kept_step : (b : Bool) (e : ℕ × Definition) (rest all : List (ℕ × Definition)) → b ≡ true → rest ≡ all → cond b (e ∷ rest) rest ≡ e ∷ all
kept_step true e rest all is same = ap (λ (l : List (ℕ × Definition)). e ∷ l) same
kept_step false e rest all is same = absurd (cc)

module _ (matched : List (Option ℕ)) (threshold : ℤ) (new : (k : ℕ) → is_new matched k ≡ true) (low : pos 0 ≤ℤ threshold) where
  kept_from : (n : ℕ) (list : List Definition) → All IsMade list
      → filter (is_kept matched threshold) (enumerate_from n list) ≡ enumerate_from n list
  kept_from n [] each = refl
  kept_from n (definition ∷ list) each =
      kept_step (is_new matched n && int_le definition.priority threshold) (n, definition)
      (filter (is_kept matched threshold) (enumerate_from (n + 1) list)) (enumerate_from (n + 1) list)
      (ap (λ (b : Bool). b && int_le definition.priority threshold) (new n)
      ∙ passes definition.priority threshold (All-head IsMade definition list each).priority low)
      (kept_from (n + 1) list (All-tail IsMade definition list each))

module _ (seen : Seen) (target : ℕ) (list : List Definition) (facts : List Fact) (seed : Guid) (plan : Plan) (none : seen.shown.rows ≡ [])
    (each : All IsMade list) (is : goal seen target list facts seed ≡ Ok plan) where
  abbrev own : List (Option ℕ)
  own = matched_of seen.shown list

  pub made : (areas : List Area) × (placed : Placed) × IsMadeOf seen target list facts seed areas placed plan
  made = made_of seen target list facts seed plan is

  -- each definition is kept
  pub all_kept : kept_of (matched_of seen.shown list) made.1.threshold list ≡ enumerate_from 0 list
  all_kept = kept_from own made.1.threshold (λ k. all_new seen.shown list k none)
      (kept_settled made.0 (news_of own (asked own list facts) list) (free_slots seen.shown) made.1 made.2.settles).low 0 list each

  pub rows_are : IsPlannable seen → IsTarget seen.shown.sector seen.sectors target → AreWellFormed list
      → AreFactsOn (wanted_of seen.shown list) facts → length plan.goal.rows ≡ length list
  rows_are can aim formed are =
      goal_count seen target list facts seed made.0 made.1 plan (record { plannable = can; aim = aim; well_formed = formed; own = refl }) made.2 are
      ∙ ap (λ (rows : List Row). length rows + length (kept_of own made.1.threshold list)) none
      ∙ zero-add (length (kept_of own made.1.threshold list)) ∙ ap length all_kept ∙ length-enumerate_from 0 list

  -- and no other is noted
  pub notes_are : plan.notes
      ≡ map (new_note seed list facts 0 (kept_files (matched_of seen.shown list) made.1.threshold list)) (enumerate_from 0 (enumerate_from 0 list))
  unfolding notes_of
  notes_are = ap (λ (p : Plan). p.notes) made.2.same
      ∙ ap (λ (rows : List Row). map (old_note own plan.goal.rows) (enumerate_from 0 rows)
      ++ map (new_note seed list facts (first_free rows) (kept_files own made.1.threshold list))
      (enumerate_from (first_free rows) (kept_of own made.1.threshold list))) none
      ∙ ap (λ (kept : List (ℕ × Definition)). map (new_note seed list facts 0 (kept_files own made.1.threshold list)) (enumerate_from 0 kept)) all_kept
