-- The rows of the goal, with the definitions that have them again, are the rows after.
use Rattle.std.proofs.Common.{◌≡◌, ◌∙◌, ℕ, ℤ, suc, ◌+◌, ◌<◌, ◌≤◌, Bool, true, false, cond, List, [], ◌∷◌, ◌++◌, length, map, Option, Some, None, arith, refl, ap, sym, subst, slice_get, zero-add}
use Rattle.std.specs.Prelude.{◌&&◌, int_le}
use Rattle.std.specs.List.{cons_option, enumerate_from, filter, filter_map}
use Rattle.std.specs.Option.{option_map}
use Rattle.std.proofs.lemmas.List.{length-map, map-append}
use Rattle.std.proofs.lemmas.Option.{get_or_from_slice_get, same_Some, slice_get-map, slice_get_within}
use Rattle.rp_base.specs.declared.guid.Guid.{Guid}
use Rattle.rp_base.specs.declared.plan.Plan.{Plan}
use Rattle.rp_base.specs.declared.seen.Seen.{Seen}
use Rattle.rp_base.specs.declared.table.Row.{Row}
use Rattle.rp_base.specs.declared.want.Want.{Want}
use Rattle.rp_areas.specs.Areas.{extent_of, extents_of, file_of}
use Rattle.rp_areas.specs.declared.extents.Extent.{Extent}
use Rattle.rp_areas.specs.declared.gaps.Area.{Area}
use Rattle.rp_areas.specs.Matching.{without}
use Rattle.rp_areas.proofs.Public.{owner_new, owner_old}
use Rattle.rp_place.specs.declared.fit.New.{New}
use Rattle.rp_place.specs.declared.threshold.Placed.{Placed}
use Rattle.rp_layout.specs.declared.spot.Spot.{Spot}
use Rattle.rp_layout.specs.Layout.{added, extents_after, grown, spot_at}
use Rattle.rp_defs.specs.declared.definition.Definition.{Definition}
use Rattle.rp_sizes.specs.declared.need.Fact.{Fact}
use Rattle.rp_sizes.specs.Needs.{is_new, kinds_of, matched_of}
use Rattle.rp_sizes.specs.News.{new_of, news_of}
use Rattle.rp_plan.specs.Kept.{is_kept, kept_of}
use Rattle.rp_plan.specs.Plannable.{IsGiven}
use Rattle.rp_plan.proofs.Formed.{is_named, rows}
use Rattle.rp_plan.proofs.Listing.{map_same, through}
use Rattle.rp_plan.proofs.Naming.{bare}
use Rattle.rp_plan.proofs.Parts.{IsMadeOf}
use Rattle.rp_plan.proofs.Reached.{Lies, reach, reach_row, rows_reach}
use Rattle.rp_plan.proofs.Written.{lies, news, spots, wants}
use Rattle.rp_plan.proofs.Given.{matched_length}
use Rattle.rp_plan.proofs.Counted.{laid_length}
use Rattle.rp_plan.proofs.KeptLemmas.{and_both, kept_entries}
use Rattle.rp_plan.proofs.Paired.{rank_is}
use Rattle.rp_plan.proofs.Ready.{no_row_of}
use Rattle.rp_idle.proofs.Kept.{kept_place, new_is_kept}
use Rattle.rp_idle.proofs.Rows.{none_dropped, refilled}

abbrev file_in : Extent → Option ℕ
file_in e = e.file

reach_again : (rows : List Row) (matched : List (Option ℕ)) (n : ℕ)
    → map reach (map (extent_of matched) (enumerate_from n rows)) ≡ map reach_row rows
reach_again [] matched n = refl
reach_again (r ∷ rows) matched n = ap (λ es. (r.start, r.size) ∷ es) (reach_again rows matched (n + 1))

-- lists of rows with the same units and definitions are the same
one_extent : (e f : Extent) → reach e ≡ reach f → e.file ≡ f.file → e ≡ f
one_extent e f same file =
    ap (λ (r : ℕ × ℕ). record { start = r.0; size = r.1; file = e.file }) same
    ∙ ap (λ (o : Option ℕ). record { start = f.start; size = f.size; file = o }) file

same_extents : (es fs : List Extent) → map reach es ≡ map reach fs → map file_in es ≡ map file_in fs → es ≡ fs
same_extents [] [] same files = refl
same_extents [] (f ∷ fs) same files = absurd (cc)
same_extents (e ∷ es) [] same files = absurd (cc)
same_extents (e ∷ es) (f ∷ fs) same files =
    let head : reach e ≡ reach f = cc in
    let rest : map reach es ≡ map reach fs = cc in
    let file : e.file ≡ f.file = cc in
    let others : map file_in es ≡ map file_in fs = cc in
    ap (λ x. x ∷ es) (one_extent e f head file) ∙ ap (λ xs. f ∷ xs) (same_extents es fs rest others)

-- the files of so many places: those of the first ones, and then others
split_files : {K : Type 0} (f g : ℕ → Option ℕ) (h : K → Option ℕ) (n m : ℕ) (old again : List Row) (kept : List K)
    → length again ≡ length old + length kept
    → m ≡ n + length old
    → ((k : ℕ) → n ≤ k → k < m → f k ≡ g k) → ((j : ℕ) (e : K) → slice_get kept j ≡ Some e → f (m + j) ≡ h e)
    → map (λ (e : ℕ × Row). f e.0) (enumerate_from n again) ≡ map (λ (e : ℕ × Row). g e.0) (enumerate_from n old) ++ map h kept
split_files f g h n m [] [] [] count end low high = refl
split_files f g h n m [] [] (k ∷ kept) count end low high = absurd (omega (arith, count))
split_files f g h n m [] (r ∷ again) [] count end low high = absurd (omega (arith, count))
split_files f g h n m [] (r ∷ again) (k ∷ kept) count end low high =
    let here : m + 0 ≡ n = omega (arith, end) in
    ap (λ o. o ∷ map (λ (e : ℕ × Row). f e.0) (enumerate_from (n + 1) again)) (ap f (sym here) ∙ high 0 k refl)
    ∙ ap (λ os. h k ∷ os) (split_files f g h (n + 1) (m + 1) [] again kept (omega (arith, count)) (omega (arith, end))
    (λ p low_p high_p. absurd (omega (arith, low_p, high_p, end)))
    (λ j e at. ap f (let s : m + 1 + j ≡ m + suc j = omega arith in s) ∙ high (suc j) e at))
split_files f g h n m (o ∷ old) [] kept count end low high = absurd (omega (arith, count))
split_files f g h n m (o ∷ old) (r ∷ again) kept count end low high =
    ap (λ x. x ∷ map (λ (e : ℕ × Row). f e.0) (enumerate_from (n + 1) again)) (low n (omega arith) (omega (arith, end)))
    ∙ ap (λ os. g n ∷ os) (split_files f g h (n + 1) m old again kept (omega (arith, count)) (omega (arith, end))
    (λ p low_p high_p. low p (omega (arith, low_p)) high_p) high)

-- the definitions of rows
files_are : (matched : List (Option ℕ)) (n : ℕ) (rows : List Row)
    → map file_in (map (extent_of matched) (enumerate_from n rows)) ≡ map (λ (e : ℕ × Row). file_of matched e.0) (enumerate_from n rows)
files_are matched n rows = map_same file_in (extent_of matched) (λ (e : ℕ × Row). file_of matched e.0) (λ e. refl) (enumerate_from n rows)

-- of new ones that all lie somewhere
new_files_step : (spots : List (Option Spot)) (b le : Bool) (k : ℕ) (def : Definition) (need : ℕ) (rest : List (ℕ × Definition))
    (news : List New)
    → (b ≡ true → le ≡ true → (s : Spot) × (spot_at spots k ≡ Some s)) → (b ≡ true → le ≡ true)
    → map file_in (filter_map (added spots) news) ≡ map (λ (e : ℕ × Definition). Some e.0) rest
    → map file_in (filter_map (added spots) (cons_option (cond b (Some (record { file = k; need = need; priority = def.priority })) None)
    news))
    ≡ map (λ (e : ℕ × Definition). Some e.0) (cond (b && le) ((k, def) ∷ rest) rest)
new_files_step spots false le k def need rest news has kept is = is
new_files_step spots true false k def need rest news has kept is = absurd (let e : false ≡ true = kept refl in cc)
new_files_step spots true true k def need rest news has kept is =
    let found = has refl refl in
    ap (λ (o : Option Spot). map file_in (cons_option (option_map (λ (s : Spot). record { start = s.start; size = s.size; file = Some k })
    o) (filter_map (added spots) news))) found.1
    ∙ ap (λ os. Some k ∷ os) is

new_files : (spots : List (Option Spot)) (matched : List (Option ℕ)) (wants : List Want) (t : ℤ) (n : ℕ) (defs : List Definition)
    → ((j k : ℕ) (def : Definition) → k ≡ n + j → slice_get defs j ≡ Some def → is_new matched k ≡ true
    → Lies spots t k def × (int_le def.priority t ≡ true))
    → map file_in (filter_map (added spots) (filter_map (new_of matched wants) (enumerate_from n defs)))
    ≡ map (λ (e : ℕ × Definition). Some e.0) (filter (is_kept matched t) (enumerate_from n defs))
new_files spots matched wants t n [] lie = refl
new_files spots matched wants t n (def ∷ defs) lie =
    new_files_step spots (is_new matched n) (int_le def.priority t) n def _ (filter (is_kept matched t) (enumerate_from (n + 1) defs))
    (filter_map (new_of matched wants) (enumerate_from (n + 1) defs))
    (λ new le. (lie 0 n def (omega arith) refl new).0.0 le) (λ new. (lie 0 n def (omega arith) refl new).1)
    (new_files spots matched wants t (n + 1) defs (λ j k d e at new. lie (suc j) k d (omega (arith, e)) at new))

module _ (seen : Seen) (target : ℕ) (defs : List Definition) (facts : List Fact) (seed : Guid) (areas : List Area) (placed : Placed)
    (plan : Plan)
    (given : IsGiven seen target defs (matched_of seen.shown defs)) (made : IsMadeOf seen target defs facts seed areas placed plan)
    (whole : plan.dropped ≡ []) where
  abbrev own : List (Option ℕ)
  own = matched_of seen.shown defs

  abbrev again : List (Option ℕ)
  again = matched_of plan.goal defs

  abbrev kept : List (ℕ × Definition)
  kept = kept_of (matched_of seen.shown defs) placed.threshold defs

  abbrev place : List (Option Spot)
  place = spots seen target defs facts seed areas placed plan given made

  abbrev news_here : List New
  news_here = news_of (matched_of seen.shown defs) (wants seen target defs facts seed areas placed plan given made) defs

  -- the same units
  units_same : map reach (extents_of plan.goal.rows again) ≡ map reach (extents_after seen.shown.rows own news_here place)
  units_same =
      reach_again plan.goal.rows again 0
      ∙ through bare reach_row reach_row (λ r. refl) plan.goal.rows (rows seen target defs facts seed areas placed plan given made)
      (is_named seen target defs facts seed areas placed plan given made).rows
      ∙ rows_reach seen.shown.rows own (wants seen target defs facts seed areas placed plan given made) placed.threshold defs place
      (lies seen target defs facts seed areas placed plan given made)

  is_taken : (j : ℕ) (e : ℕ × Definition) → slice_get kept j ≡ Some e
      → (slice_get defs e.0 ≡ Some e.1) × (is_kept own placed.threshold e ≡ true)
  is_taken j e at = subst (λ (x : ℕ × Definition). (slice_get defs x.0 ≡ Some x.1) × (is_kept own placed.threshold x ≡ true))
      (get_or_from_slice_get kept j e e at) (kept_entries own placed.threshold defs j e (slice_get_within kept j e at))

  goal_count : length plan.goal.rows ≡ length seen.shown.rows + length kept
  goal_count =
      let laid_rows = rows seen target defs facts seed areas placed plan given made in
      sym (length-map plan.goal.rows bare) ∙ ap length (is_named seen target defs facts seed areas placed plan given made).rows
      ∙ length-map laid_rows bare ∙ laid_length seen.shown.rows own placed.threshold defs place

  -- the definition of the row of one that is kept
  new_file : (j : ℕ) (e : ℕ × Definition) → slice_get kept j ≡ Some e → file_of again (length seen.shown.rows + j) ≡ Some e.0
  new_file j e at =
      let is = is_taken j e at in
      let fresh = (and_both (is_new own e.0) (int_le e.1.priority placed.threshold) is.1).0 in
      let free = no_row_of own e.0 (omega (arith, slice_get_within defs e.0 e.1 is.0, matched_length seen target defs own given)) fresh in
      let none = none_dropped seen target defs facts seed areas placed plan given made whole in
      let rank : Some (without own e.0) ≡ Some j = sym (kept_place own placed.threshold defs none e.0 e.1 is.0 free)
      ∙ rank_is own placed.threshold defs j e at in
      let same : without own e.0 ≡ j = same_Some (without own e.0) j rank in
      ap (λ p. file_of again (length seen.shown.rows + p)) (sym same)
      ∙ owner_new seen.shown.rows plan.goal.rows (kinds_of defs) (refilled seen target defs facts seed areas placed plan given made whole)
      e.0 e.1.kind (slice_get-map (λ (d : Definition). d.kind) defs e.0 ∙ ap (option_map (λ (d : Definition). d.kind)) is.0) free

  -- the same definitions
  files_same : map file_in (extents_of plan.goal.rows again) ≡ map file_in (extents_after seen.shown.rows own news_here place)
  files_same =
      let none = none_dropped seen target defs facts seed areas placed plan given made whole in
      files_are again 0 plan.goal.rows
      ∙ split_files (file_of again) (file_of own) (λ (e : ℕ × Definition). Some e.0) 0 (length seen.shown.rows) seen.shown.rows
      plan.goal.rows kept
      goal_count (sym (zero-add (length seen.shown.rows)))
      (λ k low below. owner_old seen.shown.rows plan.goal.rows (kinds_of defs)
      (refilled seen target defs facts seed areas placed plan given made whole) k below)
      new_file
      ∙ ap (λ fs. fs ++ map (λ (e : ℕ × Definition). Some e.0) kept) (sym
      (map_same file_in (grown place) file_in (λ e. refl) (extents_of seen.shown.rows own)
      ∙ files_are own 0 seen.shown.rows))
      ∙ ap (λ fs. map file_in (map (grown place) (extents_of seen.shown.rows own)) ++ fs)
      (sym (new_files place own (wants seen target defs facts seed areas placed plan given made) placed.threshold 0 defs
      (λ j k def e at new.
      let same : k ≡ j = omega (arith, e) in
      let here : slice_get defs k ≡ Some def = ap (slice_get defs) same ∙ at in (
        lies seen target defs facts seed areas placed plan given made k def here new,
        (and_both (is_new own k) (int_le def.priority placed.threshold) (new_is_kept own placed.threshold defs none k def here new)).1,
      ))))
      ∙ sym (map-append file_in (map (grown place) (extents_of seen.shown.rows own)) (filter_map (added place) news_here))

  -- the rows of the goal are the rows after
  pub extents_same : extents_of plan.goal.rows again ≡ extents_after seen.shown.rows own news_here place
  extents_same = same_extents (extents_of plan.goal.rows again) (extents_after seen.shown.rows own news_here place) units_same files_same
