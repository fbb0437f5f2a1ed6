-- The goal's table: its rows are those that were laid out, with names.
use Rattle.std.proofs.Common.{◌≡◌, ◌∙◌, ℕ, suc, ◌+◌, ◌-◌, ◌/◌, ◌<◌, ◌≤◌, List, [], ◌∷◌, ◌++◌, length, get_or, map, Option, Some, None, All, AllPairs, arith, inl, inr, refl, ap, sym, subst}
use Rattle.std.specs.Prelude.{fold, max}
use Rattle.std.specs.List.{enumerate_from}
use Rattle.std.specs.Option.{option_and_then, option_map_or}
use Rattle.std.proofs.lemmas.List.{get_or-map, length-map, map-append}
use Rattle.std.proofs.lemmas.List.Elements.{All-append, All-cons, All-map}
use Rattle.std.proofs.lemmas.List.Kept.{AllPairs-cons}
use Rattle.rp_base.specs.Geometry.{IsSector, usable_end, sector_units}
use Rattle.rp_base.specs.Table.{IsBounded, IsInPlace, IsLaidOut, IsWhole, IsWritable, IsWritableRow}
use Rattle.rp_base.specs.declared.guid.Guid.{Guid}
use Rattle.rp_base.specs.declared.plan.Note.{Note}
use Rattle.rp_base.specs.declared.plan.Plan.{Plan}
use Rattle.rp_base.specs.declared.seen.Seen.{Seen}
use Rattle.rp_base.specs.declared.table.Row.{Row}
use Rattle.rp_areas.specs.Areas.{file_of}
use Rattle.rp_areas.specs.declared.gaps.Area.{Area}
use Rattle.rp_place.specs.declared.threshold.Placed.{Placed}
use Rattle.rp_layout.specs.declared.spot.Spot.{Spot}
use Rattle.rp_layout.specs.Layout.{spot_at}
use Rattle.rp_layout.proofs.Public.{laid_out_again}
use Rattle.rp_defs.specs.declared.definition.Definition.{Definition}
use Rattle.rp_sizes.specs.declared.need.Fact.{Fact}
use Rattle.rp_sizes.specs.Needs.{matched_of}
use Rattle.rp_plan.specs.Goal.{goal_table, notes_of, spots_of}
use Rattle.rp_plan.specs.Kept.{first_free, kept_files, kept_of}
use Rattle.rp_plan.specs.Names.{namings_of}
use Rattle.rp_plan.specs.Notes.{new_note, old_note}
use Rattle.rp_plan.specs.Plannable.{IsGiven}
use Rattle.rp_plan.specs.Rows.{last_of, row_again, row_for, rows_laid, table_laid}
use Rattle.rp_plan.proofs.Given.{has_room}
use Rattle.rp_plan.proofs.Listing.{map_same, through}
use Rattle.rp_plan.proofs.Naming.{IsNamed, bare, named_is}
use Rattle.rp_plan.proofs.Parts.{IsMadeOf}
use Rattle.rp_plan.proofs.Reached.{reach_row, rows_reach}
use Rattle.rp_plan.proofs.Written.{laid_fine, lies, news, ready, spots, wants}

-- numbers from one on
abbrev pub count_up : {X : Type 0} → ℕ → List X → List ℕ
count_up n [] = []
count_up n (x ∷ xs) = n ∷ count_up (n + 1) xs

firsts : {X : Type 0} (n : ℕ) (xs : List X) → map (λ (e : ℕ × X). e.0) (enumerate_from n xs) ≡ count_up n xs
firsts n [] = refl
firsts n (x ∷ xs) = ap (λ ys. n ∷ ys) (firsts (n + 1) xs)

seconds : {X : Type 0} (f : X → ℕ) (n : ℕ) (xs : List X) → map (λ (e : ℕ × X). f e.1) (enumerate_from n xs) ≡ map f xs
seconds f n [] = refl
seconds f n (x ∷ xs) = ap (λ ys. f x ∷ ys) (seconds f (n + 1) xs)

abbrev Rising : List ℕ → Type 0
Rising ns = AllPairs (λ (a b : ℕ). a < b) ns

above : {X : Type 0} (low n : ℕ) (xs : List X) → low ≤ n → All (λ m. low ≤ m) (count_up n xs)
above low n [] le = λ k d below. absurd (omega (arith, below))
above low n (x ∷ xs) le = All-cons (λ m. low ≤ m) n (count_up (n + 1) xs) le (above low (n + 1) xs (omega (arith, le)))

count_rises : {X : Type 0} (n : ℕ) (xs : List X) → Rising (count_up n xs)
count_rises n [] = λ i j d before below. absurd (omega (arith, below))
count_rises n (x ∷ xs) = AllPairs-cons (λ (a b : ℕ). a < b) n (count_up (n + 1) xs)
    (λ k d below. omega (arith, above (n + 1) (n + 1) xs (omega arith) k d below)) (count_rises (n + 1) xs)

with_higher : (x : ℕ) (xs ys : List ℕ) (mid : ℕ) → All (λ b. x < b) xs → x < mid → All (λ y. mid ≤ y) ys → All (λ b. x < b) (xs ++ ys)
with_higher x xs ys mid one low high = All-append (λ b. x < b) xs ys one (λ k d below. omega (arith, low, high k d below))

rising_append : (xs ys : List ℕ) (mid : ℕ) → Rising xs → Rising ys → All (λ x. x < mid) xs → All (λ y. mid ≤ y) ys → Rising (xs ++ ys)
rising_append [] ys mid rx ry low high = ry
rising_append (x ∷ xs) ys mid rx ry low high = AllPairs-cons (λ (a b : ℕ). a < b) x (xs ++ ys)
    (with_higher x xs ys mid (λ k d below. rx 0 (suc k) d (omega arith) (omega (arith, below))) (low 0 x (omega arith)) high)
    (rising_append xs ys mid (λ i j d before below. rx (suc i) (suc j) d (omega (arith, before)) (omega (arith, below))) ry
    (λ k d below. low (suc k) d (omega (arith, below))) high)

pairs_mapped : {X : Type 0} (f : X → ℕ) (xs : List X) → AllPairs (λ x y. f x < f y) xs → (d : X) → Rising (map f xs)
pairs_mapped f xs pairs d i j e before below =
    let l : j < length xs = omega (arith, below, length-map xs f) in
    let p = pairs i j d before l in
    omega (arith, p, get_or-map f xs i d e (omega (arith, before, l)), get_or-map f xs j d e l)

pairs_unmapped : {X : Type 0} (f : X → ℕ) (xs : List X) → Rising (map f xs) → AllPairs (λ x y. f x < f y) xs
pairs_unmapped f xs pairs i j d before below =
    let p = pairs i j (f d) before (omega (arith, below, length-map xs f)) in
    omega (arith, p, get_or-map f xs i d (f d) (omega (arith, before, below)), get_or-map f xs j d (f d) below)

-- the slots that are used lie before the first free one
fold_above : (rows : List Row) (a : ℕ) → a ≤ fold (λ slot (row : Row). max slot (row.slot + 1)) a rows
fold_above [] a = omega arith
fold_above (r ∷ rows) a = omega (arith, fold_above rows (max a (r.slot + 1)))

pub used_below : (rows : List Row) (a : ℕ) → All (λ s. s < fold (λ slot (row : Row). max slot (row.slot + 1)) a rows) (map (λ (r : Row). r.slot) rows)
used_below [] a = λ k d below. absurd (omega (arith, below))
used_below (r ∷ rows) a = All-cons (λ s. s < fold (λ slot (row : Row). max slot (row.slot + 1)) (max a (r.slot + 1)) rows) r.slot (map (λ (r : Row). r.slot) rows)
    (omega (arith, fold_above rows (max a (r.slot + 1)))) (used_below rows (max a (r.slot + 1)))

pub slot_again : (o : Option Spot) (row : Row) → (option_map_or (λ (s : Spot). record row { size = s.size }) o row).slot ≡ row.slot
slot_again None row = refl
slot_again (Some s) row = refl

end_512 : (e t : ℕ) → 1 ≤ usable_end 512 e t → IsWhole 512 (usable_end 512 e t - 1 + 1)
end_512 e t some = omega arith

end_4096 : (e t : ℕ) → 1 ≤ usable_end 4096 e t → IsWhole 4096 (usable_end 4096 e t - 1 + 1)
end_4096 e t some = omega (arith, some)

end_whole : (s e t : ℕ) → IsSector s → 1 ≤ usable_end s e t → IsWhole s (usable_end s e t - 1 + 1)
end_whole s e t (inl is) = subst (λ z. 1 ≤ usable_end z e t → IsWhole z (usable_end z e t - 1 + 1)) (sym is) (end_512 e t)
end_whole s e t (inr is) = subst (λ z. 1 ≤ usable_end z e t → IsWhole z (usable_end z e t - 1 + 1)) (sym is) (end_4096 e t)

module _ (seen : Seen) (target : ℕ) (defs : List Definition) (facts : List Fact) (seed : Guid) (areas : List Area) (placed : Placed) (plan : Plan)
    (given : IsGiven seen target defs (matched_of seen.shown defs)) (made : IsMadeOf seen target defs facts seed areas placed plan) where
  abbrev pub own : List (Option ℕ)
  own = matched_of seen.shown defs

  abbrev pub where_at : List (Option Spot)
  where_at = spots seen target defs facts seed areas placed plan given made

  abbrev pub rows : List Row
  rows = rows_laid seen.shown.rows (matched_of seen.shown defs) placed.threshold defs (spots seen target defs facts seed areas placed plan given made)

  pub is_named : IsNamed (table_laid seen target rows) plan.goal
  unfolding goal_table spots_of
  is_named = named_is (table_laid seen target rows) plan.goal
      (namings_of facts own (length seen.shown.rows) (kept_files own placed.threshold defs) defs) seed made.table

  abbrev IsFine : Row → Type 0
  IsFine row = IsWritableRow seen.shown.sector seen.shown.entries row

  to_bare : (row : Row) → IsFine row → IsFine (bare row)
  to_bare row is = record { slot = is.slot; used = is.used; size = is.size; fits = is.fits; start_whole = is.start_whole; size_whole = is.size_whole }

  from_bare : (row : Row) → IsFine (bare row) → IsFine row
  from_bare row is = record { slot = is.slot; used = is.used; size = is.size; fits = is.fits; start_whole = is.start_whole; size_whole = is.size_whole }

  pub goal_fine : All IsFine plan.goal.rows
  goal_fine k d below =
      let laid : All IsFine (map bare rows) = All-map IsFine bare rows (λ j e l. to_bare (get_or rows j e) (laid_fine seen target defs facts seed areas placed plan given made j e l)) in
      let all : All IsFine (map bare plan.goal.rows) = subst (All IsFine) (sym is_named.rows) laid in
      from_bare (get_or plan.goal.rows k d) (subst IsFine (get_or-map bare plan.goal.rows k d (bare d) below)
      (all k (bare d) (omega (arith, below, length-map plan.goal.rows bare))))

  -- the slots: those that are used, and then those behind
  abbrev pub all_slots : List ℕ
  all_slots = map (λ (r : Row). r.slot) seen.shown.rows ++ count_up (first_free seen.shown.rows) (kept_of own placed.threshold defs)

  laid_slots : map (λ (r : Row). r.slot) rows ≡ all_slots
  laid_slots =
      map-append (λ (r : Row). r.slot) (map (row_again own where_at) (enumerate_from 0 seen.shown.rows))
      (map (row_for where_at) (enumerate_from (first_free seen.shown.rows) (kept_of own placed.threshold defs)))
      ∙ ap (λ ns. ns ++ map (λ (r : Row). r.slot) (map (row_for where_at) (enumerate_from (first_free seen.shown.rows) (kept_of own placed.threshold defs))))
      (map_same (λ (r : Row). r.slot) (row_again own where_at) (λ (e : ℕ × Row). e.1.slot)
      (λ e. slot_again (option_and_then (spot_at where_at) (file_of own e.0)) e.1) (enumerate_from 0 seen.shown.rows)
      ∙ seconds (λ (r : Row). r.slot) 0 seen.shown.rows)
      ∙ ap (λ ns. map (λ (r : Row). r.slot) seen.shown.rows ++ ns)
      (map_same (λ (r : Row). r.slot) (row_for where_at) (λ (e : ℕ × (ℕ × Definition)). e.0) (λ e. refl)
      (enumerate_from (first_free seen.shown.rows) (kept_of own placed.threshold defs))
      ∙ firsts (first_free seen.shown.rows) (kept_of own placed.threshold defs))

  pub goal_slots : map (λ (r : Row). r.slot) plan.goal.rows ≡ all_slots
  goal_slots = through bare (λ (r : Row). r.slot) (λ (r : Row). r.slot) (λ r. refl) plan.goal.rows rows is_named.rows ∙ laid_slots

  no_row_here : Row
  no_row_here = record { slot = 0; kind = record { 0 = [] }; id = record { 0 = [] }; start = 0; size = 0; attrs = 0; name = [] }

  pub slots_rise : AllPairs (λ (a b : Row). a.slot < b.slot) plan.goal.rows
  slots_rise = pairs_unmapped (λ (r : Row). r.slot) plan.goal.rows (subst Rising (sym goal_slots)
      (rising_append (map (λ (r : Row). r.slot) seen.shown.rows) (count_up (first_free seen.shown.rows) (kept_of own placed.threshold defs))
      (first_free seen.shown.rows)
      (pairs_mapped (λ (r : Row). r.slot) seen.shown.rows given.plannable.writable.rows.rising no_row_here)
      (count_rises (first_free seen.shown.rows) (kept_of own placed.threshold defs))
      (used_below seen.shown.rows 0)
      (above (first_free seen.shown.rows) (first_free seen.shown.rows) (kept_of own placed.threshold defs) (omega arith))))

  pub goal_laid_out : IsLaidOut plan.goal
  goal_laid_out = laid_out_again seen.shown (last_of seen target) own (wants seen target defs facts seed areas placed plan given made) areas
      (news seen target defs facts seed areas placed plan given made) placed (ready seen target defs facts seed areas placed plan given made)
      plan.goal is_named.first is_named.last
      (through bare reach_row reach_row (λ r. refl) plan.goal.rows rows is_named.rows
      ∙ rows_reach seen.shown.rows own (wants seen target defs facts seed areas placed plan given made) placed.threshold defs where_at
      (lies seen target defs facts seed areas placed plan given made))

  end_some : 1 ≤ usable_end seen.shown.sector seen.shown.entries (target / sector_units seen.shown.sector)
  end_some = omega (arith, (has_room seen target defs own given).2)

  goal_bounded : IsBounded target plan.goal
  goal_bounded = record {
    first = rw (is_named.sector, is_named.entries, is_named.first) given.plannable.in_place.bounded.first;
    last = rw (is_named.sector, is_named.entries, is_named.last) (omega (arith, end_some));
  }

  goal_bounds : plan.goal.first ≤ plan.goal.last
  goal_bounds = rw (is_named.first, is_named.last)
      (omega (arith, given.plannable.in_place.bounds, given.plannable.in_place.bounded.last, (has_room seen target defs own given).2))

  pub goal_in_place : IsInPlace target plan.goal
  goal_in_place = record { bounded = goal_bounded; bounds = goal_bounds; rows = goal_laid_out }

  pub goal_writable : IsWritable plan.goal
  goal_writable = record {
    sector = rw is_named.sector given.plannable.writable.sector;
    entries = rw is_named.entries given.plannable.writable.entries;
    bounds = record {
      first = rw (is_named.sector, is_named.first) given.plannable.writable.bounds.first;
      last = rw (is_named.sector, is_named.last) (end_whole seen.shown.sector seen.shown.entries (target / sector_units seen.shown.sector)
          given.plannable.writable.sector end_some);
    };
    rows = record {
      rows = rw (is_named.sector, is_named.entries) goal_fine;
      rising = slots_rise;
    };
  }

  pub goal_notes : map (λ (note : Note). note.slot) plan.notes ≡ map (λ (r : Row). r.slot) plan.goal.rows
  unfolding notes_of
  goal_notes =
      ap (λ (p : Plan). map (λ (note : Note). note.slot) p.notes) made.same
      ∙ map-append (λ (note : Note). note.slot) (map (old_note own plan.goal.rows) (enumerate_from 0 seen.shown.rows))
      (map (new_note seed defs facts (first_free seen.shown.rows) (kept_files own placed.threshold defs)) (enumerate_from (first_free seen.shown.rows) (kept_of own placed.threshold defs)))
      ∙ ap (λ ns. ns ++ map (λ (note : Note). note.slot) (map (new_note seed defs facts (first_free seen.shown.rows) (kept_files own placed.threshold defs)) (enumerate_from (first_free seen.shown.rows) (kept_of own placed.threshold defs))))
      (map_same (λ (note : Note). note.slot) (old_note own plan.goal.rows) (λ (e : ℕ × Row). e.1.slot) (λ e. refl) (enumerate_from 0 seen.shown.rows)
      ∙ seconds (λ (r : Row). r.slot) 0 seen.shown.rows)
      ∙ ap (λ ns. map (λ (r : Row). r.slot) seen.shown.rows ++ ns)
      (map_same (λ (note : Note). note.slot) (new_note seed defs facts (first_free seen.shown.rows) (kept_files own placed.threshold defs)) (λ (e : ℕ × (ℕ × Definition)). e.0) (λ e. refl)
      (enumerate_from (first_free seen.shown.rows) (kept_of own placed.threshold defs))
      ∙ firsts (first_free seen.shown.rows) (kept_of own placed.threshold defs))
      ∙ sym goal_slots
