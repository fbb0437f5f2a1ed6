-- The rows of the goal can be written.
use Rattle.std.proofs.Common.{◌≡◌, ◌∙◌, ◌⊎◌, ℕ, ◌+◌, ◌%◌, ◌<◌, true, false, List, length, get_or, map, Option, Some, None, All, arith, inl, inr, refl, ap, sym, subst, slice_get, zero-add}
use Rattle.std.specs.Prelude.{int_le, is_some, unwrap_or, replicate}
use Rattle.std.specs.List.{AllZip, enumerate_from}
use Rattle.std.specs.Option.{option_and_then, option_map_or}
use Rattle.std.proofs.lemmas.List.Elements.{All-append, All-map}
use Rattle.std.proofs.lemmas.List.FromFn.{get_or-enumerate_from, length-enumerate_from}
use Rattle.std.proofs.lemmas.Option.{get_or_from_slice_get, slice_get-get_or, slice_get_within}
use Rattle.rp_base.specs.Geometry.{IsSector}
use Rattle.rp_base.specs.Table.{IsWhole, IsWritableRow}
use Rattle.rp_base.specs.declared.guid.Guid.{Guid}
use Rattle.rp_base.specs.declared.seen.Seen.{Seen}
use Rattle.rp_base.specs.declared.table.Row.{Row}
use Rattle.rp_base.specs.declared.want.Want.{Want}
use Rattle.rp_areas.specs.Areas.{file_of, want_at}
use Rattle.rp_areas.specs.declared.gaps.Area.{Area}
use Rattle.rp_areas.proofs.Public.{areas_used}
use Rattle.rp_place.specs.declared.fit.New.{New}
use Rattle.rp_place.specs.declared.threshold.Placed.{Placed}
use Rattle.rp_place.proofs.Public.{few_settled, placed_settled, placement_at}
use Rattle.rp_layout.specs.declared.spot.Spot.{Spot}
use Rattle.rp_layout.specs.Facts.{IsReady, IsSpot}
use Rattle.rp_layout.specs.Layout.{laid, spot_at}
use Rattle.rp_layout.specs.Seats.{row_of}
use Rattle.rp_layout.proofs.Public.{dropped_lies, placed_lies, spot_is}
use Rattle.rp_base.specs.declared.plan.Plan.{Plan}
use Rattle.rp_defs.specs.declared.definition.Definition.{Definition}
use Rattle.rp_sizes.specs.declared.need.Fact.{Fact}
use Rattle.rp_sizes.specs.Needs.{is_new, matched_of}
use Rattle.rp_sizes.specs.News.{news_of}
use Rattle.rp_sizes.specs.Sizes.{asked}
use Rattle.rp_sizes.proofs.AskedLemmas.{sound_at}
use Rattle.rp_plan.specs.Kept.{first_free, free_slots, is_kept, kept_of}
use Rattle.rp_plan.specs.Plannable.{IsAsked, IsGiven}
use Rattle.rp_plan.specs.Rows.{last_of, no_id, row_again, row_for, rows_laid}
use Rattle.rp_plan.proofs.Given.{last_bounds, matched_length}
use Rattle.rp_plan.proofs.KeptLemmas.{and_both, kept_count, kept_entries, new_index, owner_has, place_of_new}
use Rattle.rp_plan.proofs.Parts.{IsMadeOf}
use Rattle.rp_plan.proofs.Reached.{Lies, found_reach}
use Rattle.rp_plan.proofs.Ready.{is_ready, no_row_of}

whole_512 : (n : ℕ) → n % 8 ≡ 0 → IsWhole 512 n
whole_512 n is = omega arith

-- whole grains are whole sectors
pub whole_grains : (sector n : ℕ) → IsSector sector → n % 8 ≡ 0 → IsWhole sector n
whole_grains sector n (inl e) is = subst (λ s. IsWhole s n) (sym e) (whole_512 n is)
whole_grains sector n (inr e) is = subst (λ s. IsWhole s n) (sym e) is

differs : false ≡ true → ⊥
differs is = cc

-- of entries with places what holds of each item at its place
All-placed : {X : Type 0} (P : ℕ × X → Type 0) (n : ℕ) (xs : List X) → ((k : ℕ) (x : X) → slice_get xs k ≡ Some x → P (n + k, x)) → All P (enumerate_from n xs)
All-placed P n xs each k d below =
    let l : k < length xs = omega (arith, below, length-enumerate_from n xs) in
    rw (get_or-enumerate_from n xs k d l) (each k (get_or xs k d.1) (slice_get-get_or xs k d.1 l))

module _ (seen : Seen) (target : ℕ) (defs : List Definition) (facts : List Fact) (seed : Guid) (areas : List Area) (placed : Placed) (plan : Plan)
    (given : IsGiven seen target defs (matched_of seen.shown defs)) (made : IsMadeOf seen target defs facts seed areas placed plan) where
  abbrev pub matched : List (Option ℕ)
  matched = matched_of seen.shown defs

  abbrev pub wants : List Want
  wants = asked (matched_of seen.shown defs) defs facts

  abbrev pub news : List New
  news = news_of (matched_of seen.shown defs) (asked (matched_of seen.shown defs) defs facts) defs

  abbrev pub spots : List (Option Spot)
  spots = laid seen.shown.rows (matched_of seen.shown defs) (asked (matched_of seen.shown defs) defs facts) areas
      (news_of (matched_of seen.shown defs) (asked (matched_of seen.shown defs) defs facts) defs) placed.areas

  pub is_asked : IsAsked seen target defs facts matched wants
  is_asked = record { given = given; none = made.none; wanted = refl }

  pub ready : IsReady seen.shown (last_of seen target) matched wants areas news placed
  ready = is_ready seen target defs facts matched wants is_asked areas placed made.are made.settles

  chosen : AllZip (λ (n : New) p. is_some p ≡ int_le n.priority placed.threshold) news placed.areas
  chosen = (placement_at areas news placed.threshold placed.areas (areas_used seen.shown (last_of seen target) matched wants areas made.are)
      (placed_settled areas news (free_slots seen.shown) placed made.settles)).chosen

  lies_by : (k : ℕ) (def : Definition) (i : ℕ) (n : New) → slice_get news i ≡ Some n → n.file ≡ k → n.priority ≡ def.priority → (p : Option ℕ)
      → slice_get placed.areas i ≡ Some p → is_some p ≡ int_le n.priority placed.threshold → Lies spots placed.threshold k def
  lies_by k def i n at file same None place is = (
    λ here. absurd (differs (is ∙ ap (λ q. int_le q placed.threshold) same ∙ here)),
    λ past. ap (spot_at spots) (sym file) ∙ dropped_lies seen.shown (last_of seen target) matched wants areas news placed ready i n at place,
  )
  lies_by k def i n at file same (Some area) place is = (
    λ here.
        let found = placed_lies seen.shown (last_of seen target) matched wants areas news placed ready i n area at place in
        (found.0, ap (spot_at spots) (sym file) ∙ found.1),
    λ past. absurd (differs (sym past ∙ sym (is ∙ ap (λ q. int_le q placed.threshold) same))),
  )

  -- a new definition lies where it was placed, or nowhere where it was dropped
  pub lies : (k : ℕ) (def : Definition) → slice_get defs k ≡ Some def → is_new matched k ≡ true → Lies spots placed.threshold k def
  lies k def at new =
      let i = new_index matched wants defs k def at new in
      let p = place_of_new placed.threshold news placed.areas chosen i.0 _ i.1 in
      lies_by k def i.0 _ i.1 refl refl p.0 p.1 p.2

  -- where a kept definition's partition lies
  pub kept_spot : (k : ℕ) (def : Definition) → slice_get defs k ≡ Some def → is_kept matched placed.threshold (k, def) ≡ true
      → (s : Spot) × (spot_at spots k ≡ Some s) × IsSpot seen.shown.first (last_of seen target) (want_at wants k) None s
  kept_spot k def at kept =
      let both = and_both (is_new matched k) (int_le def.priority placed.threshold) kept in
      let found = (lies k def at both.0).0 both.1 in
      let is = spot_is seen.shown (last_of seen target) matched wants areas news placed ready k found.0 found.1 in
      let none : row_of seen.shown.rows matched k ≡ None = ap (λ o. option_and_then (slice_get seen.shown.rows) (unwrap_or o None))
      (no_row_of matched k (omega (arith, slice_get_within defs k def at, matched_length seen target defs matched given)) both.0) in
      (found.0, found.1, subst (λ (o : Option Row). IsSpot seen.shown.first (last_of seen target) (want_at wants k) o found.0) none is.1)

  -- where the partition of a definition that has a row lies
  pub own_spot : (place file : ℕ) (row : Row) (s : Spot) → slice_get seen.shown.rows place ≡ Some row → file_of matched place ≡ Some file
      → spot_at spots file ≡ Some s → IsSpot seen.shown.first (last_of seen target) (want_at wants file) (Some row) s
  own_spot place file row s at owner found =
      let is = spot_is seen.shown (last_of seen target) matched wants areas news placed ready file s found in
      let own : row_of seen.shown.rows matched file ≡ Some row = ap (λ o. option_and_then (slice_get seen.shown.rows) (unwrap_or o None))
      (owner_has matched place file owner) ∙ at in
      subst (λ (o : Option Row). IsSpot seen.shown.first (last_of seen target) (want_at wants file) o s) own is.1

  abbrev pub IsFine : Row → Type 0
  IsFine row = IsWritableRow seen.shown.sector seen.shown.entries row

  grown_whole : (row : Row) (s : Spot) → IsFine row → (s.size ≡ row.size) ⊎ (s.size % 8 ≡ 0) → IsWhole seen.shown.sector s.size
  grown_whole row s fine (inl same) = subst (IsWhole seen.shown.sector) (sym same) fine.size_whole
  grown_whole row s fine (inr whole) = whole_grains seen.shown.sector s.size given.plannable.writable.sector whole

  grown_fine : (row : Row) (s : Spot) (want : Want) → IsFine row → IsSpot seen.shown.first (last_of seen target) want (Some row) s
      → IsFine (record row { size = s.size })
  grown_fine row s want fine is = record {
    slot = fine.slot;
    used = fine.used;
    size = is.some;
    fits = omega (arith, is.upper, is.kind.start, (last_bounds seen target defs matched given).1);
    start_whole = fine.start_whole;
    size_whole = grown_whole row s fine is.kind.whole;
  }

  old_by : (place : ℕ) (row : Row) → slice_get seen.shown.rows place ≡ Some row → IsFine row → (f : Option ℕ) → file_of matched place ≡ f
      → (o : Option Spot) → option_and_then (spot_at spots) f ≡ o → IsFine (option_map_or (λ (s : Spot). record row { size = s.size }) o row)
  old_by place row at fine f owner None is = fine
  old_by place row at fine None owner (Some s) is = absurd (cc)
  old_by place row at fine (Some file) owner (Some s) is = grown_fine row s (want_at wants file) fine (own_spot place file row s at owner is)

  row_fine : (place : ℕ) (row : Row) → slice_get seen.shown.rows place ≡ Some row → IsFine row
  row_fine place row at = subst IsFine (get_or_from_slice_get seen.shown.rows place row row at)
      (given.plannable.writable.rows.rows place row (slice_get_within seen.shown.rows place row at))

  pub old_fine : (place : ℕ) (row : Row) → slice_get seen.shown.rows place ≡ Some row → IsFine (row_again matched spots (place, row))
  old_fine place row at = old_by place row at (row_fine place row at) (file_of matched place) refl
      (option_and_then (spot_at spots) (file_of matched place)) refl

  -- the slots of kept ones are those of the array
  pub slot_fits : (j : ℕ) → j < length (kept_of matched placed.threshold defs) → first_free seen.shown.rows + j < seen.shown.entries
  slot_fits j below = omega (arith, below, kept_count matched wants placed.threshold defs, few_settled areas news (free_slots seen.shown) placed made.settles)

  pub new_fine : (slot k : ℕ) (def : Definition) → slot < seen.shown.entries → slice_get defs k ≡ Some def
      → is_kept matched placed.threshold (k, def) ≡ true → IsFine (row_for spots (slot, (k, def)))
  new_fine slot k def fits at kept =
      let found = kept_spot k def at kept in
      let s : Spot = found.0 in
      let is = found.2 in
      subst (λ (r : ℕ × ℕ). IsFine (record { slot = slot; kind = def.kind; id = no_id; start = r.0; size = r.1; attrs = def.attrs; name = replicate 36 0 }))
      (sym (found_reach spots k s found.1)) (record {
        slot = fits;
        used = (sound_at defs k def given.well_formed at).used;
        size = is.some;
        fits = omega (arith, is.upper, (last_bounds seen target defs matched given).1);
        start_whole = whole_grains seen.shown.sector s.start given.plannable.writable.sector is.grain;
        size_whole = whole_grains seen.shown.sector s.size given.plannable.writable.sector is.kind.whole;
      })

  pub laid_fine : All IsFine (rows_laid seen.shown.rows matched placed.threshold defs spots)
  laid_fine = All-append IsFine (map (row_again matched spots) (enumerate_from 0 seen.shown.rows))
      (map (row_for spots) (enumerate_from (first_free seen.shown.rows) (kept_of matched placed.threshold defs)))
      (All-map IsFine (row_again matched spots) (enumerate_from 0 seen.shown.rows)
      (All-placed (λ (e : ℕ × Row). IsFine (row_again matched spots e)) 0 seen.shown.rows
      (λ k row at. subst (λ n. IsFine (row_again matched spots (n, row))) (sym (zero-add k)) (old_fine k row at))))
      (All-map IsFine (row_for spots) (enumerate_from (first_free seen.shown.rows) (kept_of matched placed.threshold defs))
      (All-placed (λ (e : ℕ × (ℕ × Definition)). IsFine (row_for spots e)) (first_free seen.shown.rows) (kept_of matched placed.threshold defs)
      (λ j e at.
      let below = slice_get_within (kept_of matched placed.threshold defs) j e at in
      let is = subst (λ (x : ℕ × Definition). (slice_get defs x.0 ≡ Some x.1) × (is_kept matched placed.threshold x ≡ true))
      (get_or_from_slice_get (kept_of matched placed.threshold defs) j e e at) (kept_entries matched placed.threshold defs j e below) in
      new_fine (first_free seen.shown.rows + j) e.0 e.1 (slot_fits j below) is.0 is.1)))
