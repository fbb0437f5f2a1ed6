-- A goal that is a plan is well formed.
use Rattle.std.proofs.Common.{◌≡◌, ◌∙◌, ◌⊎◌, ℕ, zero, suc, ◌+◌, ◌-◌, ◌*◌, ◌%◌, ◌<◌, ◌≤◌, true, List, [], ◌∷◌, ◌++◌, length, get_or, map, Option, Some, None, IfOk, IfSome, IsSome, All, Err, Ok, Result, arith, inl, inr, refl, ap, sym, subst, slice_get, zero-add, length-append}
use Rattle.std.specs.Prelude.{◌&&◌, int_le}
use Rattle.std.specs.List.{enumerate_from}
use Rattle.std.specs.Option.{option_map, option_map_or}
use Rattle.std.proofs.lemmas.Bool.{cases_lt}
use Rattle.std.proofs.lemmas.List.{get_or-append-add, get_or-map, get_or_append_left, get_or_default, length-map}
use Rattle.std.proofs.lemmas.List.FromFn.{get_or-enumerate_from, length-enumerate_from}
use Rattle.std.proofs.lemmas.Option.{get_or_from_slice_get, slice_get_within}
use Rattle.std.proofs.lemmas.Slice.Zip.{get_or-zip, length-zip}
use Rattle.rp_base.specs.Answers.{Gives}
use Rattle.rp_base.specs.Plan.{HasPartner, HoldsSource, IsPair, IsTarget, IsWellFormed, Noted, noted_of}
use Rattle.rp_base.specs.Table.{IsInPlace}
use Rattle.rp_base.specs.declared.guid.Guid.{Guid}
use Rattle.rp_base.specs.declared.plan.Note.{Note}
use Rattle.rp_base.specs.declared.plan.Plan.{Plan}
use Rattle.rp_base.specs.declared.seen.Seen.{Seen}
use Rattle.rp_base.specs.declared.table.Row.{Row}
use Rattle.rp_areas.specs.Areas.{grains_up}
use Rattle.rp_areas.specs.declared.gaps.Area.{Area}
use Rattle.rp_place.specs.declared.threshold.Placed.{Placed}
use Rattle.rp_layout.specs.declared.spot.Spot.{Spot}
use Rattle.rp_layout.specs.Layout.{spot_at}
use Rattle.rp_demand.specs.declared.demand.Demand.{Demand}
use Rattle.rp_demand.specs.declared.demand.Demand.TheVariants.{Memory}
use Rattle.rp_defs.specs.declared.definition.Definition.{Definition}
use Rattle.rp_defs.specs.declared.definition.Verity.{Verity}
use Rattle.rp_defs.specs.declared.definition.Verity.TheVariants.{Off, Data, Hash}
use Rattle.rp_defs.specs.WellFormed.{HasPartner as HalfHasPartner, IsWellFormed as AreWellFormed}
use Rattle.rp_sizes.specs.declared.need.Fact.{Fact}
use Rattle.rp_sizes.specs.Needs.{AreFactsOn, fact_of, is_new, matched_of, wanted_of}
use Rattle.rp_sizes.specs.Sizes.{asked, least_of}
use Rattle.rp_sizes.proofs.AskedLemmas.{data_partner, hash_partner}
use Rattle.rp_plan.specs.Goal.{goal, notes_of}
use Rattle.rp_plan.specs.Kept.{first_free, is_kept, kept_files, kept_of}
use Rattle.rp_plan.specs.Notes.{new_note, old_note, role_of}
use Rattle.rp_plan.specs.Plannable.{IsGiven, IsPlannable}
use Rattle.rp_plan.specs.Rows.{row_again, row_for}
use Rattle.rp_plan.proofs.Formed.{goal_in_place, goal_laid_out, goal_notes, goal_writable, is_named}
use Rattle.rp_plan.proofs.Given.{no_row}
use Rattle.rp_plan.proofs.KeptLemmas.{and_both, kept_entries}
use Rattle.rp_plan.proofs.Listing.{through}
use Rattle.rp_plan.proofs.Naming.{bare}
use Rattle.rp_plan.proofs.Paired.{is_pair, kept_index, note_on}
use Rattle.rp_plan.proofs.Parts.{IsMadeOf, made_of}
use Rattle.rp_plan.proofs.Ready.{new_minima}
use Rattle.rp_plan.proofs.Sourced.{source_fits}
use Rattle.rp_plan.proofs.Written.{is_asked, kept_spot, spots}

no_past : {X : Type 0} (xs : List X) (k : ℕ) → k < length xs → slice_get xs k ≡ None → ⊥
no_past [] k below e = omega (arith, below)
no_past (x ∷ xs) zero below e = cc
no_past (x ∷ xs) (suc k) below e = no_past xs k (omega (arith, below)) e

module _ (seen : Seen) (target : ℕ) (defs : List Definition) (facts : List Fact) (seed : Guid) (areas : List Area) (placed : Placed) (plan : Plan)
    (given : IsGiven seen target defs (matched_of seen.shown defs)) (made : IsMadeOf seen target defs facts seed areas placed plan)
    (are : AreFactsOn (wanted_of seen.shown defs) facts) where
  abbrev own : List (Option ℕ)
  own = matched_of seen.shown defs

  abbrev pub taken : List (ℕ × Definition)
  taken = kept_of (matched_of seen.shown defs) placed.threshold defs

  abbrev pub free : ℕ
  free = first_free seen.shown.rows

  abbrev old_notes : List Note
  old_notes = map (old_note (matched_of seen.shown defs) plan.goal.rows) (enumerate_from 0 seen.shown.rows)

  abbrev new_notes : List Note
  new_notes = map (new_note seed defs facts (first_free seen.shown.rows) (kept_files (matched_of seen.shown defs) placed.threshold defs))
      (enumerate_from (first_free seen.shown.rows) (kept_of (matched_of seen.shown defs) placed.threshold defs))

  notes_are : plan.notes ≡ old_notes ++ new_notes
  unfolding notes_of
  notes_are = ap (λ (p : Plan). p.notes) made.same

  old_count : length old_notes ≡ length seen.shown.rows
  old_count = length-map (enumerate_from 0 seen.shown.rows) (old_note own plan.goal.rows) ∙ length-enumerate_from 0 seen.shown.rows

  -- the note on a row that was there
  pub old_at : (k : ℕ) (d : Note) → k < length seen.shown.rows → (r : Row) × (get_or plan.notes k d ≡ old_note own plan.goal.rows (k, r))
  old_at k d below =
      let inside : k < length old_notes = omega (arith, below, old_count) in
      let l : k < length (enumerate_from 0 seen.shown.rows) = omega (arith, below, length-enumerate_from 0 seen.shown.rows) in (
        get_or seen.shown.rows k no_row,
        ap (λ ns. get_or ns k d) notes_are ∙ get_or_append_left old_notes new_notes d k inside
            ∙ get_or-map (old_note own plan.goal.rows) (enumerate_from 0 seen.shown.rows) k (0, no_row) d l
            ∙ ap (old_note own plan.goal.rows) (get_or-enumerate_from 0 seen.shown.rows k (0, no_row) below
            ∙ ap (λ p. (p, get_or seen.shown.rows k no_row)) (zero-add k)),
      )

  -- the note on the row of a kept definition
  pub new_at : (j : ℕ) (e : ℕ × Definition) (d : Note) → slice_get taken j ≡ Some e
      → get_or plan.notes (length seen.shown.rows + j) d
      ≡ note_on seen target defs facts seed areas placed plan given made j e.0 e.1
  new_at j e d at =
      let below : j < length taken = slice_get_within taken j e at in
      let l : j < length (enumerate_from free taken) = omega (arith, below, length-enumerate_from free taken) in
      ap (λ ns. get_or ns (length seen.shown.rows + j) d) notes_are
      ∙ ap (λ p. get_or (old_notes ++ new_notes) (p + j) d) (sym old_count)
      ∙ get_or-append-add old_notes new_notes j d
      ∙ get_or-map (new_note seed defs facts free (kept_files own placed.threshold defs)) (enumerate_from free taken) j (0, e) d l
      ∙ ap (new_note seed defs facts free (kept_files own placed.threshold defs)) (get_or-enumerate_from free taken j (0, e) below
      ∙ ap (λ x. (free + j, x)) (get_or_from_slice_get taken j e e at))

  abbrev pub old_rows : List Row
  old_rows = map (row_again (matched_of seen.shown defs) (spots seen target defs facts seed areas placed plan given made)) (enumerate_from 0 seen.shown.rows)

  abbrev pub new_rows : List Row
  new_rows = map (row_for (spots seen target defs facts seed areas placed plan given made))
      (enumerate_from (first_free seen.shown.rows) (kept_of (matched_of seen.shown defs) placed.threshold defs))

  pub rows_count : length old_rows ≡ length seen.shown.rows
  rows_count = length-map (enumerate_from 0 seen.shown.rows) (row_again own (spots seen target defs facts seed areas placed plan given made))
      ∙ length-enumerate_from 0 seen.shown.rows

  pub goal_count : length plan.goal.rows ≡ length seen.shown.rows + length taken
  goal_count =
      let same = sym (length-map plan.goal.rows bare)
      ∙ ap length (is_named seen target defs facts seed areas placed plan given made).rows ∙ length-map (old_rows ++ new_rows) bare in
      let more = length-map (enumerate_from free taken) (row_for (spots seen target defs facts seed areas placed plan given made))
      ∙ length-enumerate_from free taken in
      omega (arith, same, more, rows_count, length-append old_rows new_rows)

  -- the size of the row of a kept definition
  size_at : (j : ℕ) (e : ℕ × Definition) (s : Spot) (d : Row) → slice_get taken j ≡ Some e
      → spot_at (spots seen target defs facts seed areas placed plan given made) e.0 ≡ Some s
      → (get_or plan.goal.rows (length seen.shown.rows + j) d).size ≡ s.size
  size_at j e s d at found =
      let place = spots seen target defs facts seed areas placed plan given made in
      let below : j < length taken = slice_get_within taken j e at in
      let l : j < length (enumerate_from free taken) = omega (arith, below, length-enumerate_from free taken) in
      let inside : length seen.shown.rows + j < length plan.goal.rows = omega (arith, below, goal_count) in
      let laid : length seen.shown.rows + j < length (old_rows ++ new_rows) = omega (
        arith,
        below,
        rows_count,
        length-append old_rows new_rows,
        length-map (enumerate_from free taken) (row_for place),
        length-enumerate_from free taken,
      ) in
      let sizes = through bare (λ (r : Row). r.size) (λ (r : Row). r.size) (λ r. refl) plan.goal.rows (old_rows ++ new_rows)
      (is_named seen target defs facts seed areas placed plan given made).rows in
      sym (get_or-map (λ (r : Row). r.size) plan.goal.rows (length seen.shown.rows + j) d 0 inside)
      ∙ ap (λ ns. get_or ns (length seen.shown.rows + j) 0) sizes
      ∙ get_or-map (λ (r : Row). r.size) (old_rows ++ new_rows) (length seen.shown.rows + j) d 0 laid
      ∙ ap (λ p. (get_or (old_rows ++ new_rows) (p + j) d).size) (sym rows_count)
      ∙ ap (λ (r : Row). r.size) (get_or-append-add old_rows new_rows j d
      ∙ get_or-map (row_for place) (enumerate_from free taken) j (0, e) d l
      ∙ ap (row_for place) (get_or-enumerate_from free taken j (0, e) below ∙ ap (λ x. (free + j, x)) (get_or_from_slice_get taken j e e at)))
      ∙ ap (λ (o : Option Spot). option_map_or (λ (s : Spot). s.size) o 0) found

  pub is_taken : (j : ℕ) (e : ℕ × Definition) → slice_get taken j ≡ Some e
      → (slice_get defs e.0 ≡ Some e.1) × (is_kept own placed.threshold e ≡ true)
  is_taken j e at = subst (λ (x : ℕ × Definition). (slice_get defs x.0 ≡ Some x.1) × (is_kept own placed.threshold x ≡ true))
      (get_or_from_slice_get taken j e e at) (kept_entries own placed.threshold defs j e (slice_get_within taken j e at))

  fact_fits : (k : ℕ) (def : Definition) (size : ℕ) → slice_get defs k ≡ Some def → least_of defs facts (k, def) ≤ grains_up size → size % 8 ≡ 0
      → (o : Option Fact) → fact_of facts k ≡ o → IfSome (option_map (λ (f : Fact). f.len) o) (λ bytes. IsSome (Some k) × (bytes ≤ 512 * size))
  fact_fits k def size at least whole None is = tt
  fact_fits k def size at least whole (Some fact) is = (refl, source_fits seen.shown defs facts are given.well_formed k def fact at is size least whole)

  new_holds : (j : ℕ) (e : ℕ × Definition) (r : Row) → slice_get taken j ≡ Some e
      → ((s : Spot) → spot_at (spots seen target defs facts seed areas placed plan given made) e.0 ≡ Some s → r.size ≡ s.size)
      → HoldsSource (r, note_on seen target defs facts seed areas placed plan given made j e.0 e.1)
  new_holds j e r at size =
      let both = is_taken j e at in
      let found = kept_spot seen target defs facts seed areas placed plan given made e.0 e.1 both.0 both.1 in
      let new = (and_both (is_new own e.0) (int_le e.1.priority placed.threshold) both.1).0 in
      let min_is = (new_minima seen target defs facts own (asked own defs facts) (is_asked seen target defs facts seed areas placed plan given made) e.0 e.1 both.0 new).0 in
      let is = found.2 in
      let same = size found.0 found.1 in
      fact_fits e.0 e.1 r.size both.0 (omega (arith, is.min, min_is, same)) (rw same is.kind.whole) (fact_of facts e.0) refl

  -- a row is one that was there, or that of a kept definition
  pub which : (k : ℕ) → k < length plan.goal.rows
      → (k < length seen.shown.rows) ⊎ ((j : ℕ) × (e : ℕ × Definition) × (slice_get taken j ≡ Some e) × (k ≡ length seen.shown.rows + j))
  which k below = elim (cases_lt k (length seen.shown.rows)) [
    | inl old ↦ inl old
    | inr new ↦
        let j : ℕ = k - length seen.shown.rows in
        let inside : j < length taken = omega (arith, new, below, goal_count) in
        elim (slice_get taken j) as (λ o. slice_get taken j ≡ o → (k < length seen.shown.rows)
        ⊎ ((j : ℕ) × (e : ℕ × Definition) × (slice_get taken j ≡ Some e) × (k ≡ length seen.shown.rows + j))) [
          | None ↦ λ e. absurd (no_past taken j inside e)
          | Some x ↦ λ e. inr (j, x, e, omega (arith, new))
        ] refl
  ]

  abbrev pub pair_at : ℕ → Noted → Noted
  pair_at k d = (get_or plan.goal.rows k d.0, get_or plan.notes k d.1)

  notes_count : length plan.notes ≡ length plan.goal.rows
  notes_count = ap length notes_are ∙ length-append old_notes new_notes
      ∙ omega (
        arith,
        old_count,
        goal_count,
        length-map (enumerate_from free taken) (new_note seed defs facts free (kept_files own placed.threshold defs)),
        length-enumerate_from free taken,
      )

  pub zip_at : (k : ℕ) (d : Noted) → k < length (noted_of plan) → (k < length plan.goal.rows) × (get_or (noted_of plan) k d ≡ pair_at k d)
  zip_at k d below =
      let l : k < length plan.goal.rows = omega (arith, below, length-zip plan.goal.rows plan.notes) in
      (l, get_or-zip plan.goal.rows plan.notes k d l (omega (arith, l, notes_count)))

  pub all_hold : All HoldsSource (noted_of plan)
  all_hold k d below =
      let z = zip_at k d below in
      subst HoldsSource (sym z.1) (elim (which k z.0) [
        | inl old ↦
            let note = old_at k d.1 old in
            subst (λ (n : Note). HoldsSource (get_or plan.goal.rows k d.0, n)) (sym note.1) tt
        | inr (j, e, at, is) ↦
            subst (λ (p : ℕ). HoldsSource (pair_at p d)) (sym is)
            (subst (λ (n : Note). HoldsSource (get_or plan.goal.rows (length seen.shown.rows + j) d.0, n)) (sym (new_at j e d.1 at))
            (new_holds j e (get_or plan.goal.rows (length seen.shown.rows + j) d.0) at (λ s found. size_at j e s d.0 at found)))
      ])

  abbrev half_at : ℕ → ℕ × Definition → Noted → Noted
  half_at j e d = (get_or plan.goal.rows (length seen.shown.rows + j) d.0, note_on seen target defs facts seed areas placed plan given made j e.0 e.1)

  -- the pair of two kept halves
  two : (j r : ℕ) (e o : ℕ × Definition) (d f : Noted) → slice_get taken j ≡ Some e → slice_get taken r ≡ Some o
      → e.1.verity ≡ Data o.0 → o.1.verity ≡ Hash e.0 → IsPair (half_at j e d) (half_at r o f)
  two j r e o d f in_j in_r half_e half_o =
      let a = is_taken j e in_j in
      let b = is_taken r o in_r in
      let s = kept_spot seen target defs facts seed areas placed plan given made e.0 e.1 a.0 a.1 in
      let u = kept_spot seen target defs facts seed areas placed plan given made o.0 o.1 b.0 b.1 in
      is_pair seen target defs facts seed areas placed plan given made j r e.0 o.0 e.1 o.1
      (get_or plan.goal.rows (length seen.shown.rows + j) d.0) (get_or plan.goal.rows (length seen.shown.rows + r) f.0) s.0 u.0
      in_j in_r a.0 b.0 a.1 b.1 half_e half_o s.1 u.1 (size_at j e s.0 d.0 in_j s.1) (size_at r o u.0 f.0 in_r u.1)

  -- a kept half stands in the list of rows and notes
  stands : (r : ℕ) (o : ℕ × Definition) (d : Noted) → slice_get taken r ≡ Some o
      → (length seen.shown.rows + r < length (noted_of plan)) × (get_or (noted_of plan) (length seen.shown.rows + r) d ≡ half_at r o d)
  stands r o d at =
      let below : r < length taken = slice_get_within taken r o at in
      let inside : length seen.shown.rows + r < length (noted_of plan) = omega (arith, below, goal_count, notes_count, length-zip plan.goal.rows plan.notes) in (
        inside,
        (zip_at (length seen.shown.rows + r) d inside).1
            ∙ ap (λ (n : Note). (get_or plan.goal.rows (length seen.shown.rows + r) d.0, n)) (new_at r o d.1 at),
      )

  -- read with itself for what stands past the end
  at_itself : (r : ℕ) (o : ℕ × Definition) (d : Noted) → slice_get taken r ≡ Some o
      → pair_at (length seen.shown.rows + r) (half_at r o d) ≡ half_at r o d
  at_itself r o d at =
      let below : r < length taken = slice_get_within taken r o at in
      let inside : length seen.shown.rows + r < length plan.goal.rows = omega (arith, below, goal_count) in
      let row : get_or plan.goal.rows (length seen.shown.rows + r) (half_at r o d).0 ≡ get_or plan.goal.rows (length seen.shown.rows + r) d.0 =
      get_or_default plan.goal.rows (length seen.shown.rows + r) (half_at r o d).0 d.0 inside in
      let both : Row → Note → Noted = λ x n. (x, n) in
      ap (λ x. both x (get_or plan.notes (length seen.shown.rows + r) (half_at r o d).1)) row
      ∙ ap (λ n. both (get_or plan.goal.rows (length seen.shown.rows + r) d.0) n) (new_at r o (half_at r o d).1 at)

  partner_of : (j : ℕ) (e : ℕ × Definition) (d : Noted) (v : Verity) → slice_get taken j ≡ Some e → e.1.verity ≡ v → HalfHasPartner defs e.0 e.1 v
      → HasPartner (noted_of plan) (half_at j e d) (role_of seed defs facts free (kept_files own placed.threshold defs) e.0 v)
  partner_of j e d Off at half partner = tt
  partner_of j e d (Data p) at half (other, place, pair) =
      let a = is_taken j e at in
      let flags = and_both (is_new own e.0) (int_le e.1.priority placed.threshold) a.1 in
      let new = data_partner own defs facts given.well_formed made.none e.0 p e.1 a.0 flags.0 half in
      let kept : is_kept own placed.threshold (p, other) ≡ true = ap (λ b. b && int_le other.priority placed.threshold) new
      ∙ ap (λ q. int_le q placed.threshold) (sym pair.priority) ∙ flags.1 in
      let r = kept_index own placed.threshold defs p other place kept in
      let there = stands r.0 (p, other) d r.1 in (
        length seen.shown.rows + r.0,
        half_at r.0 (p, other) d,
        there.0,
        (zip_at (length seen.shown.rows + r.0) (half_at r.0 (p, other) d) there.0).1 ∙ at_itself r.0 (p, other) d r.1,
        two j r.0 e (p, other) d d at r.1 half pair.hash_names,
      )
  partner_of j e d (Hash p) at half (other, place, pair) =
      let a = is_taken j e at in
      let flags = and_both (is_new own e.0) (int_le e.1.priority placed.threshold) a.1 in
      let new = (hash_partner own defs facts given.well_formed made.none e.0 p e.1 a.0 flags.0 half).0 in
      let kept : is_kept own placed.threshold (p, other) ≡ true = ap (λ b. b && int_le other.priority placed.threshold) new
      ∙ ap (λ q. int_le q placed.threshold) pair.priority ∙ flags.1 in
      let r = kept_index own placed.threshold defs p other place kept in
      let there = stands r.0 (p, other) d r.1 in (
        length seen.shown.rows + r.0,
        half_at r.0 (p, other) d,
        there.0,
        (zip_at (length seen.shown.rows + r.0) (half_at r.0 (p, other) d) there.0).1 ∙ at_itself r.0 (p, other) d r.1,
        two r.0 j (p, other) e d d r.1 at pair.data_names half,
      )

  pub all_paired : All (λ (noted : Noted). HasPartner (noted_of plan) noted noted.1.role) (noted_of plan)
  all_paired k d below =
      let z = zip_at k d below in
      subst (λ (x : Noted). HasPartner (noted_of plan) x x.1.role) (sym z.1) (elim (which k z.0) [
        | inl old ↦
            let note = old_at k d.1 old in
            subst (λ (n : Note). HasPartner (noted_of plan) (get_or plan.goal.rows k d.0, n) n.role) (sym note.1) tt
        | inr (j, e, at, is) ↦
            subst (λ (p : ℕ). HasPartner (noted_of plan) (pair_at p d) (pair_at p d).1.role) (sym is)
            (subst (λ (n : Note). HasPartner (noted_of plan) (get_or plan.goal.rows (length seen.shown.rows + j) d.0, n) n.role) (sym (new_at j e d.1 at))
            (partner_of j e d e.1.verity at refl (given.well_formed.partners e.0 e.1 (is_taken j e at).0)))
      ])

  pub plan_well_formed : IsWellFormed seen plan
  plan_well_formed =
      let same : plan.target ≡ target = ap (λ (p : Plan). p.target) made.same in
      let named = is_named seen target defs facts seed areas placed plan given made in
      record {
        target = subst (λ t. IsTarget plan.goal.sector seen.sectors t) (sym same) (rw named.sector given.aim);
        sector = named.sector;
        entries = named.entries;
        writable = goal_writable seen target defs facts seed areas placed plan given made;
        in_place = subst (λ t. IsInPlace t plan.goal) (sym same) (goal_in_place seen target defs facts seed areas placed plan given made);
        notes = goal_notes seen target defs facts seed areas placed plan given made;
        sources = all_hold;
        pairs = all_paired;
      }

-- a goal that is a plan is well formed
pub goal_well_formed : (seen : Seen) (target : ℕ) (defs : List Definition) (facts : List Fact) (seed : Guid) (plan : Plan) → IsPlannable seen
    → IsTarget seen.shown.sector seen.sectors target → AreWellFormed defs → AreFactsOn (wanted_of seen.shown defs) facts
    → goal seen target defs facts seed ≡ Ok plan → IsWellFormed seen plan
goal_well_formed seen target defs facts seed plan plannable aim wf are is =
    let made = made_of seen target defs facts seed plan is in
    plan_well_formed seen target defs facts seed made.0 made.1 plan
    (record { plannable = plannable; aim = aim; well_formed = wf; own = refl }) made.2 are

-- what gives it is well formed
pub given_well_formed : (seen : Seen) (target : ℕ) (defs : List Definition) (facts : List Fact) (seed : Guid) (r : Result Plan Demand) → IsPlannable seen
    → IsTarget seen.shown.sector seen.sectors target → AreWellFormed defs → AreFactsOn (wanted_of seen.shown defs) facts
    → Gives Memory (goal seen target defs facts seed) r → IfOk r (IsWellFormed seen)
given_well_formed seen target defs facts seed (Ok plan) plannable aim wf are (inl is) = goal_well_formed seen target defs facts seed plan plannable aim wf are (sym is)
given_well_formed seen target defs facts seed (Ok plan) plannable aim wf are (inr is) = absurd (cc)
given_well_formed seen target defs facts seed (Err demand) plannable aim wf are given = tt
