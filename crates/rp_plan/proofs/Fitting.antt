-- A goal that is a plan fits what was seen.
use Rattle.std.proofs.Common.{◌≡◌, ◌≢◌, ◌∙◌, ◌⊎◌, ℕ, ◌+◌, ◌<◌, ◌≤◌, Bool, true, false, cond, List, ◌++◌, length, get_or, map, Option, Some, None, Ok, All, AllPairs, arith, inl, inr, refl, ap, sym, subst, slice_get, zero-add}
use Rattle.std.specs.Prelude.{int_le, slice_index_or}
use Rattle.std.specs.List.{enumerate_from}
use Rattle.std.specs.Option.{option_and_then, option_map_or}
use Rattle.std.proofs.lemmas.Bool.{cases_order}
use Rattle.std.proofs.lemmas.List.{get_or-append-add, get_or-map, get_or_append_left, length-map}
use Rattle.std.proofs.lemmas.List.FromFn.{get_or-enumerate_from, length-enumerate_from}
use Rattle.std.proofs.lemmas.Option.{get_or_from_slice_get, slice_get-get_or, slice_get_within}
use Rattle.rp_base.specs.Plan.{Fits, FitsRows, IsTarget, KeepsRow, noted_of}
use Rattle.rp_base.specs.Table.{AreApart}
use Rattle.rp_base.specs.declared.guid.Guid.{Guid}
use Rattle.rp_base.specs.declared.plan.Change.TheVariants.{New, Changed, Same}
use Rattle.rp_base.specs.declared.plan.Note.{Note}
use Rattle.rp_base.specs.declared.plan.Plan.{Plan}
use Rattle.rp_base.specs.declared.seen.Seen.{Seen}
use Rattle.rp_base.specs.declared.seen.Origin.TheVariants as origins
use Rattle.rp_base.specs.declared.table.Row.{Row}
use Rattle.rp_areas.specs.Areas.{file_of}
use Rattle.rp_areas.specs.declared.gaps.Area.{Area}
use Rattle.rp_place.specs.declared.threshold.Placed.{Placed}
use Rattle.rp_layout.specs.declared.spot.Spot.{Spot}
use Rattle.rp_layout.specs.Facts.{IsOff}
use Rattle.rp_layout.specs.Layout.{spot_at}
use Rattle.rp_layout.proofs.Public.{rows_apart}
use Rattle.rp_defs.specs.WellFormed.{IsWellFormed as AreWellFormed}
use Rattle.rp_defs.specs.declared.definition.Definition.{Definition}
use Rattle.rp_sizes.specs.declared.need.Fact.{Fact}
use Rattle.rp_sizes.specs.Needs.{AreFactsOn, is_new, matched_of, wanted_of}
use Rattle.rp_plan.specs.Goal.{goal}
use Rattle.rp_plan.specs.Kept.{first_free, kept_of}
use Rattle.rp_plan.specs.Notes.{same_row}
use Rattle.rp_plan.specs.Plannable.{IsGiven, IsPlannable}
use Rattle.rp_plan.specs.Rows.{last_of, row_again, row_for}
use Rattle.rp_plan.proofs.Formed.{is_named, used_below}
use Rattle.rp_plan.proofs.Given.{matched_length, no_row}
use Rattle.rp_plan.proofs.KeptLemmas.{and_both}
use Rattle.rp_plan.proofs.Naming.{bare}
use Rattle.rp_plan.proofs.Parts.{IsMadeOf, made_of}
use Rattle.rp_plan.proofs.Reached.{found_reach}
use Rattle.rp_plan.proofs.Ready.{no_row_of}
use Rattle.rp_plan.proofs.Whole.{goal_well_formed, is_taken, new_at, old_at, rows_count, which, zip_at}
use Rattle.rp_plan.proofs.Written.{kept_spot, news, own_spot, ready, spots, wants}

-- rows of one slot are one row
one_row : (old : List Row) → AllPairs (λ (a b : Row). a.slot < b.slot) old → (i k : ℕ) (row e : Row) → slice_get old k ≡ Some row → i < length old
    → (get_or old i e).slot ≡ row.slot → get_or old i e ≡ row
one_row old rising i k row e at below same =
    let here : get_or old k e ≡ row = get_or_from_slice_get old k row e at in
    let slot : (get_or old k e).slot ≡ row.slot = ap (λ (r : Row). r.slot) here in
    elim (cases_order i k) [
      | inl one ↦ ap (λ n. get_or old n e) one ∙ here
      | inr order ↦ absurd (elim order [
        | inl before ↦ let less = rising i k e before (slice_get_within old k row at) in omega (arith, less, same, slot)
        | inr behind ↦ let less = rising k i e behind below in omega (arith, less, same, slot)
      ])
    ]

-- a row that keeps the one of its slot fits
old_fits : (old : List Row) → AllPairs (λ (a b : Row). a.slot < b.slot) old → (k : ℕ) (row g : Row) (n : Note) → slice_get old k ≡ Some row
    → g.slot ≡ row.slot → KeepsRow (g, n) row → FitsRows old (g, n)
old_fits old rising k row g n at slot keeps = (
  λ i e below same. subst (KeepsRow (g, n)) (sym (one_row old rising i k row e at below (same ∙ slot))) keeps,
  λ none. absurd (none k row (slice_get_within old k row at)
      (ap (λ (r : Row). r.slot) (get_or_from_slice_get old k row row at) ∙ sym slot)),
)

-- a new row behind the slots that are used fits
new_fits : (old : List Row) (g : Row) (n : Note) → first_free old ≤ g.slot → n.change ≡ New → All (AreApart g) old → FitsRows old (g, n)
new_fits old g n slot new apart = (
  λ i e below same. absurd (
      let used = used_below old 0 i e.slot (omega (arith, below, length-map old (λ (r : Row). r.slot))) in
      omega (arith, used, same, slot, get_or-map (λ (r : Row). r.slot) old i e e.slot below)),
  λ none. record { change = new; apart = apart },
)

not_new : (b : Bool) → cond b Same Changed ≡ New → ⊥
not_new true is = cc
not_new false is = cc

-- a definition without a row has none
owned : (o : Option (Option ℕ)) (p : ℕ) → o ≡ Some None → o ≡ Some (Some p) → ⊥
owned o p none some = cc

-- what stays of a row that is there
abbrev Stays : Row → Row → Type 0
Stays row g = (g.slot ≡ row.slot) × (g.kind ≡ row.kind) × (g.start ≡ row.start) × (g.attrs ≡ row.attrs) × (row.size ≤ g.size)

off_apart : (s : Spot) (row g : Row) → g.start ≡ s.start → g.size ≡ s.size → IsOff s row → AreApart g row
off_apart s row g start size (inl before) = inr (omega (arith, before, start))
off_apart s row g start size (inr behind) = inl (omega (arith, behind, start, size))

module _ (seen : Seen) (target : ℕ) (defs : List Definition) (facts : List Fact) (seed : Guid) (areas : List Area) (placed : Placed) (plan : Plan)
    (given : IsGiven seen target defs (matched_of seen.shown defs)) (made : IsMadeOf seen target defs facts seed areas placed plan)
    (are : AreFactsOn (wanted_of seen.shown defs) facts) where
  abbrev own : List (Option ℕ)
  own = matched_of seen.shown defs

  abbrev place : List (Option Spot)
  place = spots seen target defs facts seed areas placed plan given made

  abbrev before : List Row
  before = map (row_again (matched_of seen.shown defs) (spots seen target defs facts seed areas placed plan given made)) (enumerate_from 0 seen.shown.rows)

  abbrev behind : List Row
  behind = map (row_for (spots seen target defs facts seed areas placed plan given made))
      (enumerate_from (first_free seen.shown.rows) (kept_of (matched_of seen.shown defs) placed.threshold defs))

  stays_by : (k : ℕ) (row : Row) → slice_get seen.shown.rows k ≡ Some row → (f : Option ℕ) → file_of own k ≡ f → (o : Option Spot)
      → option_and_then (spot_at place) f ≡ o → Stays row (option_map_or (λ (s : Spot). record row { size = s.size }) o row)
  stays_by k row at f owner None is = (refl, refl, refl, refl, omega arith)
  stays_by k row at None owner (Some s) is = absurd (cc)
  stays_by k row at (Some file) owner (Some s) is =
      let spot = own_spot seen target defs facts seed areas placed plan given made k file row s at owner is in
      (refl, refl, refl, refl, spot.kind.least)

  -- the row of the goal at a place, but for its name, is the one that was laid out
  pub laid_at : (k : ℕ) (d : Row) → k < length plan.goal.rows → bare (get_or plan.goal.rows k d) ≡ bare (get_or (before ++ behind) k d)
  laid_at k d below =
      let same = (is_named seen target defs facts seed areas placed plan given made).rows in
      let inside : k < length (before ++ behind) = omega (
        arith,
        below,
        sym (length-map plan.goal.rows bare) ∙ ap length same ∙ length-map (before ++ behind) bare,
      ) in
      sym (get_or-map bare plan.goal.rows k d (bare d) below) ∙ ap (λ rs. get_or rs k (bare d)) same
      ∙ get_or-map bare (before ++ behind) k d (bare d) inside

  pub old_row_at : (k : ℕ) (d : Row) → k < length seen.shown.rows
      → get_or (before ++ behind) k d ≡ row_again own place (k, get_or seen.shown.rows k no_row)
  old_row_at k d below =
      let l : k < length (enumerate_from 0 seen.shown.rows) = omega (arith, below, length-enumerate_from 0 seen.shown.rows) in
      let inside : k < length before = omega (arith, below, rows_count seen target defs facts seed areas placed plan given made are) in
      get_or_append_left before behind d k inside
      ∙ get_or-map (row_again own place) (enumerate_from 0 seen.shown.rows) k (0, no_row) d l
      ∙ ap (row_again own place) (get_or-enumerate_from 0 seen.shown.rows k (0, no_row) below
      ∙ ap (λ p. (p, get_or seen.shown.rows k no_row)) (zero-add k))

  pub new_row_at : (j : ℕ) (e : ℕ × Definition) (d : Row) → slice_get (kept_of own placed.threshold defs) j ≡ Some e
      → get_or (before ++ behind) (length seen.shown.rows + j) d ≡ row_for place (first_free seen.shown.rows + j, e)
  new_row_at j e d at =
      let kept = kept_of own placed.threshold defs in
      let used = first_free seen.shown.rows in
      let below : j < length kept = slice_get_within kept j e at in
      let l : j < length (enumerate_from used kept) = omega (arith, below, length-enumerate_from used kept) in
      ap (λ p. get_or (before ++ behind) (p + j) d) (sym (rows_count seen target defs facts seed areas placed plan given made are))
      ∙ get_or-append-add before behind j d
      ∙ get_or-map (row_for place) (enumerate_from used kept) j (0, e) d l
      ∙ ap (row_for place) (get_or-enumerate_from used kept j (0, e) below ∙ ap (λ x. (used + j, x)) (get_or_from_slice_get kept j e e at))

  old_row_fits : (k : ℕ) (d : Row) (n : Note) → k < length plan.goal.rows → k < length seen.shown.rows → n.change ≢ New
      → FitsRows seen.shown.rows (get_or plan.goal.rows k d, n)
  old_row_fits k d n inside below change =
      let row = get_or seen.shown.rows k no_row in
      let at = slice_get-get_or seen.shown.rows k no_row below in
      let stays = stays_by k row at (file_of own k) refl (option_and_then (spot_at place) (file_of own k)) refl in
      let is : Stays row (get_or plan.goal.rows k d) = subst (Stays row) (sym (laid_at k d inside ∙ ap bare (old_row_at k d below))) stays in
      old_fits seen.shown.rows given.plannable.writable.rows.rising k row (get_or plan.goal.rows k d) n at is.0
      (record { kind = is.1; start = is.2; attrs = is.3; size = is.4; change = change })

  new_row_fits : (j : ℕ) (e : ℕ × Definition) (d : Row) (n : Note) → length seen.shown.rows + j < length plan.goal.rows
      → slice_get (kept_of own placed.threshold defs) j ≡ Some e → n.change ≡ New
      → FitsRows seen.shown.rows (get_or plan.goal.rows (length seen.shown.rows + j) d, n)
  new_row_fits j e d n inside at new =
      let g = get_or plan.goal.rows (length seen.shown.rows + j) d in
      let both = is_taken seen target defs facts seed areas placed plan given made are j e at in
      let found = kept_spot seen target defs facts seed areas placed plan given made e.0 e.1 both.0 both.1 in
      let s : Spot = found.0 in
      let same = laid_at (length seen.shown.rows + j) d inside ∙ ap bare (new_row_at j e d at) in
      let slot : g.slot ≡ first_free seen.shown.rows + j = ap (λ (r : Row). r.slot) same in
      let reach = found_reach place e.0 s found.1 in
      let start : g.start ≡ s.start = ap (λ (r : Row). r.start) same ∙ ap (λ (r : ℕ × ℕ). r.0) reach in
      let size : g.size ≡ s.size = ap (λ (r : Row). r.size) same ∙ ap (λ (r : ℕ × ℕ). r.1) reach in
      let fresh = (and_both (is_new own e.0) (int_le e.1.priority placed.threshold) both.1).0 in
      let none = no_row_of own e.0 (omega (arith, slice_get_within defs e.0 e.1 both.0, matched_length seen target defs own given)) fresh in
      new_fits seen.shown.rows g n (omega (arith, slot)) new (λ i row below.
      off_apart s (get_or seen.shown.rows i row) g start size
      (rows_apart seen.shown (last_of seen target) own (wants seen target defs facts seed areas placed plan given made) areas
      (news seen target defs facts seed areas placed plan given made) placed (ready seen target defs facts seed areas placed plan given made)
      e.0 s i (get_or seen.shown.rows i row) found.1 (slice_get-get_or seen.shown.rows i row below) (owned (slice_get own e.0) i none)))

  pub all_fit : All (FitsRows seen.shown.rows) (noted_of plan)
  all_fit k d below =
      let z = zip_at seen target defs facts seed areas placed plan given made are k d below in
      subst (FitsRows seen.shown.rows) (sym z.1) (elim (which seen target defs facts seed areas placed plan given made are k z.0) [
        | inl old ↦
            let note = old_at seen target defs facts seed areas placed plan given made are k d.1 old in
            old_row_fits k d.0 (get_or plan.notes k d.1) z.0 old (λ new.
            not_new (same_row note.0 (slice_index_or plan.goal.rows k note.0)) (sym (ap (λ (n : Note). n.change) note.1) ∙ new))
        | inr (j, e, at, is) ↦
            subst (λ (p : ℕ). FitsRows seen.shown.rows (get_or plan.goal.rows p d.0, get_or plan.notes p d.1)) (sym is)
            (new_row_fits j e d.0 (get_or plan.notes (length seen.shown.rows + j) d.1) (omega (arith, z.0, is)) at
            (ap (λ (n : Note). n.change) (new_at seen target defs facts seed areas placed plan given made are j e d.1 at)))
      ])

-- a goal that is a plan fits, where the length stays or the primary copy was read
pub goal_fits : (seen : Seen) (target : ℕ) (defs : List Definition) (facts : List Fact) (seed : Guid) (plan : Plan) → IsPlannable seen
    → IsTarget seen.shown.sector seen.sectors target → AreWellFormed defs → AreFactsOn (wanted_of seen.shown defs) facts
    → (target ≡ seen.sectors) ⊎ (seen.origin ≡ origins.Primary) → goal seen target defs facts seed ≡ Ok plan → Fits seen plan
goal_fits seen target defs facts seed plan plannable aim wf are grows is =
    let made = made_of seen target defs facts seed plan is in
    let given : IsGiven seen target defs (matched_of seen.shown defs) = record { plannable = plannable; aim = aim; well_formed = wf; own = refl } in
    let same : plan.target ≡ target = ap (λ (p : Plan). p.target) made.2.same in record {
      well_formed = goal_well_formed seen target defs facts seed plan plannable aim wf are is;
      grows = subst (λ t. (t ≡ seen.sectors) ⊎ (seen.origin ≡ origins.Primary)) (sym same) grows;
      rows = all_fit seen target defs facts seed made.0 made.1 plan given made.2 are;
    }
