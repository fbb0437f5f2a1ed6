-- Each old partition keeps its place in a goal.
use Rattle.std.proofs.Common.{◌≡◌, ◌≢◌, ◌∙◌, ℕ, zero, suc, ◌+◌, ◌<◌, ◌==◌, Bool, true, false, cond, List, [], ◌∷◌, ◌++◌, length, get_or, map, Option, Some, None, Ok, All, inl, inr, arith, refl, ap, sym, subst, slice_get, zero-add, eq-eqb}
use Rattle.std.specs.Prelude.{IfSome, position, unwrap_or}
use Rattle.std.specs.List.{enumerate_from, position_or_len}
use Rattle.std.specs.Option.{option_and_then, option_map, option_map_or, option_or}
use Rattle.std.proofs.lemmas.Bool.{cases_lt, lt-ltb}
use Rattle.std.proofs.lemmas.List.{get_or_past}
use Rattle.std.proofs.lemmas.List.Sums.{fails_before_first}
use Rattle.std.proofs.lemmas.Option.{slice_get_within}
use Rattle.rp_base.specs.declared.guid.Guid.{Guid}
use Rattle.rp_base.specs.declared.plan.Plan.{Plan}
use Rattle.rp_base.specs.declared.seen.Seen.{Seen}
use Rattle.rp_base.specs.declared.table.Row.{Row}
use Rattle.rp_areas.specs.Areas.{file_of}
use Rattle.rp_areas.specs.declared.gaps.Area.{Area}
use Rattle.rp_place.specs.declared.threshold.Placed.{Placed}
use Rattle.rp_layout.specs.declared.spot.Spot.{Spot}
use Rattle.rp_layout.specs.Layout.{spot_at}
use Rattle.rp_types.specs.Types.{label_of}
use Rattle.rp_defs.specs.declared.definition.Definition.{Definition}
use Rattle.rp_ident.specs.Facts.{AllStay, Stays}
use Rattle.rp_ident.specs.Naming.{rows_named}
use Rattle.rp_ident.specs.declared.naming.Naming.{Naming}
use Rattle.rp_ident.proofs.ApartLemmas.{named-others, named-stay}
use Rattle.rp_ident.proofs.LawLemmas.{named-rows}
use Rattle.rp_sizes.specs.declared.need.Fact.{Fact}
use Rattle.rp_sizes.specs.Needs.{matched_of}
use Rattle.rp_sizes.proofs.NewsLemmas.{All-answers}
use Rattle.rp_plan.specs.Goal.{goal_table, spots_of}
use Rattle.rp_plan.specs.Kept.{first_free, kept_files, kept_of, place_in, rank_in}
use Rattle.rp_plan.specs.Names.{half_id, naming_of, namings_of}
use Rattle.rp_plan.specs.Plannable.{IsGiven}
use Rattle.rp_plan.specs.Rows.{row_again, row_for, table_laid}
use Rattle.rp_plan.proofs.Formed.{rows}
use Rattle.rp_plan.proofs.Parts.{IsMadeOf, made_of}
use Rattle.rp_plan.proofs.Written.{own_spot, spots}
use Rattle.rp_gpt.specs.declared.table_fault.Empty.{Empty}
use Rattle.rp_idle.specs.Idle.{IsPlanned}
use Rattle.rp_headline.specs.Kept.{KeepsEach, KeepsPlace, KeepsPlaces}
use Rattle.rp_headline.proofs.Given.{given_by}

-- rows that stay do so one by one
stay_at : (befores afters : List Row) → AllStay befores afters → (k : ℕ) (old : Row) → slice_get befores k ≡ Some old
    → (row : Row) × (slice_get afters k ≡ Some row) × Stays old row
stay_at [] afters stay k old at = absurd (cc)
stay_at (b ∷ befores) [] stay k old at = absurd stay
stay_at (b ∷ befores) (a ∷ afters) stay zero old at = let same : b ≡ old = cc in (a, refl, subst (λ r. Stays r a) same stay.0)
stay_at (b ∷ befores) (a ∷ afters) stay (suc k) old at = stay_at befores afters stay.1 k old at

-- a row that is there, as it is laid out
again_at : (matched : List (Option ℕ)) (spots : List (Option Spot)) (behind : List Row) (n k m : ℕ) (old : List Row) (row : Row)
    → slice_get old k ≡ Some row → m ≡ n + k
    → slice_get (map (row_again matched spots) (enumerate_from n old) ++ behind) k ≡ Some (row_again matched spots (m, row))
again_at matched spots behind n k m [] row at e = absurd (cc)
again_at matched spots behind n zero m (r ∷ old) row at e =
    let same : r ≡ row = cc in
    let place : n ≡ m = omega (arith, e) in
    ap (λ x. Some (row_again matched spots (n, x))) same ∙ ap (λ p. Some (row_again matched spots (p, row))) place
again_at matched spots behind n (suc k) m (r ∷ old) row at e =
    again_at matched spots behind (n + 1) k m old row at (omega (arith, e))

-- where nothing is found, no item passes
position-None : {X : Type 0} (p : X → Bool) (xs : List X) (k : ℕ) (d : X) → position p xs ≡ None → k < length xs → p (get_or xs k d) ≡ false
position-None p xs k d none below = elim (cases_lt (position_or_len p xs) (length xs)) [
  | inl within ↦ absurd (let e : Some (position_or_len p xs) ≡ None = sym
      (ap (λ b. cond b (Some (position_or_len p xs)) None) (lt-ltb _ _ within)) ∙ none in cc)
  | inr past ↦ fails_before_first p xs k d (omega (arith, past, below))
]

abbrev has : ℕ → Option ℕ → Bool
has place m = option_map_or (λ p. p == place) m false

-- where no definition has a row, none of them is at its place
not_own : (matched : List (Option ℕ)) (place : ℕ) → file_of matched place ≡ None → (file p : ℕ) → get_or matched file None ≡ Some p
    → p ≢ place
not_own matched place none file p at same = elim (cases_lt file (length matched)) [
  | inl within ↦
      let fails : has place (get_or matched file None) ≡ false = position-None (has place) matched file None none within in
      let passes : has place (get_or matched file None) ≡ true = ap (has place) at ∙ eq-eqb p place same in
      let e : true ≡ false = sym passes ∙ fails in cc
  | inr past ↦ let e : None ≡ Some p = sym (get_or_past matched file None past) ∙ at in cc
]

-- nor is a new one, which stands behind the rows that are there
not_placed : (o rank : Option ℕ) (rows place : ℕ) → place < rows → ((p : ℕ) → o ≡ Some p → p ≢ place) → (p : ℕ)
    → option_or o (option_map (λ r. rows + r) rank) ≡ Some p → p ≢ place
not_placed None None rows place below own p at same = let e : ◌≡◌ {A = Option ℕ} None (Some p) = at in cc
not_placed None (Some r) rows place below own p at same =
    let e : ◌≡◌ {A = Option ℕ} (Some (rows + r)) (Some p) = at in
    let there : rows + r ≡ p = cc in
    omega (arith, there, same, below)
not_placed (Some q) rank rows place below own p at same = own p at same

module _ (seen : Seen) (target : ℕ) (defs : List Definition) (facts : List Fact) (seed : Guid) (areas : List Area) (placed : Placed)
    (plan : Plan)
    (given : IsGiven seen target defs (matched_of seen.shown defs)) (made : IsMadeOf seen target defs facts seed areas placed plan) where
  abbrev own : List (Option ℕ)
  own = matched_of seen.shown defs

  abbrev lies : List (Option Spot)
  lies = spots seen target defs facts seed areas placed plan given made

  abbrev files : List ℕ
  files = kept_files (matched_of seen.shown defs) placed.threshold defs

  abbrev laid : List Row
  laid = rows seen target defs facts seed areas placed plan given made

  abbrev namings : List Naming
  namings = namings_of facts (matched_of seen.shown defs) (length seen.shown.rows)
      (kept_files (matched_of seen.shown defs) placed.threshold defs) defs

  named_so : rows_named laid namings seed ≡ Ok plan.goal.rows
  unfolding goal_table spots_of
  named_so = (named-rows (table_laid seen target laid) plan.goal namings seed made.table).0

  laid_at : (place : ℕ) (old : Row) → slice_get seen.shown.rows place ≡ Some old
      → slice_get laid place ≡ Some (row_again own lies (place, old))
  laid_at place old at =
      again_at own lies (map (row_for lies) (enumerate_from (first_free seen.shown.rows) (kept_of own placed.threshold defs)))
      0 place place seen.shown.rows old at (sym (zero-add place))

  -- a row is named no other than itself, where no definition has it
  no_naming : (place : ℕ) → place < length seen.shown.rows → file_of own place ≡ None → All (λ (n : Naming). n.row ≢ place) namings
  no_naming place below none =
      All-answers (λ (n : Naming). n.row ≢ place) (naming_of facts own (length seen.shown.rows) files) 0 defs (λ k m def e at.
      by_place m def (place_in own (length seen.shown.rows) files m)
      (not_placed (get_or own m None) (rank_in files m) (length seen.shown.rows) place below (not_own own place none m)))
    where
      by_place : (m : ℕ) (def : Definition) (o : Option ℕ) → ((p : ℕ) → o ≡ Some p → p ≢ place)
          → IfSome (option_map (λ row. record {
            row = row;
            file = m;
            label = unwrap_or def.label (label_of def.kind);
            fixed = option_or
                def.id (half_id facts m def.verity);
          }) o)
          (λ (n : Naming). n.row ≢ place)
      by_place m def None other = tt
      by_place m def (Some row) other = other row refl

  -- what is laid out of a row keeps its place, and naming leaves it there
  kept_by : (place : ℕ) (old row : Row) → slice_get seen.shown.rows place ≡ Some old → (f : Option ℕ) → file_of own place ≡ f
      → (o : Option Spot) → option_and_then (spot_at lies) f ≡ o
      → Stays (option_map_or (λ (s : Spot). record old { size = s.size }) o old) row → KeepsPlace old row
  kept_by place old row at f owner None is stays = record {
    slot = stays.slot;
    kind = stays.kind;
    start = stays.start;
    size = omega (arith, stays.size);
    attrs = stays.attrs;
    name = stays.name;
    id = stays.id;
  }
  kept_by place old row at None owner (Some s) is stays = absurd (let e : ◌≡◌ {A = Option Spot} None (Some s) = is in cc)
  kept_by place old row at (Some file) owner (Some s) is stays =
      let spot = own_spot seen target defs facts seed areas placed plan given made place file old s at owner is in record {
        slot = stays.slot;
        kind = stays.kind;
        start = stays.start;
        size = omega (arith, stays.size, spot.kind.least);
        attrs = stays.attrs;
        name = stays.name;
        id = stays.id;
      }

  foreign_laid : (place : ℕ) (old : Row) → file_of own place ≡ None → row_again own lies (place, old) ≡ old
  foreign_laid place old none =
      ap (λ (f : Option ℕ). option_map_or (λ (s : Spot). record old { size = s.size }) (option_and_then (spot_at lies) f) old) none

  pub each_kept : (place : ℕ) (old : Row) → slice_get seen.shown.rows place ≡ Some old → KeepsEach seen defs plan place old
  each_kept place old at =
      let stay = stay_at laid plan.goal.rows (named-stay laid namings seed plan.goal.rows named_so) place
      (row_again own lies (place, old)) (laid_at place old at) in record {
        row = stay.0;
        there = stay.1;
        keeps = kept_by place old stay.0 at (file_of own place) refl (option_and_then (spot_at lies) (file_of own place)) refl stay.2;
        foreign = λ none.
            let same : Some stay.0 ≡ Some old = sym stay.1
            ∙ named-others laid namings seed plan.goal.rows place
            (no_naming place (slice_get_within seen.shown.rows place old at) none) named_so
            ∙ laid_at place old at ∙ ap (λ r. Some r) (foreign_laid place old none) in cc;
      }

-- each old partition keeps its place in a plan that is the goal
pub places_kept : (sector : ℕ) (old : List ℕ) (empty : Empty) (seen : Seen) (target : ℕ) (defs : List Definition) (facts : List Fact)
    (seed : Guid) (plan : Plan) → IsPlanned sector old empty seen target defs facts seed plan → KeepsPlaces seen defs plan
places_kept sector old empty seen target defs facts seed plan is place row at =
    let parts = made_of seen target defs facts seed plan is.goal_is in
    each_kept seen target defs facts seed parts.0 parts.1 plan (given_by sector old empty seen target defs facts seed plan is) parts.2 place
    row at
