-- In a table that is new, the rows of root and usr and of their trees are pairs, where their definitions are.
use Rattle.std.proofs.Common.{◌≡◌, ◌∙◌, ℕ, suc, ◌<◌, Bool, true, false, cond, List, [], ◌∷◌, length, get_or, Option, Some, None, IfSome, Ok, arith, inl, inr, refl, ap, sym, subst, slice_get}
use Rattle.std.specs.Prelude.{find}
use Rattle.std.specs.Option.{option_map_or}
use Rattle.rp_areas.specs.declared.gaps.Area.{Area}
use Rattle.rp_base.specs.Plan.{IsTarget, IsWellFormed, noted_of}
use Rattle.rp_base.specs.declared.guid.Guid.{Guid}
use Rattle.rp_base.specs.declared.plan.Note.{Note}
use Rattle.rp_base.specs.declared.plan.Plan.{Plan}
use Rattle.rp_base.specs.declared.seen.Seen.{Seen}
use Rattle.rp_base.specs.declared.table.Row.{Row}
use Rattle.rp_defs.specs.WellFormed.{HasPartner, IsWellFormed as AreWellFormed}
use Rattle.rp_defs.specs.declared.definition.Definition.{Definition}
use Rattle.rp_defs.specs.declared.definition.Verity.TheVariants.{Data, Hash}
use Rattle.rp_layout.specs.declared.spot.Spot.{Spot}
use Rattle.rp_layout.specs.Layout.{spot_at}
use Rattle.rp_place.specs.declared.threshold.Placed.{Placed}
use Rattle.rp_plan.specs.Goal.{goal}
use Rattle.rp_plan.specs.Kept.{is_kept, kept_of}
use Rattle.rp_plan.specs.Plannable.{IsGiven, IsPlannable}
use Rattle.rp_plan.proofs.KeptLemmas.{and_both}
use Rattle.rp_plan.proofs.Naming.{bare}
use Rattle.rp_plan.proofs.Paired.{is_pair, note_on}
use Rattle.rp_plan.proofs.Parts.{IsMadeOf, made_of}
use Rattle.rp_plan.proofs.Whole.{is_taken, new_at, plan_well_formed, which, zip_at}
use Rattle.rp_plan.proofs.Written.{kept_spot, spots}
use Rattle.rp_sizes.specs.Needs.{AreFactsOn, matched_of, wanted_of}
use Rattle.rp_sizes.specs.declared.need.Fact.{Fact}
use Rattle.rp_steps.proofs.Planned.{length-noted_of}
use Rattle.rp_types.specs.declared.arch.Arch.{Arch}
use Rattle.rp_types.specs.declared.arch.Designator.{Designator}
use Rattle.rp_types.specs.declared.arch.Designator.TheVariants.{Root, Usr, RootVerity, UsrVerity}
use Rattle.rp_verdict.specs.Rows.{may_be, row_of, tree_row}
use Rattle.rp_unchanged.specs.Defined.{AreHalves, AreSealed, is_of}
use Rattle.rp_unchanged.specs.Unchanged.{ArePaired, HasPairs}
use Rattle.rp_unchanged.proofs.Laid.{goal_row}

-- what is found stands at a place
record Found {X : Type 0} (p : X → Bool) (xs : List X) (y : X) : Type 0 where
  place : ℕ
  below : place < length xs
  is : get_or xs place y ≡ y
  passes : p y ≡ true

found_cons : {X : Type 0} (p : X → Bool) (b : Bool) (x y : X) (xs : List X) → p x ≡ b → cond b (Some x) (find p xs) ≡ Some y
    → (find p xs ≡ Some y → Found p xs y) → Found p (x ∷ xs) y
found_cons p true x y xs test is more =
    let same : x ≡ y = cc in
    record { place = 0; below = omega arith; is = same; passes = ap p (sym same) ∙ test }
found_cons p false x y xs test is more =
    let found = more is in
    let below = found.below in
    record { place = suc found.place; below = omega (arith, below); is = found.is; passes = found.passes }

find_place : {X : Type 0} (p : X → Bool) (xs : List X) (y : X) → find p xs ≡ Some y → Found p xs y
find_place p [] y is = absurd (cc)
find_place p (x ∷ xs) y is = found_cons p (p x) x y xs refl is (find_place p xs y)

module _ (seen : Seen) (target : ℕ) (defs : List Definition) (facts : List Fact) (seed : Guid) (areas : List Area) (placed : Placed)
    (plan : Plan) (given : IsGiven seen target defs (matched_of seen.shown defs))
    (made : IsMadeOf seen target defs facts seed areas placed plan) (are : AreFactsOn (wanted_of seen.shown defs) facts)
    (none : seen.shown.rows ≡ []) where
  abbrev own : List (Option ℕ)
  own = matched_of seen.shown defs

  abbrev taken : List (ℕ × Definition)
  taken = kept_of (matched_of seen.shown defs) placed.threshold defs

  abbrev lies : List (Option Spot)
  lies = spots seen target defs facts seed areas placed plan given made

  abbrev note : ℕ → ℕ × Definition → Note
  note j e = note_on seen target defs facts seed areas placed plan given made j e.0 e.1

  formed : IsWellFormed seen plan
  formed = plan_well_formed seen target defs facts seed areas placed plan given made are

  -- a row of the goal is that of a kept definition
  record IsOf (row : Row) : Type 0 where
    place : ℕ
    below : place < length (noted_of plan)
    j : ℕ
    e : ℕ × Definition
    at : slice_get taken j ≡ Some e
    entry : (slice_get defs e.0 ≡ Some e.1) × (is_kept own placed.threshold e ≡ true)
    kind : row.kind ≡ e.1.kind
    spot : Spot
    lies_there : spot_at lies e.0 ≡ Some spot
    size : row.size ≡ spot.size
    stands : get_or (noted_of plan) place (row, note j e) ≡ (row, note j e)

  of_row : (row : Row) (k : ℕ) → k < length plan.goal.rows → get_or plan.goal.rows k row ≡ row → IsOf row
  of_row row k below is = elim (which seen target defs facts seed areas placed plan given made are k below) [
    | inl old ↦ absurd (let count = ap (λ (rs : List Row). length rs) none in omega (arith, old, count))
    | inr (j, e, at, here) ↦
        let entry = is_taken seen target defs facts seed areas placed plan given made are j e at in
        let spot = kept_spot seen target defs facts seed areas placed plan given made e.0 e.1 entry.0 entry.1 in
        let same = ap bare (sym is ∙ ap (λ (n : ℕ). get_or plan.goal.rows n row) here)
        ∙ goal_row seen target defs facts seed areas placed plan given made are j e row at in
        let inside : k < length (noted_of plan) = omega (arith, below, length-noted_of seen plan formed) in
        let z = zip_at seen target defs facts seed areas placed plan given made are k (row, note j e) inside in
        record {
          place = k;
          below = inside;
          j = j;
          e = e;
          at = at;
          entry = entry;
          kind = ap (λ (r : Row). r.kind) same;
          spot = spot.0;
          lies_there = spot.1;
          size = ap (λ (r : Row). r.size) same ∙ ap (λ (o : Option Spot). option_map_or (λ (s : Spot). s.size) o 0) spot.1;
          stands = z.1 ∙ ap (λ (r : Row). (r, get_or plan.notes k (note j e))) is
              ∙ ap (λ (n : Note). (row, n)) (ap (λ (n : ℕ). get_or plan.notes n (note j e)) here
              ∙ new_at seen target defs facts seed areas placed plan given made are j e (note j e) at);
        }
  ]

  -- the rows of two halves are a pair
  are_paired : (payload hash : Row) (a : IsOf payload) (b : IsOf hash) → a.e.1.verity ≡ Data b.e.0 → ArePaired plan payload hash
  are_paired payload hash a b half =
      let partner = subst (λ v. HasPartner defs a.e.0 a.e.1 v) half (given.well_formed.partners a.e.0 a.e.1 a.entry.0) in
      let both : ◌≡◌ {A = Option Definition} (Some partner.0) (Some b.e.1) = sym partner.1 ∙ b.entry.0 in
      let other : partner.0 ≡ b.e.1 = cc in
      let half_too : b.e.1.verity ≡ Hash a.e.0 = ap (λ (d : Definition). d.verity) (sym other) ∙ partner.2.hash_names in (
        a.place,
        (payload, note a.j a.e),
        a.below,
        a.stands,
        (
          b.place,
          (hash, note b.j b.e),
          b.below,
          b.stands,
          (
            is_pair seen target defs facts seed areas placed plan given made a.j b.j a.e.0 b.e.0 a.e.1 b.e.1 payload hash a.spot b.spot
                a.at b.at a.entry.0 b.entry.0 a.entry.1 b.entry.1 half half_too a.lies_there b.lies_there a.size b.size,
            refl,
            refl,
          ),
        ),
      )

  module _ (arch : Arch) where
    -- the row that is found for a designator
    found_row : (d : Designator) (row : Row) → row_of arch plan.goal.rows d ≡ Some row
        → (is : IsOf row) × (is_of arch d is.e.1.kind ≡ true)
    unfolding row_of may_be
    found_row d row found =
        let at = find_place (may_be arch d) plan.goal.rows row found in
        let is = of_row row at.place at.below at.is in
        (is, ap (is_of arch d) (sym is.kind) ∙ (and_both _ (is_of arch d row.kind) at.passes).1)

    by_rows : (d tree : Designator) → AreHalves arch d tree defs → (o h : Option Row) → row_of arch plan.goal.rows d ≡ o
        → row_of arch plan.goal.rows tree ≡ h → IfSome o (λ payload. IfSome h (λ hash. ArePaired plan payload hash))
    by_rows d tree halves None h at there = tt
    by_rows d tree halves (Some payload) None at there = tt
    by_rows d tree halves (Some payload) (Some hash) at there =
        let a = found_row d payload at in
        let b = found_row tree hash there in
        are_paired payload hash a.0 b.0 (halves a.0.e.0 b.0.e.0 a.0.e.1 b.0.e.1 a.0.entry.0 b.0.entry.0 a.1 b.1)

    has_pairs : AreSealed arch defs → HasPairs arch plan
    unfolding tree_row
    has_pairs sealed = (
      by_rows Root RootVerity sealed.0 (row_of arch plan.goal.rows Root) (row_of arch plan.goal.rows RootVerity) refl refl,
      by_rows Usr UsrVerity sealed.1 (row_of arch plan.goal.rows Usr) (row_of arch plan.goal.rows UsrVerity) refl refl,
    )

-- so they are in a goal for an image whose table is new
pub goal_has_pairs : (seen : Seen) (target : ℕ) (defs : List Definition) (facts : List Fact) (seed : Guid) (plan : Plan) (arch : Arch)
    → IsPlannable seen → IsTarget seen.shown.sector seen.sectors target → AreWellFormed defs → AreFactsOn (wanted_of seen.shown defs) facts
    → goal seen target defs facts seed ≡ Ok plan → seen.shown.rows ≡ [] → AreSealed arch defs → HasPairs arch plan
goal_has_pairs seen target defs facts seed plan arch plannable aim wf are is none sealed =
    let made = made_of seen target defs facts seed plan is in
    has_pairs seen target defs facts seed made.0 made.1 plan
    (record { plannable = plannable; aim = aim; well_formed = wf; own = refl }) made.2 are none arch sealed
