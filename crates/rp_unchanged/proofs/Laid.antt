-- The rows of kept definitions, and those of the goal.
use Rattle.std.proofs.Common.{◌≡◌, ◌∙◌, ℕ, ◌+◌, ◌<◌, List, ◌++◌, length, get_or, arith, ap, sym, slice_get, Some}
use Rattle.std.specs.List.{enumerate_from}
use Rattle.std.proofs.lemmas.List.{get_or-append-add, get_or-map, length-append, length-map}
use Rattle.std.proofs.lemmas.List.FromFn.{get_or-enumerate_from, length-enumerate_from}
use Rattle.std.proofs.lemmas.Option.{get_or_from_slice_get, slice_get_within}
use Rattle.rp_areas.specs.declared.gaps.Area.{Area}
use Rattle.rp_base.specs.declared.guid.Guid.{Guid}
use Rattle.rp_base.specs.declared.plan.Plan.{Plan}
use Rattle.rp_base.specs.declared.seen.Seen.{Seen}
use Rattle.rp_base.specs.declared.table.Row.{Row}
use Rattle.rp_defs.specs.declared.definition.Definition.{Definition}
use Rattle.rp_place.specs.declared.threshold.Placed.{Placed}
use Rattle.rp_plan.specs.Kept.{first_free, kept_of}
use Rattle.rp_plan.specs.Plannable.{IsGiven}
use Rattle.rp_plan.specs.Rows.{row_for}
use Rattle.rp_plan.proofs.Formed.{is_named, rows}
use Rattle.rp_plan.proofs.Naming.{bare}
use Rattle.rp_plan.proofs.Parts.{IsMadeOf}
use Rattle.rp_plan.proofs.Whole.{goal_count, new_rows, old_rows, rows_count}
use Rattle.rp_plan.proofs.Written.{spots}
use Rattle.rp_sizes.specs.Needs.{AreFactsOn, matched_of, wanted_of}
use Rattle.rp_sizes.specs.declared.need.Fact.{Fact}

module _ (seen : Seen) (target : ℕ) (defs : List Definition) (facts : List Fact) (seed : Guid) (areas : List Area) (placed : Placed)
    (plan : Plan) (given : IsGiven seen target defs (matched_of seen.shown defs))
    (made : IsMadeOf seen target defs facts seed areas placed plan) (are : AreFactsOn (wanted_of seen.shown defs) facts) where
  abbrev taken : List (ℕ × Definition)
  taken = kept_of (matched_of seen.shown defs) placed.threshold defs

  abbrev free : ℕ
  free = first_free seen.shown.rows

  abbrev count : ℕ
  count = length seen.shown.rows

  abbrev laid : List Row
  laid = rows seen target defs facts seed areas placed plan given made

  -- the row of a kept definition before it is named
  pub laid_row : (j : ℕ) (e : ℕ × Definition) (d : Row) → slice_get taken j ≡ Some e
      → (count + j < length laid)
      × (get_or laid (count + j) d ≡ row_for (spots seen target defs facts seed areas placed plan given made) (free + j, e))
  laid_row j e d at =
      let place = spots seen target defs facts seed areas placed plan given made in
      let olds = old_rows seen target defs facts seed areas placed plan given made are in
      let news = new_rows seen target defs facts seed areas placed plan given made are in
      let size = rows_count seen target defs facts seed areas placed plan given made are in
      let below : j < length taken = slice_get_within taken j e at in
      let l : j < length (enumerate_from free taken) = omega (arith, below, length-enumerate_from free taken) in (
        omega (
          arith,
          below,
          size,
          length-append olds news,
          length-map (enumerate_from free taken) (row_for place),
          length-enumerate_from free taken,
        ),
        ap (λ p. get_or (olds ++ news) (p + j) d) (sym size) ∙ get_or-append-add olds news j d
            ∙ get_or-map (row_for place) (enumerate_from free taken) j (0, e) d l
            ∙ ap (row_for place) (get_or-enumerate_from free taken j (0, e) below
            ∙ ap (λ x. (free + j, x)) (get_or_from_slice_get taken j e e at)),
      )

  -- and in the goal: naming leaves all but name and identifier
  pub goal_row : (j : ℕ) (e : ℕ × Definition) (d : Row) → slice_get taken j ≡ Some e
      → bare (get_or plan.goal.rows (count + j) d)
      ≡ bare (row_for (spots seen target defs facts seed areas placed plan given made) (free + j, e))
  goal_row j e d at =
      let below : j < length taken = slice_get_within taken j e at in
      let inside : count + j < length plan.goal.rows =
      omega (arith, below, goal_count seen target defs facts seed areas placed plan given made are) in
      let there = laid_row j e d at in
      sym (get_or-map bare plan.goal.rows (count + j) d (bare d) inside)
      ∙ ap (λ (rs : List Row). get_or rs (count + j) (bare d)) (is_named seen target defs facts seed areas placed plan given made).rows
      ∙ get_or-map bare laid (count + j) d (bare d) there.0 ∙ ap bare there.1
