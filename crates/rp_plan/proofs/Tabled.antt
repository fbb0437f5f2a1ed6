-- The table of a plan, from what the code has.
use Rattle.std.proofs.Common.{◌≡◌, ◌∙◌, ◌++◌, ℕ, ℤ, List, Option, Result, length, map, ap}
use Rattle.std.specs.List.{enumerate_from}
use Rattle.rp_base.specs.declared.guid.Guid.{Guid}
use Rattle.rp_base.specs.declared.plan.Note.{Note}
use Rattle.rp_base.specs.declared.plan.Plan.{Plan}
use Rattle.rp_base.specs.declared.seen.Seen.{Seen}
use Rattle.rp_base.specs.declared.table.Table.{Table}
use Rattle.rp_base.specs.declared.want.Want.{Want}
use Rattle.rp_areas.specs.declared.gaps.Area.{Area}
use Rattle.rp_place.specs.declared.threshold.Placed.{Placed}
use Rattle.rp_ident.specs.declared.fault.IdentFault.{IdentFault}
use Rattle.rp_ident.specs.Naming.{named}
use Rattle.rp_defs.specs.declared.definition.Definition.{Definition}
use Rattle.rp_layout.specs.declared.spot.Spot.{Spot}
use Rattle.rp_layout.specs.Layout.{laid}
use Rattle.rp_sizes.specs.declared.need.Fact.{Fact}
use Rattle.rp_sizes.specs.Needs.{matched_of}
use Rattle.rp_sizes.specs.News.{news_of}
use Rattle.rp_plan.specs.Goal.{goal_table, notes_of, plan_with, spots_of}
use Rattle.rp_plan.specs.Kept.{dropped_files, first_free, kept_files, kept_of}
use Rattle.rp_plan.specs.Names.{namings_of}
use Rattle.rp_plan.specs.Notes.{new_note, old_note}
use Rattle.rp_plan.specs.Rows.{rows_laid, table_laid}

pub table_is : (seen : Seen) (target : ℕ) (defs : List Definition) (facts : List Fact) (seed : Guid) (wants : List Want) (areas : List Area)
    (placed : Placed) (matched : List (Option ℕ)) (spots : List (Option Spot)) (kept : List ℕ) (t : ℤ) → t ≡ placed.threshold
    → matched ≡ matched_of seen.shown defs
    → spots ≡ laid seen.shown.rows matched wants areas (news_of matched wants defs) placed.areas → kept ≡ kept_files matched t defs
    → named (table_laid seen target (rows_laid seen.shown.rows matched t defs spots))
    (namings_of facts matched (length seen.shown.rows) kept defs) seed ≡ goal_table seen target defs facts seed wants areas placed
unfolding goal_table spots_of
table_is seen target defs facts seed wants areas placed matched spots kept t same own are files =
    let made : ℤ → List (Option ℕ) → List (Option Spot) → List ℕ → Result Table IdentFault =
    λ u m s k. named (table_laid seen target (rows_laid seen.shown.rows m u defs s))
    (namings_of facts m (length seen.shown.rows) k defs) seed in
    ap (λ s. made t matched s kept) are ∙ ap (λ k. made t matched (laid seen.shown.rows matched wants areas (news_of matched wants defs) placed.areas) k) files
    ∙ ap (λ u. made u matched (laid seen.shown.rows matched wants areas (news_of matched wants defs) placed.areas) (kept_files matched u defs)) same
    ∙ ap (λ m. made placed.threshold m (laid seen.shown.rows m wants areas (news_of m wants defs) placed.areas) (kept_files m placed.threshold defs)) own

-- the plan with a table, from the notes and the dropped ones that the code has
pub plan_is : (seen : Seen) (target : ℕ) (defs : List Definition) (facts : List Fact) (seed : Guid) (t u : ℤ) (goal : Table)
    (matched : List (Option ℕ)) (kept : List ℕ) (free : ℕ) (first now : List Note) (dropped : List ℕ) → u ≡ t
    → matched ≡ matched_of seen.shown defs → kept ≡ kept_files matched t defs → free ≡ first_free seen.shown.rows
    → first ≡ map (old_note matched goal.rows) (enumerate_from 0 seen.shown.rows)
    → now ≡ first ++ map (new_note seed defs facts free kept) (enumerate_from free (kept_of matched u defs))
    → dropped ≡ dropped_files matched u defs
    → record { target = target; goal = goal; notes = now; dropped = dropped; threshold = u } ≡ plan_with seen target defs facts seed t goal
unfolding notes_of
plan_is seen target defs facts seed t u goal matched kept free first now dropped same own files slots olds news left =
    let made : ℤ → List Note → List ℕ → Plan = λ x n d. record { target = target; goal = goal; notes = n; dropped = d; threshold = x } in
    let shape : List (Option ℕ) → List ℕ → ℕ → ℤ → List Note =
    λ m k f x. map (old_note m goal.rows) (enumerate_from 0 seen.shown.rows) ++ map (new_note seed defs facts f k) (enumerate_from f (kept_of m x defs)) in
    let notes = news ∙ ap (λ ns. ns ++ map (new_note seed defs facts free kept) (enumerate_from free (kept_of matched u defs))) olds
    ∙ ap (λ x. shape matched kept free x) same ∙ ap (λ k. shape matched k free t) files
    ∙ ap (λ f. shape matched (kept_files matched t defs) f t) slots
    ∙ ap (λ m. shape m (kept_files m t defs) (first_free seen.shown.rows) t) own in
    ap (λ x. made x now dropped) same ∙ ap (λ n. made t n dropped) notes
    ∙ ap (λ d. made t (shape (matched_of seen.shown defs) (kept_files (matched_of seen.shown defs) t defs) (first_free seen.shown.rows) t) d)
    (left ∙ ap (λ x. dropped_files matched x defs) same ∙ ap (λ m. dropped_files m t defs) own)
