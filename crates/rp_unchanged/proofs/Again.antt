-- What is planned again for an image that shows a goal.
use Rattle.std.proofs.Common.{◌≡◌, ℕ, false, List, [], ◌∷◌, None, Ok, All, eq-eqb, refl, ap, sym, subst}
use Rattle.std.specs.Prelude.{find}
use Rattle.std.proofs.lemmas.List.Elements.{All-head, All-tail}
use Rattle.std.proofs.lemmas.Slice.Eq.{bytes_eq-Decides}
use Rattle.rp_base.specs.Plan.{IsTarget}
use Rattle.rp_base.specs.declared.guid.Guid.{Guid}
use Rattle.rp_base.specs.declared.plan.Change.{Change}
use Rattle.rp_base.specs.declared.plan.Change.TheVariants as changes
use Rattle.rp_base.specs.declared.plan.Note.{Note}
use Rattle.rp_base.specs.declared.plan.Plan.{Plan}
use Rattle.rp_base.specs.declared.seen.Mbr.{Mbr}
use Rattle.rp_base.specs.declared.seen.Mbr.TheVariants as mbrs
use Rattle.rp_base.specs.declared.seen.Seen.{Seen}
use Rattle.rp_base.specs.declared.table.Table.{Table}
use Rattle.rp_defs.specs.declared.definition.Definition.{Definition}
use Rattle.rp_difference.specs.Difference.{is_other_row, is_other_table, is_stale, table_difference}
use Rattle.rp_gpt.specs.declared.table_fault.Empty.{Empty}
use Rattle.rp_gpt.specs.declared.table_fault.Empty.TheVariants.{Refuse, Require}
use Rattle.rp_disk.specs.Calls.{all_done}
use Rattle.rp_headline.specs.Left.{ShowsGoal}
use Rattle.rp_headline.proofs.Public.{are_calls_of, is_final, shows_goal}
use Rattle.rp_idle.specs.Idle.{IsPlanned}
use Rattle.rp_idle.proofs.Public.{goal_stays, plannable}
use Rattle.rp_plan.specs.Goal.{goal}
use Rattle.rp_plan.proofs.Parts.{made_of}
use Rattle.rp_sizes.specs.declared.need.Fact.{Fact}
use Rattle.rp_steps.specs.Calls.{calls, contents_calls}
use Rattle.rp_steps.specs.Contents.{NotesFit, Sources, contents}
use Rattle.rp_stops.specs.After.{mbr_after, seen_after}
use Rattle.rp_stops.specs.Final.{IsFinal}
use Rattle.rp_stops.specs.Rows.{grown}
use Rattle.rp_stops.proofs.OneFinal.{one_final}
use Rattle.rp_unchanged.specs.Unchanged.{IsPlannedAgain, IsSeenAsPlanned}

-- a table isn't another than itself
own_table : (table : Table) → is_other_table table table ≡ false
own_table table = rw
    ((bytes_eq-Decides table.disk.0 table.disk.0).1 refl, eq-eqb table.first table.first refl, eq-eqb table.last table.last refl) refl

same_alone : (c : Change) → c ≡ changes.Same → is_other_row c ≡ false
same_alone c is = ap is_other_row is

-- where each row is the same, none is another
no_other : (notes : List Note) → All (λ (note : Note). note.change ≡ changes.Same) notes
    → find (λ (note : Note). is_other_row note.change) notes ≡ None
no_other [] all = refl
no_other (note ∷ notes) all =
    rw (same_alone note.change (All-head (λ (note : Note). note.change ≡ changes.Same) note notes all))
    (no_other notes (All-tail (λ (note : Note). note.change ≡ changes.Same) note notes all))

-- the MBR of a final image isn't stale
never_stale : (state : Mbr) → is_stale (mbr_after state) ≡ false
never_stale mbrs.Same = refl
never_stale mbrs.Differs = refl
never_stale mbrs.Foreign = refl

-- of what is seen after a plan nothing differs from a plan with its table and the same rows
pub nothing_differs : (seen : Seen) (plan next : Plan) → next.goal ≡ plan.goal
    → All (λ (note : Note). note.change ≡ changes.Same) next.notes
    → table_difference (seen_after seen plan) next ≡ None
unfolding table_difference
nothing_differs seen plan next table all =
    rw (never_stale seen.mbr, table, own_table plan.goal, no_other next.notes all) refl

-- a plan has the target that it was planned for
target_kept : (seen : Seen) (target : ℕ) (defs : List Definition) (facts : List Fact) (seed : Guid) (plan : Plan)
    → goal seen target defs facts seed ≡ Ok plan → plan.target ≡ target
target_kept seen target defs facts seed plan is = ap (λ (p : Plan). p.target) (made_of seen target defs facts seed plan is).2.same

module _ (sector : ℕ) (old : List ℕ) (empty : Empty) (seen : Seen) (target : ℕ) (defs : List Definition) (facts : List Fact) (seed : Guid)
    (plan : Plan) (is : IsPlanned sector old empty seen target defs facts seed plan) where
  planned_again : plan.dropped ≡ [] → (others : List Fact) → IsPlannedAgain (seen_after seen plan) defs others seed
  planned_again whole others =
      let ready = plannable sector old empty seen is.of_sector is.seen_of in
      let aim : IsTarget seen.shown.sector seen.sectors target = rw ready.1 is.aim in
      let next = goal_stays seen target defs facts seed plan ready.0 aim is.definitions is.goal_is whole
      (seen_after seen plan) others seed refl in
      let own = target_kept seen target defs facts seed plan is.goal_is in
      record {
        plan = next.0;
        goal_is = subst (λ n. goal (seen_after seen plan) n defs others seed ≡ Ok next.0) (sym own) next.1;
        table = next.2;
        dropped = next.4;
        same = nothing_differs seen plan next.0 next.2 next.5;
      }

  pub seen_as_planned : (image : List ℕ) → plan.dropped ≡ [] → ShowsGoal sector seen plan image
      → IsSeenAsPlanned sector image seen plan defs seed
  seen_as_planned image whole shows = record {
    shows = shows.taken Refuse (λ e. let f : Refuse ≡ Require = e in cc);
    again = planned_again whole;
  }

  -- the final image shows the goal
  pub final_shows : (sources : Sources) (image : List ℕ) → NotesFit plan
      → IsFinal old seen plan (contents plan sources (grown old plan)) image
      → ShowsGoal sector seen plan image
  final_shows sources image fit final =
      let made = is_final sector old empty seen target defs facts seed plan is sources fit in
      let same = one_final old seen plan (contents plan sources (grown old plan))
      (all_done old (calls plan seen sources)) image made final in
      subst (ShowsGoal sector seen plan) same
      (shows_goal sector old empty seen target defs facts seed plan is (contents_calls plan sources) (calls plan seen sources)
      (are_calls_of sector old empty seen target defs facts seed plan is sources fit))

  pub final_as_planned : (sources : Sources) (image : List ℕ) → plan.dropped ≡ [] → NotesFit plan
      → IsFinal old seen plan (contents plan sources (grown old plan)) image → IsSeenAsPlanned sector image seen plan defs seed
  final_as_planned sources image whole fit final = seen_as_planned image whole (final_shows sources image fit final)
