-- What a run with a reset leaves at its end, and a stop in any part of its calls.
use Rattle.std.proofs.Common.{◌≡◌, ◌∙◌, ℕ, List, [], ◌++◌, sym, subst, inl, inr}
use Rattle.rp_again.specs.Again.{HasNothingLeft}
use Rattle.rp_base.specs.declared.guid.Guid.{Guid}
use Rattle.rp_base.specs.declared.plan.Plan.{Plan}
use Rattle.rp_base.specs.declared.seen.Seen.{Seen}
use Rattle.rp_defs.specs.declared.definition.Definition.{Definition}
use Rattle.rp_disk.specs.Calls.{all_done}
use Rattle.rp_disk.specs.Stops.{IsFrontOf, Leaves}
use Rattle.rp_disk.specs.declared.call.Call.{Call}
use Rattle.rp_gpt.specs.declared.table_fault.Empty.{Empty}
use Rattle.rp_gpt.specs.declared.table_fault.Empty.TheVariants.{Refuse}
use Rattle.rp_headline.specs.Left.{HasGoal}
use Rattle.rp_headline.proofs.Public.{has_goal, is_final, rows_filled}
use Rattle.rp_idle.specs.Idle.{IsIdle, IsPlanned}
use Rattle.rp_idle.proofs.Public.{no_calls}
use Rattle.rp_reset_stops.specs.Through.{HoldWhatFills, IsSafeIfHonest, IsSafeIfWhole, IsSafeThrough}
use Rattle.rp_reset_stops.proofs.Public.{done_both, middle_rows, stops_honest, stops_whole}
use Rattle.rp_sizes.specs.declared.need.Fact.{Fact}
use Rattle.rp_steps.specs.Calls.{calls, contents_calls}
use Rattle.rp_steps.specs.Contents.{NotesFit, Sources}
use Rattle.rp_stops.specs.After.{seen_after}
use Rattle.rp_stops.specs.Final.{IsFinal}
use Rattle.rp_stops.specs.Order.{AreCallsOf}
use Rattle.rp_stops.specs.Rows.{Fills}
use Rattle.rp_reset_headline.specs.Anew.{HasGoalAnew, HoldAnew, IsDoneAnew, calls_of_both, contents_anew, image_between}
use Rattle.rp_reset_headline.specs.Planned.{IsPlannedAnew, IsReset}
use Rattle.rp_reset_headline.proofs.Given.{calls_behind, calls_of_reset, plan_fits, planned_anew, reset_for}

-- what is idle has nothing left
pub nothing_left : (sector : ℕ) (image : List ℕ) (defs : List Definition) (seed : Guid) → IsIdle sector image defs seed
    → HasNothingLeft sector image defs seed
nothing_left sector image defs seed idle = record {
  idle = idle;
  again = λ then next others second sources takes known planned.
      no_calls sector image defs seed then next others second sources idle takes known planned;
}

-- what is safe where new rows hold one thing is safe where they hold another that follows
holds_less : (sector : ℕ) (old : List ℕ) (seen : Seen) (reset plan : Plan) (Hold Less : List ℕ → Type 0) (image : List ℕ)
    → (Hold image → Less image) → IsSafeThrough sector old seen reset plan Hold image → IsSafeThrough sector old seen reset plan Less image
holds_less sector old seen reset plan Hold Less image less safe = record {
  len = safe.len;
  accepted = safe.accepted;
  shows = elim safe.shows [
    | inl as_old ↦ inl as_old
    | inr later ↦
        inr (elim later [
          | inl as_reset ↦ inl as_reset
          | inr as_goal ↦ inr (record { table = as_goal.table; rows = as_goal.rows; holds = less as_goal.holds })
        ])
  ];
}

module _ (sector : ℕ) (old : List ℕ) (empty : Empty) (seen : Seen) (target : ℕ) (defs : List Definition) (facts : List Fact) (seed : Guid)
    (reset plan : Plan) (is : IsReset sector old empty seen defs reset)
    (anew : IsPlannedAnew sector seen target defs facts seed reset plan) where
  planned : (before : List Call) → AreCallsOf seen reset [] before
      → IsPlanned sector (all_done old before) Refuse (seen_after seen reset) target defs facts seed plan
  planned before are = planned_anew sector old empty seen defs reset is target facts seed plan anew before are

  -- what holds the bytes of the image between both holds the old ones
  of_between : (before : List Call) → AreCallsOf seen reset [] before → (image : List ℕ)
      → HasGoal sector (all_done old before) (seen_after seen reset) defs seed plan image
      → HasGoalAnew sector old seen defs seed reset plan image
  of_between before are image goal = record {
    table = goal.table;
    places = goal.places;
    bytes = λ k d below. goal.bytes k d below
        ∙ middle_rows sector old empty seen defs reset (reset_for sector old empty seen defs reset is) before are k d below;
    again = goal.again;
  }

  -- all calls of both
  pub goal_anew : (before body behind : List Call) → AreCallsOf seen reset [] before → AreCallsOf (seen_after seen reset) plan body behind
      → HasGoalAnew sector old seen defs seed reset plan (all_done old (before ++ behind))
  goal_anew before body behind are are_behind =
      subst (HasGoalAnew sector old seen defs seed reset plan) (sym (done_both old before behind))
      (of_between before are (all_done (all_done old before) behind)
      (has_goal sector (all_done old before) Refuse (seen_after seen reset) target defs facts seed plan (planned before are) body behind
      are_behind))

  pub done_nothing_left : (before body behind : List Call) → AreCallsOf seen reset [] before
      → AreCallsOf (seen_after seen reset) plan body behind → plan.dropped ≡ []
      → HasNothingLeft sector (all_done old (before ++ behind)) defs seed
  done_nothing_left before body behind are are_behind none =
      nothing_left sector (all_done old (before ++ behind)) defs seed ((goal_anew before body behind are are_behind).again none)

  module _ (sources : Sources) (fit : NotesFit plan) where
    by_reset : AreCallsOf seen reset [] (calls reset seen sources)
    by_reset = calls_of_reset sector old empty seen defs reset is sources

    by_plan : AreCallsOf (seen_after seen reset) plan (contents_calls plan sources) (calls plan (seen_after seen reset) sources)
    by_plan = calls_behind sector old empty seen defs reset is target facts seed plan anew sources fit

    filled : Fills (image_between old seen reset sources) plan (contents_anew old seen reset plan sources) (contents_calls plan sources)
    filled = rows_filled sector (image_between old seen reset sources) Refuse (seen_after seen reset) target defs facts seed plan
        (planned (calls reset seen sources) by_reset) sources fit

    last : IsFinal (image_between old seen reset sources) (seen_after seen reset) plan (contents_anew old seen reset plan sources)
        (all_done old (calls_of_both seen reset plan sources))
    last = subst (IsFinal (image_between old seen reset sources) (seen_after seen reset) plan (contents_anew old seen reset plan sources))
        (sym (done_both old (calls reset seen sources) (calls plan (seen_after seen reset) sources)))
        (is_final sector (image_between old seen reset sources) Refuse (seen_after seen reset) target defs facts seed plan
        (planned (calls reset seen sources) by_reset) sources fit)

    -- all calls of their steps
    pub done_anew : IsDoneAnew sector old seen defs seed reset plan sources (all_done old (calls_of_both seen reset plan sources))
    done_anew = record {
      goal = goal_anew (calls reset seen sources) (contents_calls plan sources) (calls plan (seen_after seen reset) sources)
          by_reset by_plan;
      final = last;
      new_rows = last.rows;
    }

    -- what these calls give is what the sources' rows hold
    abbrev Given : List ℕ → Type 0
    Given = HoldWhatFills (image_between old seen reset sources) plan (contents_calls plan sources)

    exactly : (image : List ℕ) → IsSafeThrough sector old seen reset plan Given image
        → IsSafeThrough sector old seen reset plan (HoldAnew old seen reset plan sources) image
    exactly image safe =
        holds_less sector old seen reset plan Given (HoldAnew old seen reset plan sources) image
        (λ holds. holds (contents_anew old seen reset plan sources) filled) safe

    -- a stop in a part of the calls
    pub part_honest : (made : List Call) (image : List ℕ) → IsFrontOf made (calls_of_both seen reset plan sources) → Leaves old made image
        → IsSafeIfHonest sector old seen reset plan (HoldAnew old seen reset plan sources) made image
    part_honest made image front left = λ honest.
        exactly image (stops_honest sector old empty seen defs reset plan (reset_for sector old empty seen defs reset is)
        (calls reset seen sources) by_reset (plan_fits sector old empty seen defs reset is target facts seed plan anew)
        (contents_calls plan sources) (calls plan (seen_after seen reset) sources) by_plan image made front left honest)

    pub part_whole : (made : List Call) (image : List ℕ) → IsFrontOf made (calls_of_both seen reset plan sources) → Leaves old made image
        → IsSafeIfWhole sector old seen reset plan (HoldAnew old seen reset plan sources) made image
    part_whole made image front left = λ whole.
        exactly image (stops_whole sector old empty seen defs reset plan (reset_for sector old empty seen defs reset is)
        (calls reset seen sources) by_reset (plan_fits sector old empty seen defs reset is target facts seed plan anew)
        (contents_calls plan sources) (calls plan (seen_after seen reset) sources) by_plan image made front left whole)
