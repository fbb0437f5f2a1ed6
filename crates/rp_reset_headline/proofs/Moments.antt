-- What a stop at any moment of a run with a reset leaves, and one at its end.
use Rattle.std.proofs.Common.{◌≡◌, ◌∙◌, ℕ, List, [], ◌∷◌, ◌++◌, sym, subst, inl, inr}
use Rattle.rp_again.specs.Again.{HasNothingLeft}
use Rattle.rp_base.specs.declared.guid.Guid.{Guid}
use Rattle.rp_base.specs.declared.plan.Plan.{Plan}
use Rattle.rp_base.specs.declared.seen.Seen.{Seen}
use Rattle.rp_defs.specs.declared.definition.Definition.{Definition}
use Rattle.rp_disk.specs.Calls.{all_done}
use Rattle.rp_disk.specs.History as history
use Rattle.rp_disk.specs.History.{LeftSince, MayLeave, moment}
use Rattle.rp_disk.specs.Made.{Made, Past, history_of}
use Rattle.rp_disk.specs.Runs.{AtAnyMomentBehindSync, EndsSettled}
use Rattle.rp_disk.specs.Stops.{Agrees}
use Rattle.rp_disk.specs.declared.call.Call.{Call}
use Rattle.rp_disk.specs.declared.call.Call.TheVariants.{Sync}
use Rattle.rp_disk.proofs.Agreeing.{agrees-none}
use Rattle.rp_gpt.specs.declared.table_fault.Empty.{Empty}
use Rattle.rp_headline.specs.Left.{IsLeft}
use Rattle.rp_headline.proofs.Public.{left_with}
use Rattle.rp_reset_stops.specs.Through.{HoldWhatFills, IsSafeIfHonest, IsSafeIfWhole}
use Rattle.rp_reset_stops.proofs.Public.{moment_honest, moment_whole}
use Rattle.rp_sizes.specs.declared.need.Fact.{Fact}
use Rattle.rp_steps.specs.Contents.{NotesFit, Sources}
use Rattle.rp_stops.specs.After.{seen_after}
use Rattle.rp_stops.specs.Order.{AreCallsOf}
use Rattle.rp_reset_headline.specs.Anew.{HasGoalAnew, HoldAnew, IsDoneAnew, calls_of_both}
use Rattle.rp_reset_headline.specs.Planned.{IsPlannedAnew, IsReset}
use Rattle.rp_reset_headline.proofs.Given.{plan_fits, reset_for}
use Rattle.rp_reset_headline.proofs.Left.{done_anew, goal_anew, nothing_left, part_honest, part_whole}

module _ (sector : ℕ) (bytes : Past) (empty : Empty) (seen : Seen) (target : ℕ) (defs : List Definition) (facts : List Fact) (seed : Guid)
    (reset plan : Plan) (was now : List Made) (is : IsReset sector (history.held (history_of bytes was)) empty seen defs reset)
    (anew : IsPlannedAnew sector seen target defs facts seed reset plan) where
  abbrev old : List ℕ
  old = history.held (history_of bytes was)

  -- at each moment, what a stop leaves has Safe by the calls behind the sync
  abbrev pub IsLeftSo : (List Call → List ℕ → Type 0) → Type 0
  IsLeftSo Safe =
      (made : List Call) (image : List ℕ) → LeftSince (history_of bytes now) (moment (history_of bytes was)) made image
      → IsLeft (history_of bytes was) Safe made image

  pub left_any : (before body behind : List Call) → AtAnyMomentBehindSync was (before ++ behind) now
      → AreCallsOf seen reset [] before → AreCallsOf (seen_after seen reset) plan body behind
      → IsLeftSo (IsSafeIfHonest sector old seen reset plan (HoldWhatFills (all_done old before) plan body))
  left_any before body behind any are are_behind made image since =
      left_with bytes was (before ++ behind)
      (IsSafeIfHonest sector old seen reset plan (HoldWhatFills (all_done old before) plan body)) made image (any bytes made image since)
      (moment_honest sector bytes empty seen defs reset plan before body behind was now any
      (reset_for sector old empty seen defs reset is) are
      (plan_fits sector old empty seen defs reset is target facts seed plan anew) are_behind made image since)

  pub left_any_whole : (before body behind : List Call) → AtAnyMomentBehindSync was (before ++ behind) now
      → AreCallsOf seen reset [] before → AreCallsOf (seen_after seen reset) plan body behind
      → IsLeftSo (IsSafeIfWhole sector old seen reset plan (HoldWhatFills (all_done old before) plan body))
  left_any_whole before body behind any are are_behind made image since =
      left_with bytes was (before ++ behind)
      (IsSafeIfWhole sector old seen reset plan (HoldWhatFills (all_done old before) plan body)) made image (any bytes made image since)
      (moment_whole sector bytes empty seen defs reset plan before body behind was now any
      (reset_for sector old empty seen defs reset is) are
      (plan_fits sector old empty seen defs reset is target facts seed plan anew) are_behind made image since)

  pub left_honest : (sources : Sources) → AtAnyMomentBehindSync was (calls_of_both seen reset plan sources) now → NotesFit plan
      → IsLeftSo (IsSafeIfHonest sector old seen reset plan (HoldAnew old seen reset plan sources))
  left_honest sources any fit made image since = elim (any bytes made image since) [
    | inl at_start ↦ inl at_start
    | inr later ↦
        inr (
          later.0,
          later.1,
          later.3,
          part_honest sector old empty seen target defs facts seed reset plan is anew sources fit later.0 image later.2 later.3,
        )
  ]

  pub left_whole : (sources : Sources) → AtAnyMomentBehindSync was (calls_of_both seen reset plan sources) now → NotesFit plan
      → IsLeftSo (IsSafeIfWhole sector old seen reset plan (HoldAnew old seen reset plan sources))
  left_whole sources any fit made image since = elim (any bytes made image since) [
    | inl at_start ↦ inl at_start
    | inr later ↦
        inr (
          later.0,
          later.1,
          later.3,
          part_whole sector old empty seen target defs facts seed reset plan is anew sources fit later.0 image later.2 later.3,
        )
  ]

  -- each image that a stop now may leave
  abbrev pub IsOnlyLeft : (List ℕ → Type 0) → Type 0
  IsOnlyLeft P = (image : List ℕ) → MayLeave (history_of bytes now) image → P image

  only_left : (P : List ℕ → Type 0) (made : List Call) → EndsSettled was (Sync ∷ made) now → P (all_done old made)
      → IsOnlyLeft P
  only_left P made ends holds image left =
      let none = subst (λ list. Agrees (history.settled_bytes (history_of bytes now)) list image) (ends bytes).0.calls left in
      let same = agrees-none (history.settled_bytes (history_of bytes now)) image none in
      subst P (sym (same ∙ (ends bytes).0.bytes ∙ (ends bytes).1)) holds

  pub ends_any : (before body behind : List Call) → EndsSettled was (Sync ∷ before ++ behind) now
      → AreCallsOf seen reset [] before → AreCallsOf (seen_after seen reset) plan body behind
      → IsOnlyLeft (HasGoalAnew sector old seen defs seed reset plan)
  ends_any before body behind ends are are_behind =
      only_left (HasGoalAnew sector old seen defs seed reset plan) (before ++ behind) ends
      (goal_anew sector old empty seen target defs facts seed reset plan is anew before body behind are are_behind)

  pub ends_exact : (sources : Sources) → EndsSettled was (Sync ∷ calls_of_both seen reset plan sources) now → NotesFit plan
      → IsOnlyLeft (IsDoneAnew sector old seen defs seed reset plan sources)
  ends_exact sources ends fit =
      only_left (IsDoneAnew sector old seen defs seed reset plan sources) (calls_of_both seen reset plan sources) ends
      (done_anew sector old empty seen target defs facts seed reset plan is anew sources fit)

  pub ends_nothing_left : (before body behind : List Call) → EndsSettled was (Sync ∷ before ++ behind) now
      → AreCallsOf seen reset [] before → AreCallsOf (seen_after seen reset) plan body behind → plan.dropped ≡ []
      → IsOnlyLeft (λ image. HasNothingLeft sector image defs seed)
  ends_nothing_left before body behind ends are are_behind none image left =
      nothing_left sector image defs seed ((ends_any before body behind ends are are_behind image left).again none)
