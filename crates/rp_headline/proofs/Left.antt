-- What a run that carries out a goal leaves, at its end and at any moment.
use Rattle.std.proofs.Common.{◌≡◌, ◌∙◌, ℕ, List, [], ◌∷◌, ◌++◌, Some, Ok, refl, sym, subst, ap, drop, inl, inr, ◌⊎◌, append-nil}
use Rattle.rp_base.specs.declared.guid.Guid.{Guid}
use Rattle.rp_base.specs.declared.plan.Plan.{Plan}
use Rattle.rp_base.specs.declared.seen.Seen.{Seen}
use Rattle.rp_defs.specs.declared.definition.Definition.{Definition}
use Rattle.rp_disk.specs.Calls.{all_done}
use Rattle.rp_disk.specs.History as history
use Rattle.rp_disk.specs.History.{LeftSince, MayLeave, moment}
use Rattle.rp_disk.specs.Made.{Made, Past, history_of}
use Rattle.rp_disk.specs.Runs.{AtAnyMomentBehindSync, EndsSettled}
use Rattle.rp_disk.specs.Stops.{Agrees, IsFrontOf, Leaves}
use Rattle.rp_disk.specs.declared.call.Call.{Call}
use Rattle.rp_disk.specs.declared.call.Call.TheVariants.{Sync}
use Rattle.rp_disk.proofs.Agreeing.{agrees-none}
use Rattle.rp_gpt.specs.Shown.{accepted}
use Rattle.rp_gpt.specs.declared.table_fault.Empty.{Empty}
use Rattle.rp_idle.specs.Idle.{IsPlanned}
use Rattle.rp_idle.proofs.Public.{idle_after, no_calls, plan_for}
use Rattle.rp_plan.specs.Goal.{goal}
use Rattle.rp_sizes.specs.declared.need.Fact.{Fact}
use Rattle.rp_sizes.specs.Needs.{AreFactsOn, wanted_of}
use Rattle.rp_steps.specs.Calls.{calls, contents_calls}
use Rattle.rp_steps.specs.Contents.{NotesFit, Sources, contents}
use Rattle.rp_steps.proofs.Composed.{are_calls, fills}
use Rattle.rp_stops.specs.Final.{IsFinal}
use Rattle.rp_stops.specs.Order.{AreCallsOf}
use Rattle.rp_stops.specs.Plans.{IsPlanFor}
use Rattle.rp_stops.specs.Rows.{Fills, HoldContents, grown}
use Rattle.rp_stops.specs.Safe.{KeepsRows}
use Rattle.rp_stops.proofs.Accepting.{accepted-sized}
use Rattle.rp_stops.proofs.Carried.{alone, plan-given}
use Rattle.rp_stops.proofs.Final.{final}
use Rattle.rp_stops.proofs.Fronts.{own_ranges}
use Rattle.rp_stops.proofs.Moments.{behind_sync}
use Rattle.rp_stops.proofs.Whole.{whole_sectors-honest}
use Rattle.rp_headline.specs.Left.{HasGoal, IsDoneWith, IsLeft, IsSafeIfHonest, IsSafeIfWhole, IsUntouched, StopsIfHonest}
use Rattle.rp_headline.proofs.Kept.{places_kept}
use Rattle.rp_headline.proofs.Shown.{shows_goal}

module _ (sector : ℕ) (old : List ℕ) (empty : Empty) (seen : Seen) (target : ℕ) (defs : List Definition) (facts : List Fact) (seed : Guid)
    (plan : Plan) (is : IsPlanned sector old empty seen target defs facts seed plan) where
  fits : IsPlanFor sector old empty seen plan
  fits = plan_for sector old empty seen target defs facts seed plan is

  pub are_calls_of : (sources : Sources) → NotesFit plan → AreCallsOf seen plan (contents_calls plan sources) (calls plan seen sources)
  are_calls_of sources fit = are_calls seen plan sources fits.fits.well_formed fit

  pub rows_filled : (sources : Sources) → NotesFit plan
      → Fills old plan (contents plan sources (grown old plan)) (contents_calls plan sources)
  rows_filled sources fit = fills seen plan sources old fits.fits.well_formed fit
      (accepted-sized sector old empty seen is.of_sector is.seen_of).1.len

  pub rows_kept : (body calls : List Call) → AreCallsOf seen plan body calls → KeepsRows old seen (all_done old calls)
  rows_kept body calls are =
      (own_ranges old seen plan (plan-given sector old empty seen plan fits) body calls are calls ([], append-nil calls)).rows

  pub is_final : (sources : Sources) → NotesFit plan
      → IsFinal old seen plan (contents plan sources (grown old plan)) (all_done old (calls plan seen sources))
  is_final sources fit =
      final old seen plan (plan-given sector old empty seen plan fits) (contents_calls plan sources) (calls plan seen sources)
      (are_calls_of sources fit) (contents plan sources (grown old plan)) (rows_filled sources fit)

  pub rows_hold : (sources : Sources) → NotesFit plan
      → HoldContents plan (contents plan sources (grown old plan)) (all_done old (calls plan seen sources))
  rows_hold sources fit = (is_final sources fit).rows

  pub idle_then : (body made : List Call) (then : Empty) (next : Seen) (others : List Fact) (second : Plan) (sources : Sources)
      → plan.dropped ≡ [] → AreCallsOf seen plan body made → accepted sector (all_done old made) then ≡ Ok next
      → AreFactsOn (wanted_of next.shown defs) others → goal next next.sectors defs others seed ≡ Ok second → calls second next sources ≡ []
  idle_then body made then next others second sources whole are takes known is_second =
      no_calls sector (all_done old made) defs seed then next others second sources
      (idle_after sector old empty seen target defs facts seed plan is body made whole are) takes known is_second

  pub has_goal : (body calls : List Call) → AreCallsOf seen plan body calls → HasGoal sector old seen defs seed plan (all_done old calls)
  has_goal body calls are = record {
    table = shows_goal sector old empty seen target defs facts seed plan is body calls are;
    places = places_kept sector old empty seen target defs facts seed plan is;
    bytes = rows_kept body calls are;
    again = λ whole. idle_after sector old empty seen target defs facts seed plan is body calls whole are;
  }

  pub done_with : (sources : Sources) → NotesFit plan
      → IsDoneWith sector old seen defs seed plan (contents plan sources (grown old plan)) (all_done old (calls plan seen sources))
  done_with sources fit = record {
    goal = has_goal (contents_calls plan sources) (calls plan seen sources) (are_calls_of sources fit);
    final = is_final sources fit;
    new_rows = rows_hold sources fit;
  }

-- what a stop leaves of planned calls, of which each image has Safe
pub left_with : (bytes : Past) (was : List Made) (planned : List Call) (Safe : List Call → List ℕ → Type 0) (made : List Call)
    (image : List ℕ)
    → MayLeave (history_of bytes was) image ⊎ ((more : List Call) × (made ≡ Sync ∷ more) × IsFrontOf more planned
    × Leaves (history.held (history_of bytes was)) more image)
    → MayLeave (history_of bytes was) image ⊎ ((more : List Call) × (made ≡ Sync ∷ more) × Safe more image)
    → IsLeft (history_of bytes was) Safe made image
left_with bytes was planned Safe made image left safe = elim left [
  | inl before ↦ inl before
  | inr behind ↦ elim safe [
    | inl before ↦ inl before
    | inr so ↦
        inr (behind.0, behind.1, behind.3, subst (λ calls. Safe calls image) (ap (drop 1) (sym so.1 ∙ behind.1)) so.2)
  ]
]

module _ (sector : ℕ) (bytes : Past) (empty : Empty) (seen : Seen) (target : ℕ) (defs : List Definition) (facts : List Fact) (seed : Guid)
    (plan : Plan) (was now : List Made)
    (is : IsPlanned sector (history.held (history_of bytes was)) empty seen target defs facts seed plan) where
  abbrev old : List ℕ
  old = history.held (history_of bytes was)

  pub is_left_any : (body planned : List Call) → AtAnyMomentBehindSync was planned now → AreCallsOf seen plan body planned
      → (made : List Call) (image : List ℕ) → LeftSince (history_of bytes now) (moment (history_of bytes was)) made image
      → IsLeft (history_of bytes was) (StopsIfHonest sector old seen plan body) made image
  is_left_any body planned any are made image since =
      left_with bytes was planned (StopsIfHonest sector old seen plan body) made image (any bytes made image since)
      (behind_sync sector bytes empty seen plan body planned was now any
      (plan_for sector old empty seen target defs facts seed plan is) are made image since)

  pub is_left : (sources : Sources) → AtAnyMomentBehindSync was (calls plan seen sources) now → NotesFit plan
      → (made : List Call) (image : List ℕ) → LeftSince (history_of bytes now) (moment (history_of bytes was)) made image
      → IsLeft (history_of bytes was) (IsSafeIfHonest sector old seen plan (contents plan sources (grown old plan))) made image
  is_left sources any fit made image since =
      elim (is_left_any (contents_calls plan sources) (calls plan seen sources) any
      (are_calls_of sector old empty seen target defs facts seed plan is sources fit) made image since) [
        | inl before ↦ inl before
        | inr behind ↦
            inr (
              behind.0,
              behind.1,
              behind.2,
              λ honest. (behind.3 honest).holds (contents plan sources (grown old plan))
                  (rows_filled sector old empty seen target defs facts seed plan is sources fit),
            )
      ]

  pub is_left_whole : (sources : Sources) → AtAnyMomentBehindSync was (calls plan seen sources) now → NotesFit plan
      → (made : List Call) (image : List ℕ) → LeftSince (history_of bytes now) (moment (history_of bytes was)) made image
      → IsLeft (history_of bytes was) (IsSafeIfWhole sector old seen plan (contents plan sources (grown old plan))) made image
  is_left_whole sources any fit made image since = elim (any bytes made image since) [
    | inl before ↦ inl before
    | inr behind ↦
        inr (
          behind.0,
          behind.1,
          behind.3,
          λ whole. (alone sector old empty seen plan (contents_calls plan sources) (calls plan seen sources) behind.0 image
              (plan_for sector old empty seen target defs facts seed plan is)
              (are_calls_of sector old empty seen target defs facts seed plan is sources fit) behind.2 behind.3
              (whole_sectors-honest sector old behind.0 image behind.3 whole)).holds (contents plan sources (grown old plan))
              (rows_filled sector old empty seen target defs facts seed plan is sources fit),
        )
  ]

  abbrev IsOnlyLeft : (List ℕ → Type 0) → Type 0
  IsOnlyLeft P = (image : List ℕ) → MayLeave (history_of bytes now) image → P image

  only_left : (P : List ℕ → Type 0) (planned : List Call) → EndsSettled was (Sync ∷ planned) now
      → P (all_done old planned) → IsOnlyLeft P
  only_left P planned ends holds image left =
      let none = subst (λ calls. Agrees (history.settled_bytes (history_of bytes now)) calls image) (ends bytes).0.calls left in
      let same = agrees-none (history.settled_bytes (history_of bytes now)) image none in
      subst P (sym (same ∙ (ends bytes).0.bytes ∙ (ends bytes).1)) holds

  pub ends_with : (sources : Sources) → EndsSettled was (Sync ∷ calls plan seen sources) now → NotesFit plan
      → IsOnlyLeft (IsDoneWith sector old seen defs seed plan (contents plan sources (grown old plan)))
  ends_with sources ends fit =
      only_left (IsDoneWith sector old seen defs seed plan (contents plan sources (grown old plan))) (calls plan seen sources) ends
      (done_with sector old empty seen target defs facts seed plan is sources fit)

  pub ends_any : (body planned : List Call) → EndsSettled was (Sync ∷ planned) now → AreCallsOf seen plan body planned
      → IsOnlyLeft (HasGoal sector old seen defs seed plan)
  ends_any body planned ends are =
      only_left (HasGoal sector old seen defs seed plan) planned ends
      (has_goal sector old empty seen target defs facts seed plan is body planned are)

-- a sync alone changes nothing
none_of : (more rest : List Call) → more ++ rest ≡ [] → more ≡ []
none_of [] rest e = refl
none_of (call ∷ more) rest e = absurd (cc)

pub is_untouched : (bytes : Past) (was now : List Made) → AtAnyMomentBehindSync was [] now
    → (made : List Call) (image : List ℕ) → LeftSince (history_of bytes now) (moment (history_of bytes was)) made image
    → IsLeft (history_of bytes was) (IsUntouched (history.held (history_of bytes was))) made image
is_untouched bytes was now any made image since = elim (any bytes made image since) [
  | inl before ↦ inl before
  | inr behind ↦
      let none = none_of behind.0 behind.2.0 behind.2.1 in
      inr (
        behind.0,
        behind.1,
        behind.3,
        (
          none,
          agrees-none (history.held (history_of bytes was)) image
              (subst (λ calls. Leaves (history.held (history_of bytes was)) calls image) none behind.3),
        ),
      )
]
