-- What a plan that drops nothing leaves is idle.
use Rattle.std.proofs.Common.{◌≡◌, ◌≢◌, ℕ, ◌^◌, List, [], Ok, All, arith, inl, refl, ap, sym, subst}
use Rattle.std.specs.Prelude.{◌-◌, IsSome, map, pos}
use Rattle.rp_base.specs.Plan.{Fits, IsTarget}
use Rattle.rp_base.specs.declared.guid.Guid.{Guid}
use Rattle.rp_base.specs.declared.plan.Change.TheVariants.{Same}
use Rattle.rp_base.specs.declared.plan.Note.{Note}
use Rattle.rp_base.specs.declared.plan.Plan.{Plan}
use Rattle.rp_base.specs.declared.seen.Mbr.{Mbr}
use Rattle.rp_base.specs.declared.seen.Mbr.TheVariants as mbrs
use Rattle.rp_base.specs.declared.seen.Origin.TheVariants as origins
use Rattle.rp_base.specs.declared.seen.Seen.{Seen}
use Rattle.rp_disk.specs.Calls.{all_done}
use Rattle.rp_disk.specs.declared.call.Call.{Call}
use Rattle.rp_gpt.specs.Shown.{accepted}
use Rattle.rp_gpt.specs.declared.table_fault.Empty.{Empty}
use Rattle.rp_gpt.specs.declared.table_fault.Empty.TheVariants.{Refuse, Require}
use Rattle.rp_stops.specs.After.{mbr_after, seen_after}
use Rattle.rp_stops.specs.Final.{IsFinal}
use Rattle.rp_stops.specs.Order.{AreCallsOf}
use Rattle.rp_stops.specs.Plans.{IsPlanFor}
use Rattle.rp_stops.specs.Rows.{Contents, Fills, grown}
use Rattle.rp_stops.proofs.Accepting.{accepted-sized}
use Rattle.rp_stops.proofs.After.{accepted_after}
use Rattle.rp_stops.proofs.Carried.{plan-given, plan-sector}
use Rattle.rp_stops.proofs.Final.{final}
use Rattle.rp_stops.proofs.OneFinal.{one_final}
use Rattle.rp_steps.specs.Steps.{steps}
use Rattle.rp_steps.specs.Calls.{calls, contents_calls}
use Rattle.rp_steps.specs.Contents.{NotesFit, Sources, contents}
use Rattle.rp_steps.proofs.Composed.{are_calls, fills}
use Rattle.rp_steps.proofs.Idle.{no_steps}
use Rattle.rp_areas.specs.declared.gaps.Area.{Area}
use Rattle.rp_place.specs.declared.threshold.Placed.{Placed}
use Rattle.rp_defs.specs.WellFormed.{IsWellFormed as AreWellFormed}
use Rattle.rp_defs.specs.declared.definition.Definition.{Definition}
use Rattle.rp_sizes.specs.declared.need.Fact.{Fact}
use Rattle.rp_sizes.specs.declared.need.Need.{Need}
use Rattle.rp_sizes.specs.Needs.{AreFactsOn, matched_of, wanted_of}
use Rattle.rp_plan.specs.Goal.{goal, plan_with}
use Rattle.rp_plan.specs.Plannable.{IsGiven, IsPlannable}
use Rattle.rp_plan.proofs.Fitting.{goal_fits}
use Rattle.rp_plan.proofs.Formed.{goal_in_place, goal_writable, is_named}
use Rattle.rp_plan.proofs.Parts.{IsMadeOf, made_of}
use Rattle.rp_idle.specs.Idle.{IsIdle, IsPlanned}
use Rattle.rp_idle.proofs.Accepted.{plannable}
use Rattle.rp_idle.proofs.Again.{goal_again, none_dropped_again}
use Rattle.rp_idle.proofs.Matched.{all_matched, old_again}
use Rattle.rp_idle.proofs.Noted.{notes_same}
use Rattle.rp_idle.proofs.Wanted.{no_needs}

right_mbr : (state : Mbr) → mbr_after state ≢ mbrs.Differs
right_mbr mbrs.Same is = let e : mbrs.Same ≡ mbrs.Differs = is in cc
right_mbr mbrs.Differs is = let e : mbrs.Same ≡ mbrs.Differs = is in cc
right_mbr mbrs.Foreign is = let e : mbrs.Foreign ≡ mbrs.Differs = is in cc

no_facts : (needs : List Need) → needs ≡ [] → AreFactsOn needs []
no_facts needs none = record {
  files = sym (ap (map (λ (n : Need). n.file)) none);
  roots = sym (ap (map (λ (n : Need). n.pair)) none);
}

module _ (seen : Seen) (target : ℕ) (defs : List Definition) (facts : List Fact) (seed : Guid) (plan : Plan)
    (is_plannable : IsPlannable seen)
    (aim : IsTarget seen.shown.sector seen.sectors target) (wf : AreWellFormed defs) (is : goal seen target defs facts seed ≡ Ok plan)
    (whole : plan.dropped ≡ []) where
  made : (areas : List Area) × (placed : Placed) × IsMadeOf seen target defs facts seed areas placed plan
  made = made_of seen target defs facts seed plan is

  given : IsGiven seen target defs (matched_of seen.shown defs)
  given = record { plannable = is_plannable; aim = aim; well_formed = wf; own = refl }

  target_same : plan.target ≡ target
  target_same = ap (λ (p : Plan). p.target) made.2.same

  -- each definition has a row in the goal
  pub each_matched : All IsSome (matched_of plan.goal defs)
  each_matched = all_matched seen target defs facts seed made.0 made.1 plan given made.2 whole

  nothing_wanted : AreFactsOn (wanted_of plan.goal defs) []
  nothing_wanted = no_facts (wanted_of plan.goal defs)
      (no_needs (matched_of plan.goal defs) defs (old_again seen target defs facts seed made.0 made.1 plan given made.2 whole))

  abbrev after : Seen
  after = seen_after seen plan

  abbrev next : Plan
  next = plan_with (seen_after seen plan) plan.target defs [] seed (pos (2 ^ 31 - 1)) plan.goal

  -- the goal for the final image at its own length
  pub next_is : goal after plan.target defs [] seed ≡ Ok next
  next_is = subst (λ t. goal after t defs [] seed ≡ Ok (plan_with after t defs [] seed (pos (2 ^ 31 - 1)) plan.goal)) (sym target_same)
      (goal_again seen target defs facts seed made.0 made.1 plan given made.2 whole [] after seed)

  -- the goal for the goal's table is a plan for it that drops nothing
  abbrev pub IsAgain : List Fact → Guid → Seen → Type 0
  IsAgain others other again = (next : Plan) × (goal again target defs others other ≡ Ok next) × (next.goal ≡ plan.goal) ×
      (next.target ≡ target)
      × (next.dropped ≡ []) × All (λ (note : Note). note.change ≡ Same) next.notes

  pub goal_stays : (again : Seen) (others : List Fact) (other : Guid) → again.shown ≡ plan.goal → IsAgain others other again
  goal_stays again others other shown =
      let shown_again : Seen = record again { shown = plan.goal } in
      subst (λ t. IsAgain others other (record again { shown = t })) (sym shown) (
        plan_with shown_again target defs others other (pos (2 ^ 31 - 1)) plan.goal,
        goal_again seen target defs facts seed made.0 made.1 plan given made.2 whole others again other,
        refl,
        refl,
        none_dropped_again seen target defs facts seed made.0 made.1 plan given made.2 whole others again other,
        notes_same shown_again defs others other (pos (2 ^ 31 - 1)) (old_again seen target defs facts seed made.0 made.1 plan given made.2
            whole),
      )

  whole_target : IsTarget plan.goal.sector target target
  whole_target = rw (is_named seen target defs facts seed made.0 made.1 plan given made.2).sector (record {
    whole = aim.whole;
    least = omega arith;
    most = aim.most;
  })

  plannable_again : IsPlannable after
  plannable_again = subst (λ t. IsPlannable (record after { sectors = t })) (sym target_same) (record {
    whole = whole_target.whole;
    most = whole_target.most;
    writable = goal_writable seen target defs facts seed made.0 made.1 plan given made.2;
    in_place = goal_in_place seen target defs facts seed made.0 made.1 plan given made.2;
  })

  fits_again : Fits after next
  fits_again = goal_fits after plan.target defs [] seed next plannable_again
      (subst (λ t. IsTarget plan.goal.sector t t) (sym target_same) whole_target) wf nothing_wanted (inl refl) next_is

  -- which has no steps
  pub no_steps_again : steps next after ≡ []
  no_steps_again = no_steps after next (record {
    goal = refl;
    target = refl;
    origin = λ e. let f : origins.Primary ≡ origins.Neither = e in cc;
    primary = refl;
    backup = refl;
    mbr = right_mbr seen.mbr;
  }) fits_again

module _ (sector : ℕ) (old : List ℕ) (empty : Empty) (seen : Seen) (target : ℕ) (defs : List Definition) (facts : List Fact) (seed : Guid)
    (plan : Plan)
    (is : IsPlanned sector old empty seen target defs facts seed plan) where
  ready : IsPlannable seen
  ready = (plannable sector old empty seen is.of_sector is.seen_of).0

  aims : IsTarget seen.shown.sector seen.sectors target
  aims = rw (plannable sector old empty seen is.of_sector is.seen_of).1 is.aim

  pub plan_for : IsPlanFor sector old empty seen plan
  plan_for = record {
    of_sector = is.of_sector;
    seen_of = is.seen_of;
    fits = goal_fits seen target defs facts seed plan ready aims is.definitions is.known is.grows is.goal_is;
    table_fits = is.fits;
  }

  -- the image that the calls leave
  pub idle_after : (body calls : List Call) → plan.dropped ≡ [] → AreCallsOf seen plan body calls
      → IsIdle sector (all_done old calls) defs seed
  idle_after body calls whole are = record {
    seen = seen_after seen plan;
    plan = plan_with (seen_after seen plan) plan.target defs [] seed (pos (2 ^ 31 - 1)) plan.goal;
    shows = subst (λ z. accepted z (all_done old calls) Refuse ≡ Ok (seen_after seen plan))
        (plan-sector sector old empty seen plan plan_for)
        (accepted_after old seen plan (plan-given sector old empty seen plan plan_for) body calls are Refuse
        (λ e. let f : Refuse ≡ Require = e in cc));
    matched = each_matched seen target defs facts seed plan ready aims is.definitions is.goal_is whole;
    goal_is = next_is seen target defs facts seed plan ready aims is.definitions is.goal_is whole;
    steps_are = no_steps_again seen target defs facts seed plan ready aims is.definitions is.goal_is whole;
  }

  -- the image on which they are done whole that gives the new rows these contents
  idle_with : (body calls : List Call) (contents : Contents) (image : List ℕ) → plan.dropped ≡ [] → AreCallsOf seen plan body calls
      → Fills old plan contents body → IsFinal old seen plan contents image → IsIdle sector image defs seed
  idle_with body calls contents image whole are fills_it final_is =
      let done = final old seen plan (plan-given sector old empty seen plan plan_for) body calls are contents fills_it in
      subst (λ i. IsIdle sector i defs seed) (one_final old seen plan contents (all_done old calls) image done final_is)
      (idle_after body calls whole are)

  -- the final image
  pub idle_final : (sources : Sources) (image : List ℕ) → plan.dropped ≡ [] → NotesFit plan
      → IsFinal old seen plan (contents plan sources (grown old plan)) image → IsIdle sector image defs seed
  idle_final sources image whole fit final_is =
      let formed = plan_for.fits.well_formed in
      let long = (accepted-sized sector old empty seen is.of_sector is.seen_of).1.len in
      idle_with (contents_calls plan sources) (calls plan seen sources) (contents plan sources (grown old plan)) image whole
      (are_calls seen plan sources formed fit) (fills seen plan sources old formed fit long) final_is
