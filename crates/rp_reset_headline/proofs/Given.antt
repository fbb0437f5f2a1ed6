-- A reset is a plan for its image, and what it leaves is planned for.
use Rattle.std.proofs.Common.{◌≡◌, ◌∙◌, ℕ, List, [], ◌∷◌, Some, Ok, refl, ap, sym, subst, inr}
use Rattle.std.proofs.lemmas.List.Elements.{All-map}
use Rattle.rp_base.specs.Plan.{IsTarget, Noted}
use Rattle.rp_base.specs.declared.guid.Guid.{Guid}
use Rattle.rp_base.specs.declared.plan.Change.TheVariants.{New, Same}
use Rattle.rp_base.specs.declared.plan.Note.{Note}
use Rattle.rp_base.specs.declared.plan.Plan.{Plan}
use Rattle.rp_base.specs.declared.seen.Seen.{Seen}
use Rattle.rp_defs.specs.declared.definition.Definition.{Definition}
use Rattle.rp_disk.specs.Calls.{all_done}
use Rattle.rp_disk.specs.Stops.{Each}
use Rattle.rp_disk.specs.declared.call.Call.{Call}
use Rattle.rp_gpt.specs.declared.table_fault.Empty.{Empty}
use Rattle.rp_gpt.specs.declared.table_fault.Empty.TheVariants.{Refuse, Require}
use Rattle.rp_headline.proofs.Public.{are_calls_of}
use Rattle.rp_idle.specs.Idle.{IsPlanned}
use Rattle.rp_idle.proofs.Public.{plan_for, plannable}
use Rattle.rp_reset.specs.Reset.{left_note, reset as reset_of, reset_table}
use Rattle.rp_reset.proofs.Public.{all_same, reset_fits, reset_is, reset_writes}
use Rattle.rp_reset_stops.specs.Through.{IsPlanBehind, IsResetFor}
use Rattle.rp_reset_stops.proofs.Public.{middle_seen}
use Rattle.rp_sizes.specs.declared.need.Fact.{Fact}
use Rattle.rp_steps.specs.Calls.{calls, contents_calls}
use Rattle.rp_steps.specs.Contents.{NotesFit, RoleFits, Sources}
use Rattle.rp_steps.proofs.Composed.{are_calls}
use Rattle.rp_stops.specs.After.{seen_after}
use Rattle.rp_stops.specs.Order.{AreCallsOf}
use Rattle.rp_stops.specs.Rows.{IsInNewRow}
use Rattle.rp_reset_headline.specs.Planned.{IsPlannedAnew, IsReset}

-- the notes of a reset have no roles
pub notes_fit : (seen : Seen) (defs : List Definition) (reset : Plan) → reset_of seen defs ≡ Ok (Some reset) → NotesFit reset
notes_fit seen defs reset is =
    subst NotesFit (sym (reset_is seen defs reset is))
    (All-map (λ (note : Note). RoleFits note.role) left_note (reset_table seen.shown defs).rows (λ k d below. tt))

-- none of its rows is new, so that it writes no contents
pub no_contents : (seen : Seen) (defs : List Definition) (reset : Plan) → reset_of seen defs ≡ Ok (Some reset) → (body : List Call)
    → Each (IsInNewRow reset) body → body ≡ []
no_contents seen defs reset is [] inside = refl
no_contents seen defs reset is (call ∷ body) inside =
    let new = inside.0 in
    let same = all_same seen defs reset is new.0 new.1 new.2 in
    absurd (let f : Same ≡ New = sym same ∙ ap (λ (noted : Noted). noted.1.change) new.3 ∙ new.4.0 in cc)

module _ (sector : ℕ) (old : List ℕ) (empty : Empty) (seen : Seen) (defs : List Definition) (reset : Plan)
    (is : IsReset sector old empty seen defs reset) where
  pub reset_for : IsResetFor sector old empty seen defs reset
  reset_for = record {
    plan = record {
      of_sector = is.of_sector;
      seen_of = is.seen_of;
      fits = reset_fits seen defs reset is.reset_is (plannable sector old empty seen is.of_sector is.seen_of).0;
      table_fits = reset_writes seen defs reset is.reset_is is.fits;
    };
    reset_is = is.reset_is;
  }

  -- the calls of its steps
  pub calls_of_reset : (sources : Sources) → AreCallsOf seen reset [] (calls reset seen sources)
  calls_of_reset sources =
      let made = are_calls seen reset sources reset_for.plan.fits.well_formed (notes_fit seen defs reset is.reset_is) in
      subst (λ body. AreCallsOf seen reset body (calls reset seen sources))
      (no_contents seen defs reset is.reset_is (contents_calls reset sources) made.inside) made

  module _ (target : ℕ) (facts : List Fact) (seed : Guid) (plan : Plan)
      (anew : IsPlannedAnew sector seen target defs facts seed reset plan) where
    -- the goal for what is left is the goal for the image between both
    pub planned_anew : (before : List Call) → AreCallsOf seen reset [] before
        → IsPlanned sector (all_done old before) Refuse (seen_after seen reset) target defs facts seed plan
    planned_anew before are = record {
      of_sector = is.of_sector;
      seen_of = middle_seen sector old empty seen defs reset reset_for before are Refuse (λ e. let f : Refuse ≡ Require = e in cc);
      aim = subst (λ n. IsTarget sector n target) (sym (ap (λ (p : Plan). p.target) (reset_is seen defs reset is.reset_is))) anew.aim;
      grows = inr refl;
      definitions = anew.definitions;
      known = anew.known;
      goal_is = anew.goal_is;
      fits = anew.fits;
    }

    planned_by : (sources : Sources)
        → IsPlanned sector (all_done old (calls reset seen sources)) Refuse (seen_after seen reset) target defs facts seed plan
    planned_by sources = planned_anew (calls reset seen sources) (calls_of_reset sources)

    -- it fits what is left
    pub plan_fits : IsPlanBehind seen reset plan
    plan_fits =
        let fits = plan_for sector (all_done old (calls reset seen (λ file. []))) Refuse (seen_after seen reset) target defs facts seed plan
        (planned_by (λ file. [])) in
        record { fits = fits.fits; table_fits = anew.fits }

    -- the calls of its steps
    pub calls_behind : (sources : Sources) → NotesFit plan
        → AreCallsOf (seen_after seen reset) plan (contents_calls plan sources) (calls plan (seen_after seen reset) sources)
    calls_behind sources fit =
        are_calls_of sector (all_done old (calls reset seen sources)) Refuse (seen_after seen reset) target defs facts seed plan
        (planned_by sources) sources fit
