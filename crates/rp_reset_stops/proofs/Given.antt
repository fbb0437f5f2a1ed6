-- What a reset leaves, once its calls are done.
use Rattle.std.proofs.Common.{◌≡◌, ◌≢◌, ◌∙◌, ℕ, ◌*◌, List, [], ◌∷◌, ◌++◌, length, Ok, refl, ap, sym, subst, inl, inr, append-nil}
use Rattle.std.specs.Prelude.{Contains}
use Rattle.std.proofs.lemmas.List.Elements.{All-contains, All-weaker}
use Rattle.rp_base.specs.Image.{range_of}
use Rattle.rp_base.specs.declared.plan.Plan.{Plan}
use Rattle.rp_base.specs.declared.seen.Seen.{Seen}
use Rattle.rp_base.specs.declared.table.Row.{Row}
use Rattle.rp_defs.specs.declared.definition.Definition.{Definition}
use Rattle.rp_disk.specs.Calls.{all_done, done}
use Rattle.rp_disk.specs.declared.call.Call.{Call}
use Rattle.rp_gpt.specs.Shown.{accepted, shown, shows}
use Rattle.rp_gpt.specs.declared.table_fault.Empty.{Empty}
use Rattle.rp_gpt.specs.declared.table_fault.Empty.TheVariants.{Refuse, Require}
use Rattle.rp_reset.proofs.Public.{reset_is, rows_old}
use Rattle.rp_stops.specs.After.{seen_after}
use Rattle.rp_stops.specs.Order.{AreCallsOf}
use Rattle.rp_stops.specs.Plans.{IsPlanFor}
use Rattle.rp_stops.specs.Safe.{KeepsRows}
use Rattle.rp_stops.proofs.Accepting.{accepted-sized}
use Rattle.rp_stops.proofs.After.{accepted_after}
use Rattle.rp_stops.proofs.Carried.{plan-given, plan-sector}
use Rattle.rp_stops.proofs.Final.{shown_goal}
use Rattle.rp_stops.proofs.Fronts.{own_ranges}
use Rattle.rp_reset_stops.specs.Through.{IsPlanBehind, IsResetFor, KeepsOthers}

-- a plan that was carried out: its image is accepted with the goal, shows it, and keeps the old rows
pub accepted_then : (sector : ℕ) (old : List ℕ) (empty : Empty) (seen : Seen) (plan : Plan) → IsPlanFor sector old empty seen plan
    → (body calls : List Call) → AreCallsOf seen plan body calls → (then : Empty) → then ≢ Require
    → accepted sector (all_done old calls) then ≡ Ok (seen_after seen plan)
accepted_then sector old empty seen plan is body calls are then other =
    subst (λ z. accepted z (all_done old calls) then ≡ Ok (seen_after seen plan)) (plan-sector sector old empty seen plan is)
    (accepted_after old seen plan (plan-given sector old empty seen plan is) body calls are then other)

shown_then : (sector : ℕ) (old : List ℕ) (empty : Empty) (seen : Seen) (plan : Plan) → IsPlanFor sector old empty seen plan
    → (body calls : List Call) → AreCallsOf seen plan body calls → shown sector (all_done old calls) ≡ shows plan.goal
shown_then sector old empty seen plan is body calls are =
    subst (λ z. shown z (all_done old calls) ≡ shows plan.goal) (plan-sector sector old empty seen plan is)
    (shown_goal old seen plan (plan-given sector old empty seen plan is) body calls are)

pub rows_then : (sector : ℕ) (old : List ℕ) (empty : Empty) (seen : Seen) (plan : Plan) → IsPlanFor sector old empty seen plan
    → (body calls : List Call) → AreCallsOf seen plan body calls → KeepsRows old seen (all_done old calls)
rows_then sector old empty seen plan is body calls are =
    (own_ranges old seen plan (plan-given sector old empty seen plan is) body calls are calls ([], append-nil calls)).rows

-- calls done one after the other
pub done_both : (old : List ℕ) (before behind : List Call) → all_done old (before ++ behind) ≡ all_done (all_done old before) behind
done_both old [] behind = refl
done_both old (call ∷ before) behind = done_both (done old call) before behind

module _ (sector : ℕ) (old : List ℕ) (empty : Empty) (seen : Seen) (defs : List Definition) (reset : Plan)
    (is : IsResetFor sector old empty seen defs reset) where
  pub own_length : reset.target ≡ seen.sectors
  own_length = ap (λ (p : Plan). p.target) (reset_is seen defs reset is.reset_is)

  pub old_length : length old ≡ 512 * seen.sectors
  old_length = (accepted-sized sector old empty seen is.plan.of_sector is.plan.seen_of).1.len

  -- what holds of each old row holds of each row of the reset table
  pub others_kept : (image : List ℕ) → KeepsRows old seen image → KeepsOthers old seen reset image
  others_kept image all = All-weaker (Contains seen.shown.rows) (λ row. range_of image row ≡ range_of old row)
      (λ row has. All-contains (λ (r : Row). range_of image r ≡ range_of old r) seen.shown.rows row all has) reset.goal.rows
      (rows_old seen defs reset is.reset_is)

  module _ (before : List Call) (are : AreCallsOf seen reset [] before) where
    pub middle_length : length (all_done old before) ≡ length old
    middle_length =
        elim (own_ranges old seen reset (plan-given sector old empty seen reset is.plan) [] before are before ([], append-nil before)).len [
          | inl same ↦ same
          | inr grown ↦ grown ∙ ap (λ n. 512 * n) own_length ∙ sym old_length
        ]

    pub middle_rows : KeepsOthers old seen reset (all_done old before)
    middle_rows = others_kept (all_done old before) (rows_then sector old empty seen reset is.plan [] before are)

    pub middle_shown : shown sector (all_done old before) ≡ shows reset.goal
    middle_shown = shown_then sector old empty seen reset is.plan [] before are

    pub middle_seen : (then : Empty) → then ≢ Require → accepted sector (all_done old before) then ≡ Ok (seen_after seen reset)
    middle_seen then other = accepted_then sector old empty seen reset is.plan [] before are then other

    -- a plan that fits what is left is one for the image between both
    pub plan_behind : (plan : Plan) → IsPlanBehind seen reset plan
        → IsPlanFor sector (all_done old before) Refuse (seen_after seen reset) plan
    plan_behind plan fits = record {
      of_sector = is.plan.of_sector;
      seen_of = middle_seen Refuse (λ e. let f : Refuse ≡ Require = e in cc);
      fits = fits.fits;
      table_fits = fits.table_fits;
    }
