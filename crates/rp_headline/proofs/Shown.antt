-- The table of an image on which a goal was carried out is the goal.
use Rattle.std.proofs.Common.{◌≡◌, ◌≢◌, ◌∙◌, ℕ, ◌^◌, ◌%◌, ◌≤◌, Bool, true, false, cond, List, length, Result, Ok, Err, arith, refl, ap, subst}
use Rattle.std.specs.Prelude.{◌==◌, ◌||◌, nat_lt, not}
use Rattle.rp_base.specs.Geometry.{least_sectors}
use Rattle.rp_base.specs.Image.{sectors_of}
use Rattle.rp_base.specs.declared.guid.Guid.{Guid}
use Rattle.rp_base.specs.declared.plan.Plan.{Plan}
use Rattle.rp_base.specs.declared.seen.Seen.{Seen}
use Rattle.rp_base.specs.declared.table.Table.{Table}
use Rattle.rp_defs.specs.declared.definition.Definition.{Definition}
use Rattle.rp_disk.specs.Calls.{all_done}
use Rattle.rp_disk.specs.declared.call.Call.{Call}
use Rattle.rp_gpt.specs.Shown.{accepted, accepted_as, accepted_table, shown, shows}
use Rattle.rp_gpt.specs.declared.table_fault.Empty.{Empty}
use Rattle.rp_gpt.specs.declared.table_fault.Empty.TheVariants.{Refuse, Require}
use Rattle.rp_gpt.specs.declared.table_fault.TableFault.{TableFault}
use Rattle.rp_gpt.specs.declared.table_fault.TableFault.TheVariants as faults
use Rattle.rp_idle.specs.Idle.{IsPlanned}
use Rattle.rp_idle.proofs.Public.{plan_for}
use Rattle.rp_plan.proofs.Formed.{is_named}
use Rattle.rp_plan.proofs.Given.{last_bounds}
use Rattle.rp_plan.proofs.Parts.{made_of}
use Rattle.rp_sizes.specs.declared.need.Fact.{Fact}
use Rattle.rp_sizes.specs.Needs.{matched_of}
use Rattle.rp_stops.specs.After.{seen_after}
use Rattle.rp_stops.specs.Order.{AreCallsOf}
use Rattle.rp_stops.proofs.After.{accepted_after}
use Rattle.rp_stops.proofs.Carried.{plan-given, plan-sector}
use Rattle.rp_stops.proofs.Final.{shown_goal}
use Rattle.rp_headline.specs.Left.{ShowsGoal}
use Rattle.rp_headline.proofs.Given.{given_by}

-- a test that doesn't refuse what is accepted
past : (b : Bool) (fault : TableFault) (rest other : Result Seen TableFault) (seen : Seen) → cond b (Err fault) rest ≡ Ok seen
    → (rest ≡ Ok seen) × (cond b (Err fault) other ≡ other)
past true fault rest other seen e = absurd (cc)
past false fault rest other seen e = (e, refl)

-- an image that is accepted with its table isn't, where it is to show none
not_empty : (sector : ℕ) (image : List ℕ) (empty : Empty) (seen : Seen) (table : Table) → accepted sector image empty ≡ Ok seen
    → shown sector image ≡ shows table → accepted sector image Require ≡ Err faults.NotEmpty
unfolding accepted accepted_as accepted_table
not_empty sector image empty seen table e shows_it =
    let short = not (length image % sector == 0) || nat_lt (sectors_of sector image) (least_sectors sector 128) in
    let long = past (nat_lt (2 ^ 44) (length image)) (faults.TooLong (length image))
    (cond short (Err (faults.TooShort (length image))) (accepted_as sector image empty (shown sector image)))
    (cond short (Err (faults.TooShort (length image))) (accepted_as sector image Require (shown sector image))) seen e in
    let fits = past short (faults.TooShort (length image)) (accepted_as sector image empty (shown sector image))
    (accepted_as sector image Require (shown sector image)) seen long.0 in
    long.1 ∙ fits.1 ∙ ap (accepted_as sector image Require) shows_it

module _ (sector : ℕ) (old : List ℕ) (empty : Empty) (seen : Seen) (target : ℕ) (defs : List Definition) (facts : List Fact) (seed : Guid)
    (plan : Plan) (is : IsPlanned sector old empty seen target defs facts seed plan) where
  pub shows_goal : (body calls : List Call) → AreCallsOf seen plan body calls → ShowsGoal sector seen plan (all_done old calls)
  shows_goal body calls are =
      let fits = plan_for sector old empty seen target defs facts seed plan is in
      let of_sector = plan-sector sector old empty seen plan fits in
      let g = plan-given sector old empty seen plan fits in
      let taken : (then : Empty) → then ≢ Require → accepted sector (all_done old calls) then ≡ Ok (seen_after seen plan) = λ then other.
      subst (λ z. accepted z (all_done old calls) then ≡ Ok (seen_after seen plan)) of_sector
      (accepted_after old seen plan g body calls are then other) in record {
        taken = taken;
        refused = not_empty sector (all_done old calls) Refuse (seen_after seen plan) plan.goal
            (taken Refuse (λ e. let f : Refuse ≡ Require = e in cc))
            (subst (λ z. shown z (all_done old calls) ≡ shows plan.goal) of_sector (shown_goal old seen plan g body calls are));
      }
