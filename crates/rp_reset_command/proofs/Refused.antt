-- Why nothing is planned with a factory reset.
use Rattle.std.proofs.Common.{◌≡◌, ◌⊎◌, ◌∙◌, Bool, true, false, List, Option, Result, Ok, Err, refl, sym, ap, subst, inl, inr}
use Rattle.rp_apply_command.proofs.Goals.{none_planned}
use Rattle.rp_apply_command.specs.Ends.{IsBefore, IsBetween}
use Rattle.rp_base.specs.declared.plan.Plan.{Plan}
use Rattle.rp_base.specs.declared.seen.Seen.{Seen}
use Rattle.rp_defs.specs.declared.definition.Definition.{Definition}
use Rattle.rp_demand.specs.declared.demand.Demand.{Demand}
use Rattle.rp_demand.specs.declared.demand.Demand.TheVariants as demands
use Rattle.rp_io.specs.declared.stored.Stored.{Stored}
use Rattle.rp_outcome.specs.Demands.{demand_refusal}
use Rattle.rp_outcome.specs.Device.{Device}
use Rattle.rp_outcome.specs.Refusals.{Refusal, memory_refusal, repair_refusal}
use Rattle.rp_outcome.specs.Store.{Store}
use Rattle.rp_planned.specs.Planning.{IsImageRefusal, PlansUnless, ReadsImage, must_repair}
use Rattle.rp_planned.specs.declared.planned.Planned.{Planned}
use Rattle.rp_planned.specs.declared.request.Request.{Request}
use Rattle.rp_reading.specs.Stages.{refused}
use Rattle.rp_reset.specs.Reset.{reset as reset_of}
use Rattle.rp_reset_command.proofs.Known.{plans_blind, told_reset}
use Rattle.rp_reset_command.proofs.Left.{left_seen, no_repair}
use Rattle.rp_reset_command.specs.Renewing.{RenewsBehind, RenewsImage, RenewsLeft, RenewsSeen, RenewsUnless, ResetsSeen, renewed, renewed_by, seen_left}
use Rattle.rp_reset_command.specs.declared.renewal.Renewal.{Renewal}

-- a status at which nothing was carried out, or at which it was broken off
abbrev pub IsRefused : Refusal → Type 0
IsRefused refusal = IsBefore refusal.status ⊎ IsBetween refusal.status

-- the refusal of a demand, or of want of memory
pub demand_status : (list : List Definition) (demand : Demand) → ((demand_refusal list demand).status ≡ 5) ⊎ (demand_refusal list demand ≡ memory_refusal)
demand_status list (demands.ResetMix file) = inl refl
demand_status list (demands.VerityHalf file) = inl refl
demand_status list (demands.SourceTooLarge file need max) = inl refl
demand_status list (demands.Existing file need have) = inl refl
demand_status list (demands.Room file need largest) = inl refl
demand_status list (demands.Slot file) = inl refl
demand_status list (demands.TakenIdentifier file) = inl refl
demand_status list (demands.NoIdentifier file) = inl refl
demand_status list demands.Memory = inr refl

same_err : {T : Type 0} (a b : Refusal) → ◌≡◌ {A = Result T Refusal} (Err a) (Err b) → a ≡ b
same_err a b e = cc

want : IsRefused memory_refusal
want = inl (inr (inr (inr refl)))

is_image : (refusal : Refusal) → IsImageRefusal refusal → IsRefused refusal
is_image refusal (inl four) = inl (inr (inl four))
is_image refusal (inr (inl failed)) = inr (inl (ap (λ (r : Refusal). r.status) failed))
is_image refusal (inr (inr short)) = inl (inr (inr (inr (ap (λ (r : Refusal). r.status) short))))

-- the refusal of a reset
pub by_demand : (list : List Definition) (r : Result (Option Plan) Demand) (refusal : Refusal)
    → ◌≡◌ {A = Result (Option Plan) Refusal} (Err refusal) (refused (demand_refusal list) r) → (refusal.status ≡ 5) ⊎ (refusal ≡ memory_refusal)
by_demand list (Ok reset) refusal e = absurd (cc)
by_demand list (Err demand) refusal e =
    let same : refusal ≡ demand_refusal list demand = same_err {T = Option Plan} refusal (demand_refusal list demand) e in
    subst (λ (r : Refusal). (r.status ≡ 5) ⊎ (r ≡ memory_refusal)) (sym same) (demand_status list demand)

is_demand : (refusal : Refusal) → (refusal.status ≡ 5) ⊎ (refusal ≡ memory_refusal) → IsRefused refusal
is_demand refusal (inl five) = inl (inr (inr (inl five)))
is_demand refusal (inr short) = inl (inr (inr (inr (ap (λ (r : Refusal). r.status) short))))

module _ (request : Request) (list : List Definition) (disk later : Device) (sources drained : Store (List Stored)) (refusal : Refusal) where
  by_planned : (seen : Seen) (reset : Option Plan) (planned : Result Planned Refusal) → ReadsImage request.sector request.empty disk later (Ok seen)
      → must_repair request.size seen ≡ false → reset_of seen list ≡ Ok reset
      → PlansUnless false request list (seen_left seen reset) sources drained planned → Err refusal ≡ renewed_by seen reset planned → IsRefused refusal
  by_planned seen reset (Ok planned) reads repaired made plans e =
      absurd (let f : ◌≡◌ {A = Result Renewal Refusal} (Err refusal) (Ok (renewed seen reset planned)) = e in cc)
  by_planned seen reset (Err other) reads repaired made plans e =
      subst IsRefused (sym (same_err {T = Renewal} refusal other e))
      (none_planned request list _ _ sources drained other
      (plans_blind request list (seen_left seen reset) sources drained (Err other)
      (left_seen request.sector seen list reset reads.seen made) (no_repair request.size seen reset repaired) plans))

  by_left : (seen : Seen) (reset : Option Plan) → ReadsImage request.sector request.empty disk later (Ok seen)
      → must_repair request.size seen ≡ false → reset_of seen list ≡ Ok reset → RenewsLeft request list seen reset sources drained (Err refusal)
      → IsRefused refusal
  by_left seen reset reads repaired made (inl (e, same)) = subst IsRefused (sym (same_err {T = Renewal} refusal memory_refusal e)) want
  by_left seen reset reads repaired made (inr (planned, plans, e)) = by_planned seen reset planned reads repaired made plans e

  by_reset : (seen : Seen) (reset : Result (Option Plan) Refusal) → ReadsImage request.sector request.empty disk later (Ok seen)
      → must_repair request.size seen ≡ false → ResetsSeen list seen reset → RenewsBehind request list seen reset sources drained (Err refusal)
      → IsRefused refusal
  by_reset seen (Err other) reads repaired (inl is) (e, same) =
      subst IsRefused (sym (same_err {T = Renewal} refusal other e)) (is_demand other (by_demand list (reset_of seen list) other is))
  by_reset seen (Err other) reads repaired (inr is) (e, same) =
      subst IsRefused (sym (same_err {T = Renewal} refusal other e ∙ same_err {T = Option Plan} other memory_refusal is)) want
  by_reset seen (Ok reset) reads repaired (inl is) left = by_left seen reset reads repaired (told_reset list (reset_of seen list) reset is) left
  by_reset seen (Ok reset) reads repaired (inr e) left = absurd (let f : ◌≡◌ {A = Result (Option Plan) Refusal} (Ok reset) (Err memory_refusal) = e in cc)

  by_repair : (seen : Seen) (b : Bool) → must_repair request.size seen ≡ b → ReadsImage request.sector request.empty disk later (Ok seen)
      → RenewsUnless b request list seen sources drained (Err refusal) → IsRefused refusal
  by_repair seen true is reads (e, same) = subst IsRefused (sym (same_err {T = Renewal} refusal repair_refusal e)) (inl (inr (inl refl)))
  by_repair seen false is reads (reset, resets, behind) = by_reset seen reset reads is resets behind

  by_seen : (seen : Result Seen Refusal) → ReadsImage request.sector request.empty disk later seen
      → RenewsSeen request list seen sources drained (Err refusal) → IsRefused refusal
  by_seen (Err other) reads (e, same) = subst IsRefused (sym (same_err {T = Renewal} refusal other e)) (is_image other reads.refusal)
  by_seen (Ok seen) reads renews = by_repair seen (must_repair request.size seen) refl reads renews

  -- where nothing is planned, the refusal has the status of its cause
  pub none_renewed : RenewsImage request list disk later sources drained (Err refusal) → IsRefused refusal
  none_renewed renews = by_seen renews.0 renews.1 renews.2
