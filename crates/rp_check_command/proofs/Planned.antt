-- What was planned for an image is what is planned for it.
use Rattle.std.proofs.Common.{◌≡◌, ◌⊎◌, ◌∙◌, ℕ, Bool, true, false, List, Option, Some, None, Result, Ok, Err, refl, sym, ap, subst, inl, inr, arith}
use Rattle.std.specs.Prelude.{IfSome}
use Rattle.rp_base.specs.declared.plan.Plan.{Plan}
use Rattle.rp_base.specs.declared.seen.Seen.{Seen}
use Rattle.rp_check_command.proofs.Sighted.{settled_ok}
use Rattle.rp_defs.specs.declared.definition.Definition.{Definition}
use Rattle.rp_demand.specs.declared.demand.Demand.{Demand}
use Rattle.rp_demand.specs.declared.demand.Demand.TheVariants as demands
use Rattle.rp_disk.specs.History.{held}
use Rattle.rp_disk.specs.Made.{history_of}
use Rattle.rp_io.specs.declared.stored.Stored.{Stored}
use Rattle.rp_outcome.specs.Demands.{demand_refusal}
use Rattle.rp_outcome.specs.Device.{Device, Known}
use Rattle.rp_outcome.specs.Refusals.{Refusal, disk_refusal, memory_refusal, repair_refusal, source_refusal}
use Rattle.rp_outcome.specs.Store.{Store}
use Rattle.rp_plan.specs.Goal.{goal}
use Rattle.rp_plan_command.specs.Statuses.{IsRefused}
use Rattle.rp_planned.specs.Planning.{AsksSources, IsImageRefusal, PlansBy, PlansImage, PlansSeen, PlansUnless, ReadsImage, must_repair, planned_by, planned_of, planned_unless, seen_of, target_of, with_seen}
use Rattle.rp_planned.specs.declared.planned.Planned.{Planned}
use Rattle.rp_planned.specs.declared.request.Request.{Request}
use Rattle.rp_reading.specs.Stages.{HasStageCause, Settles, and_then, refused}
use Rattle.rp_sizes.specs.Facts.{facts}
use Rattle.rp_sizes.specs.declared.need.Fact.{Fact}

-- no failed call was passed over where a stage answered
pub kept_ok : {T : Type 0} (failure : Refusal) (before now : ℕ) (value : T) → HasStageCause failure before now (Ok value) → now ≡ before
kept_ok failure before now value cause = go cause.kept where
  go : {T : Type 0} {value : T} → (◌≡◌ {A = Result T Refusal} (Ok value) (Err failure)) ⊎ (now ≡ before) → now ≡ before
  go (inl e) = absurd (cc)
  go (inr same) = same

pub no_ok : {T P : Type 0} (value : T) (refusal : Refusal) → ◌≡◌ {A = Result T Refusal} (Ok value) (Err refusal) → P
no_ok value refusal e = absurd (cc)

pub same_err : {T : Type 0} (a b : Refusal) → ◌≡◌ {A = Result T Refusal} (Err a) (Err b) → a ≡ b
same_err a b e = cc

-- what the sources told is what was known
same_facts : (known facts : List Fact) → Settles source_refusal (Ok facts) (Ok known) → facts ≡ known
same_facts known facts settles = let same = settled_ok source_refusal (Ok facts) known settles in cc

-- what is refused where nothing is planned has one of these statuses
abbrev pub IsNone : ℕ → Type 0
IsNone status = IsRefused status ⊎ (status ≡ 7) ⊎ (status ≡ 8) ⊎ (status ≡ 10)

module _ (request : Request) (list : List Definition) (disk later : Device) (sources drained : Store (List Stored)) where
  module _ (planned : Planned) where
    -- a plan by facts has what was seen
    seen_by : (seen : Seen) (r : Result Plan Demand)
        → and_then (refused (demand_refusal list) r) (λ plan. Ok (with_seen seen plan)) ≡ Ok planned → planned.seen ≡ seen
    seen_by seen (Ok plan) e =
        let same : with_seen seen plan ≡ planned = cc in sym (ap (λ (p : Planned). p.seen) same)
    seen_by seen (Err demand) e = absurd (cc)

    -- what is known where something is planned: what was seen of the image, and what the sources told
    pub record IsFrom : Type 0 where
      pub known : List Fact
      pub reads : ReadsImage request.sector request.empty disk later (Ok planned.seen)
      pub repaired : must_repair request.size planned.seen ≡ false
      pub asks : AsksSources request.seed planned.seen.shown list sources drained (Ok known)
      pub is : planned_by request list planned.seen known ≡ Ok planned

    by_seen_facts : (seen : Seen) (known : List Fact) → planned.seen ≡ seen → ReadsImage request.sector request.empty disk later (Ok seen)
        → must_repair request.size seen ≡ false → AsksSources request.seed seen.shown list sources drained (Ok known)
        → planned_by request list seen known ≡ Ok planned → IsFrom
    by_seen_facts seen known same reads none asks is = record {
      known = known;
      reads = subst (λ (s : Seen). ReadsImage request.sector request.empty disk later (Ok s)) (sym same) reads;
      repaired = subst (λ (s : Seen). must_repair request.size s ≡ false) (sym same) none;
      asks = subst (λ (s : Seen). AsksSources request.seed s.shown list sources drained (Ok known)) (sym same) asks;
      is = subst (λ (s : Seen). planned_by request list s known ≡ Ok planned) (sym same) is;
    }

    by_known : (seen : Seen) (known : Result (List Fact) Refusal) → ReadsImage request.sector request.empty disk later (Ok seen)
        → must_repair request.size seen ≡ false → AsksSources request.seed seen.shown list sources drained known
        → PlansBy request list seen known (Ok planned) → IsFrom
    by_known seen (Err refusal) reads none asks e = no_ok planned refusal e
    by_known seen (Ok known) reads none asks (inl e) =
        by_seen_facts seen known
        (seen_by seen (goal seen (target_of request.size seen) list known request.seed) (sym e)) reads none asks (sym e)
    by_known seen (Ok known) reads none asks (inr e) = no_ok planned memory_refusal e

    by_repair : (seen : Seen) (b : Bool) → must_repair request.size seen ≡ b → ReadsImage request.sector request.empty disk later (Ok seen)
        → PlansUnless b request list seen sources drained (Ok planned) → IsFrom
    by_repair seen true is reads e = no_ok planned repair_refusal e.0
    by_repair seen false is reads plans = by_known seen plans.0 reads is plans.1 plans.2

    pub planned_from : PlansImage request list disk later sources drained (Ok planned) → IsFrom
    planned_from plans = by_seen plans.0 plans.1 plans.2 where
      by_seen : (answer : Result Seen Refusal) → ReadsImage request.sector request.empty disk later answer
          → PlansSeen request list answer sources drained (Ok planned) → IsFrom
      by_seen (Err refusal) reads e = no_ok planned refusal e.0
      by_seen (Ok seen) reads plans = by_repair seen (must_repair request.size seen) refl reads plans

    -- where the sources tell, it is what is planned by what they tell
    pub planned_told : IsFrom
        → Known disk later (λ h. IfSome sources.told (λ files. planned_of request list (held h) files ≡ Ok planned))
    planned_told from = λ past can. by_image (held (history_of past disk.calls)) sources.told (from.reads.settled past can) from.asks.settled where
      by_image : (image : List ℕ) (t : Option (List Stored)) → Settles disk_refusal (seen_of request.sector request.empty image) (Ok planned.seen)
          → IfSome t (λ files. Settles source_refusal (Ok (facts request.seed files planned.seen.shown list)) (Ok from.known))
          → IfSome t (λ files. planned_of request list image files ≡ Ok planned)
      by_image image None sees settles = tt
      by_image image (Some files) sees settles =
          ap (λ (r : Result Seen Refusal). and_then r (λ s. planned_unless (must_repair request.size s) request list files s))
          (settled_ok disk_refusal (seen_of request.sector request.empty image) planned.seen sees)
          ∙ ap (λ (b : Bool). planned_unless b request list files planned.seen) from.repaired
          ∙ ap (planned_by request list planned.seen) (same_facts from.known (facts request.seed files planned.seen.shown list) settles)
          ∙ from.is

  -- the refusal of a demand, or of want of memory
  demand_status : (demand : Demand) → ((demand_refusal list demand).status ≡ 5) ⊎ ((demand_refusal list demand).status ≡ 10)
  demand_status (demands.ResetMix file) = inl refl
  demand_status (demands.VerityHalf file) = inl refl
  demand_status (demands.SourceTooLarge file need max) = inl refl
  demand_status (demands.Existing file need have) = inl refl
  demand_status (demands.Room file need largest) = inl refl
  demand_status (demands.Slot file) = inl refl
  demand_status (demands.TakenIdentifier file) = inl refl
  demand_status (demands.NoIdentifier file) = inl refl
  demand_status demands.Memory = inr refl

  as_status : (a b : Refusal) (n : ℕ) → ◌≡◌ {A = Result Planned Refusal} (Err a) (Err b) → b.status ≡ n → a.status ≡ n
  as_status a b n e is = ap (λ (r : Refusal). r.status) (same_err {T = Planned} a b e) ∙ is

  none_image : (refusal : Refusal) → IsImageRefusal refusal → IsNone refusal.status
  none_image refusal (inl e) = inl (inr (inl e))
  none_image refusal (inr (inl e)) = inr (inl (ap (λ (r : Refusal). r.status) e))
  none_image refusal (inr (inr e)) = inr (inr (inr (ap (λ (r : Refusal). r.status) e)))

  none_sources : (refusal : Refusal) → (refusal ≡ source_refusal) ⊎ (refusal ≡ memory_refusal) → IsNone refusal.status
  none_sources refusal (inl e) = inr (inr (inl (ap (λ (r : Refusal). r.status) e)))
  none_sources refusal (inr e) = inr (inr (inr (ap (λ (r : Refusal). r.status) e)))

  none_goal : (refusal : Refusal) (seen : Seen) (r : Result Plan Demand)
      → Err refusal ≡ and_then (refused (demand_refusal list) r) (λ plan. Ok (with_seen seen plan)) → IsNone refusal.status
  none_goal refusal seen (Ok plan) e = absurd (cc)
  none_goal refusal seen (Err demand) e = elim (demand_status demand) [
    | inl five ↦ inl (inr (inr (as_status refusal (demand_refusal list demand) 5 e five)))
    | inr ten ↦ inr (inr (inr (as_status refusal (demand_refusal list demand) 10 e ten)))
  ]

  none_known : (refusal : Refusal) (seen : Seen) (known : Result (List Fact) Refusal)
      → AsksSources request.seed seen.shown list sources drained known → PlansBy request list seen known (Err refusal) → IsNone refusal.status
  none_known refusal seen (Err other) asks e =
      subst IsNone (sym (ap (λ (r : Refusal). r.status) (same_err {T = Planned} refusal other e))) (none_sources other asks.refusal)
  none_known refusal seen (Ok known) asks (inl e) = none_goal refusal seen (goal seen (target_of request.size seen) list known request.seed) e
  none_known refusal seen (Ok known) asks (inr e) = inr (inr (inr (as_status refusal memory_refusal 10 e refl)))

  none_repair : (refusal : Refusal) (seen : Seen) (b : Bool) → PlansUnless b request list seen sources drained (Err refusal) → IsNone refusal.status
  none_repair refusal seen true e = inl (inr (inl (as_status refusal repair_refusal 4 e.0 refl)))
  none_repair refusal seen false plans = none_known refusal seen plans.0 plans.1 plans.2

  pub none_planned : (refusal : Refusal) → PlansImage request list disk later sources drained (Err refusal) → IsNone refusal.status
  none_planned refusal plans = by_seen plans.0 plans.1 plans.2 where
    by_seen : (answer : Result Seen Refusal) → ReadsImage request.sector request.empty disk later answer
        → PlansSeen request list answer sources drained (Err refusal) → IsNone refusal.status
    by_seen (Err other) reads e =
        subst IsNone (sym (ap (λ (r : Refusal). r.status) (same_err {T = Planned} refusal other e.0))) (none_image other reads.refusal)
    by_seen (Ok seen) reads plans = none_repair refusal seen (must_repair request.size seen) plans
