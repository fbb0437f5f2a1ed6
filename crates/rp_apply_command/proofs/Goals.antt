-- What was planned for an image is its goal, and why nothing was.
use Rattle.std.proofs.Common.{◌≡◌, ◌⊎◌, ◌∙◌, ℕ, ◌%◌, ◌^◌, ◌≤◌, Bool, true, false, List, Option, Some, None, Result, Ok, Err, refl, sym, ap, subst, inl, inr, arith}
use Rattle.std.specs.Prelude.{IfSome, ◌&&◌, nat_lt, not, max}
use Rattle.std.proofs.lemmas.Bool.{ltb-false}
use Rattle.rp_base.specs.Geometry.{IsSector}
use Rattle.rp_base.specs.declared.plan.Plan.{Plan}
use Rattle.rp_base.specs.declared.seen.Origin.{Origin}
use Rattle.rp_base.specs.declared.seen.Origin.TheVariants as origins
use Rattle.rp_base.specs.declared.seen.Seen.{Seen}
use Rattle.rp_defs.specs.WellFormed.{IsWellFormed}
use Rattle.rp_defs.specs.declared.definition.Definition.{Definition}
use Rattle.rp_demand.specs.declared.demand.Demand.{Demand}
use Rattle.rp_demand.specs.declared.demand.Demand.TheVariants as demands
use Rattle.rp_disk.specs.Device.{Known}
use Rattle.rp_disk.specs.History.{held}
use Rattle.rp_disk.specs.Made.{history_of}
use Rattle.rp_gpt.specs.Shown.{accepted}
use Rattle.rp_gpt.specs.declared.table_fault.TableFault.{TableFault}
use Rattle.rp_idle.specs.Idle.{IsPlanned}
use Rattle.rp_io.specs.declared.stored.Stored.{Stored}
use Rattle.rp_outcome.specs.Demands.{demand_refusal}
use Rattle.rp_outcome.specs.Device.{Device}
use Rattle.rp_outcome.specs.Refusals.{Refusal, disk_refusal, memory_refusal, repair_refusal, source_refusal, table_refusal}
use Rattle.rp_outcome.specs.Store.{Store}
use Rattle.rp_plan.specs.Goal.{goal}
use Rattle.rp_planned.specs.Planning.{AsksSources, IsImageRefusal, PlansBy, PlansImage, PlansSeen, PlansUnless, ReadsImage, is_primary, must_repair, planned_by, planned_of, planned_unless, seen_of, target_of, with_seen}
use Rattle.rp_planned.specs.declared.planned.Planned.{Planned}
use Rattle.rp_planned.specs.declared.request.Request.{Request}
use Rattle.rp_planned.proofs.Target.{target_is}
use Rattle.rp_reading.specs.Stages.{Settles, and_then, refused}
use Rattle.rp_sizes.specs.Facts.{facts}
use Rattle.rp_sizes.specs.Needs.{AreFactsOn, wanted_of}
use Rattle.rp_sizes.specs.declared.need.Fact.{Fact}
use Rattle.rp_apply_command.specs.Applies.{PlanFits}
use Rattle.rp_apply_command.specs.Ends.{IsBefore, IsBetween, IsGoalOf}

-- a stage that answered, answered what it is to
pub settled_ok : {T : Type 0} (failure : Refusal) (ideal : Result T Refusal) (value : T) → Settles failure ideal (Ok value) → ideal ≡ Ok value
settled_ok failure ideal value (inl same) = sym same
settled_ok failure ideal value (inr (inl e)) = absurd (cc)
settled_ok failure ideal value (inr (inr e)) = absurd (cc)

-- the same image by what is seen of it
pub accepted_of : (r : Result Seen TableFault) (seen : Seen) → refused table_refusal r ≡ Ok seen → r ≡ Ok seen
accepted_of (Ok other) seen e = cc
accepted_of (Err fault) seen e = absurd (cc)

-- where an image needs no repair, it keeps its length or shows its primary copy
grows_by : (origin : Origin) (now target : ℕ) → (nat_lt now target && not (is_primary origin)) ≡ false → now ≤ target
    → (target ≡ now) ⊎ (origin ≡ origins.Primary)
grows_by origins.Primary now target none least = inr refl
grows_by origins.Backup now target none least = by_length (nat_lt now target) refl none where
  by_length : (b : Bool) → nat_lt now target ≡ b → (b && true) ≡ false → (target ≡ now) ⊎ (origins.Backup ≡ origins.Primary)
  by_length true is e = absurd (cc)
  by_length false is e = let le = ltb-false now target is in inl (omega (arith, le, least))
grows_by origins.Neither now target none least = by_length (nat_lt now target) refl none where
  by_length : (b : Bool) → nat_lt now target ≡ b → (b && true) ≡ false → (target ≡ now) ⊎ (origins.Neither ≡ origins.Primary)
  by_length true is e = absurd (cc)
  by_length false is e = let le = ltb-false now target is in inl (omega (arith, le, least))

-- a plan by these facts is the goal
pub goal_by : (request : Request) (list : List Definition) (seen : Seen) (facts : List Fact) (planned : Planned) (r : Result Plan Demand)
    → and_then (refused (demand_refusal list) r) (λ plan. Ok (with_seen seen plan)) ≡ Ok planned → (r ≡ Ok planned.plan) × (planned.seen ≡ seen)
goal_by request list seen facts planned (Ok plan) e =
    let same : with_seen seen plan ≡ planned = cc in
    (ap (λ (p : Planned). Ok p.plan) same, sym (ap (λ (p : Planned). p.seen) same))
goal_by request list seen facts planned (Err demand) e = absurd (cc)

module _ (request : Request) (list : List Definition) (disk later : Device) (sources drained : Store (List Stored)) (planned : Planned)
    (of_sector : IsSector request.sector) (whole : request.size % 4096 ≡ 0) (most : request.size ≤ 2 ^ 44) (formed : IsWellFormed list)
    (fits : PlanFits planned) where
  abbrev Goal : Type 0
  Goal = Known disk later (λ h. IsGoalOf request list (held h) planned)

  goal_at : (seen : Seen) (facts : List Fact) → ReadsImage request.sector request.empty disk later (Ok seen) → must_repair request.size seen ≡ false
      → AreFactsOn (wanted_of seen.shown list) facts → planned.seen ≡ seen
      → goal seen (target_of request.size seen) list facts request.seed ≡ Ok planned.plan → Goal
  goal_at seen facts reads none known same is = λ past can.
      let image = held (history_of past disk.calls) in
      let sight = accepted_of (accepted request.sector image request.empty) seen
      (settled_ok disk_refusal (seen_of request.sector request.empty image) seen (reads.settled past can)) in
      let aim = target_is request.sector request.size seen of_sector whole most reads.seen.whole reads.seen.most in
      subst (λ (s : Seen). (others : List Fact)
      × IsPlanned request.sector image request.empty s (target_of request.size s) list others request.seed planned.plan) (sym same) (
        facts,
        record {
          of_sector = of_sector;
          seen_of = sight;
          aim = aim;
          grows = grows_by seen.origin seen.sectors (target_of request.size seen) none aim.least;
          definitions = formed;
          known = known;
          goal_is = is;
          fits = fits.table;
        },
      )

  by_facts : (seen : Seen) (known : Result (List Fact) Refusal) → ReadsImage request.sector request.empty disk later (Ok seen)
      → must_repair request.size seen ≡ false → AsksSources request.seed seen.shown list sources drained known
      → PlansBy request list seen known (Ok planned) → Goal
  by_facts seen (Err refusal) reads none asks e = absurd (cc)
  by_facts seen (Ok facts) reads none asks (inl e) =
      let is = goal_by request list seen facts planned (goal seen (target_of request.size seen) list facts request.seed) (sym e) in
      goal_at seen facts reads none asks.each is.1 is.0
  by_facts seen (Ok facts) reads none asks (inr e) = absurd (cc)

  by_repair : (seen : Seen) (b : Bool) → must_repair request.size seen ≡ b → ReadsImage request.sector request.empty disk later (Ok seen)
      → PlansUnless b request list seen sources drained (Ok planned) → Goal
  by_repair seen true is reads e = absurd (let f : ◌≡◌ {A = Result Planned Refusal} (Ok planned) (Err repair_refusal) = e.0 in cc)
  by_repair seen false is reads plans = by_facts seen plans.0 reads is plans.1 plans.2

  -- a plan for the image is the goal of what it shows and the definitions
  pub is_goal : PlansImage request list disk later sources drained (Ok planned) → Goal
  is_goal plans = by_seen plans.0 plans.1 plans.2 where
    by_seen : (answer : Result Seen Refusal) → ReadsImage request.sector request.empty disk later answer
        → PlansSeen request list answer sources drained (Ok planned) → Goal
    by_seen (Err refusal) reads e = absurd (let f : ◌≡◌ {A = Result Planned Refusal} (Ok planned) (Err refusal) = e.0 in cc)
    by_seen (Ok seen) reads plans = by_repair seen (must_repair request.size seen) refl reads plans

-- the status of a demand, or of want of memory
demand_status : (list : List Definition) (demand : Demand) → ((demand_refusal list demand).status ≡ 5) ⊎ (demand_refusal list demand ≡ memory_refusal)
demand_status list (demands.ResetMix file) = inl refl
demand_status list (demands.VerityHalf file) = inl refl
demand_status list (demands.SourceTooLarge file need max) = inl refl
demand_status list (demands.Existing file need have) = inl refl
demand_status list (demands.Room file need largest) = inl refl
demand_status list (demands.Slot file) = inl refl
demand_status list (demands.TakenIdentifier file) = inl refl
demand_status list (demands.NoIdentifier file) = inl refl
demand_status list demands.Memory = inr refl

-- a status at which nothing was carried out, or at which it was broken off
abbrev pub IsRefused : Refusal → Type 0
IsRefused refusal = IsBefore refusal.status ⊎ IsBetween refusal.status

is_demand : (list : List Definition) (demand : Demand) → IsRefused (demand_refusal list demand)
is_demand list demand = elim (demand_status list demand) [
  | inl five ↦ inl (inr (inr (inl five)))
  | inr want ↦ inl (inr (inr (inr (ap (λ (r : Refusal). r.status) want))))
]

is_image : (refusal : Refusal) → IsImageRefusal refusal → IsRefused refusal
is_image refusal (inl four) = inl (inr (inl four))
is_image refusal (inr (inl failed)) = inr (inl (ap (λ (r : Refusal). r.status) failed))
is_image refusal (inr (inr want)) = inl (inr (inr (inr (ap (λ (r : Refusal). r.status) want))))

is_source : (refusal : Refusal) → (refusal ≡ source_refusal) ⊎ (refusal ≡ memory_refusal) → IsRefused refusal
is_source refusal (inl failed) = inr (inr (inl (ap (λ (r : Refusal). r.status) failed)))
is_source refusal (inr want) = inl (inr (inr (inr (ap (λ (r : Refusal). r.status) want))))

same_err : {T : Type 0} (a b : Refusal) → ◌≡◌ {A = Result T Refusal} (Err a) (Err b) → a ≡ b
same_err a b e = cc

by_goal : (list : List Definition) (seen : Seen) (refusal : Refusal) (r : Result Plan Demand)
    → Err refusal ≡ and_then (refused (demand_refusal list) r) (λ plan. Ok (with_seen seen plan)) → IsRefused refusal
by_goal list seen refusal (Ok plan) e = absurd (cc)
by_goal list seen refusal (Err demand) e =
    subst IsRefused (sym (same_err {T = Planned} refusal (demand_refusal list demand) e)) (is_demand list demand)

want : IsRefused memory_refusal
want = inl (inr (inr (inr refl)))

module _ (request : Request) (list : List Definition) (disk later : Device) (sources drained : Store (List Stored)) (refusal : Refusal) where
  none_by : (seen : Seen) (known : Result (List Fact) Refusal) → AsksSources request.seed seen.shown list sources drained known
      → PlansBy request list seen known (Err refusal) → IsRefused refusal
  none_by seen (Err other) asks e =
      subst IsRefused (sym (same_err {T = Planned} refusal other e)) (is_source other asks.refusal)
  none_by seen (Ok facts) asks (inl e) = by_goal list seen refusal (goal seen (target_of request.size seen) list facts request.seed) e
  none_by seen (Ok facts) asks (inr e) = subst IsRefused (sym (same_err {T = Planned} refusal memory_refusal e)) want

  none_unless : (seen : Seen) (b : Bool) → PlansUnless b request list seen sources drained (Err refusal) → IsRefused refusal
  none_unless seen true e = subst IsRefused (sym (same_err {T = Planned} refusal repair_refusal e.0)) (inl (inr (inl refl)))
  none_unless seen false plans = none_by seen plans.0 plans.1 plans.2

  -- where nothing is planned, the refusal has the status of its cause
  pub none_planned : PlansImage request list disk later sources drained (Err refusal) → IsRefused refusal
  none_planned plans = by_seen plans.0 plans.1 plans.2 where
    by_seen : (answer : Result Seen Refusal) → ReadsImage request.sector request.empty disk later answer
        → PlansSeen request list answer sources drained (Err refusal) → IsRefused refusal
    by_seen (Err other) reads e = subst IsRefused (sym (same_err {T = Planned} refusal other e.0)) (is_image other reads.refusal)
    by_seen (Ok seen) reads plans = none_unless seen (must_repair request.size seen) plans

-- the sources tell the same, where there is a plan
pub told_same : (request : Request) (list : List Definition) (disk later : Device) (sources drained : Store (List Stored)) (planned : Planned)
    → PlansImage request list disk later sources drained (Ok planned) → drained.told ≡ sources.told
told_same request list disk later sources drained planned plans = by_seen plans.0 plans.2 where
  by_repair : (seen : Seen) (b : Bool) → PlansUnless b request list seen sources drained (Ok planned) → drained.told ≡ sources.told
  by_repair seen true e = absurd (let f : ◌≡◌ {A = Result Planned Refusal} (Ok planned) (Err repair_refusal) = e.0 in cc)
  by_repair seen false answer = answer.1.told

  by_seen : (answer : Result Seen Refusal) → PlansSeen request list answer sources drained (Ok planned) → drained.told ≡ sources.told
  by_seen (Err refusal) e = absurd (let f : ◌≡◌ {A = Result Planned Refusal} (Ok planned) (Err refusal) = e.0 in cc)
  by_seen (Ok seen) answer = by_repair seen (must_repair request.size seen) answer

-- what the sources told is what was known
same_facts : (known facts : List Fact) → Settles source_refusal (Ok facts) (Ok known) → facts ≡ known
same_facts known facts (inl same) = cc
same_facts known facts (inr (inl e)) = absurd (cc)
same_facts known facts (inr (inr e)) = absurd (cc)

-- where sources tell, the plan is the one that is planned by them and the image
module _ (request : Request) (list : List Definition) (disk later : Device) (sources drained : Store (List Stored)) (planned : Planned) where
  abbrev ToldBy : List ℕ → List Stored → Type 0
  ToldBy image files = planned_of request list image files ≡ Ok planned

  abbrev IsTold : Type 0
  IsTold = Known disk later (λ h. IfSome sources.told (λ files. planned_of request list (held h) files ≡ Ok planned))

  told_at : (seen : Seen) (known : List Fact) → ReadsImage request.sector request.empty disk later (Ok seen)
      → must_repair request.size seen ≡ false → AsksSources request.seed seen.shown list sources drained (Ok known)
      → Ok planned ≡ planned_by request list seen known → IsTold
  told_at seen known reads none asks is = λ past can.
      by_sources (held (history_of past disk.calls)) (reads.settled past can) sources.told asks.settled where
        by_sources : (image : List ℕ) → Settles disk_refusal (seen_of request.sector request.empty image) (Ok seen) → (t : Option (List Stored))
            → IfSome t (λ files. Settles source_refusal (Ok (facts request.seed files seen.shown list)) (Ok known))
            → IfSome t (λ files. planned_of request list image files ≡ Ok planned)
        by_sources image settles None told = tt
        by_sources image settles (Some files) told =
            ap (λ (r : Result Seen Refusal). and_then r (λ s. planned_unless (must_repair request.size s) request list files s))
            (settled_ok disk_refusal (seen_of request.sector request.empty image) seen settles)
            ∙ ap (λ b. planned_unless b request list files seen) none
            ∙ ap (planned_by request list seen) (same_facts known (facts request.seed files seen.shown list) told) ∙ sym is

  told_facts : (seen : Seen) (known : Result (List Fact) Refusal) → ReadsImage request.sector request.empty disk later (Ok seen)
      → must_repair request.size seen ≡ false → AsksSources request.seed seen.shown list sources drained known
      → PlansBy request list seen known (Ok planned) → IsTold
  told_facts seen (Err refusal) reads none asks e = absurd (cc)
  told_facts seen (Ok facts) reads none asks (inl e) = told_at seen facts reads none asks e
  told_facts seen (Ok facts) reads none asks (inr e) = absurd (cc)

  told_repair : (seen : Seen) (b : Bool) → must_repair request.size seen ≡ b → ReadsImage request.sector request.empty disk later (Ok seen)
      → PlansUnless b request list seen sources drained (Ok planned) → IsTold
  told_repair seen true is reads e = absurd (let f : ◌≡◌ {A = Result Planned Refusal} (Ok planned) (Err repair_refusal) = e.0 in cc)
  told_repair seen false is reads plans = told_facts seen plans.0 reads is plans.1 plans.2

  pub is_told : PlansImage request list disk later sources drained (Ok planned) → IsTold
  is_told plans = by_seen plans.0 plans.1 plans.2 where
    by_seen : (answer : Result Seen Refusal) → ReadsImage request.sector request.empty disk later answer
        → PlansSeen request list answer sources drained (Ok planned) → IsTold
    by_seen (Err refusal) reads e = absurd (let f : ◌≡◌ {A = Result Planned Refusal} (Ok planned) (Err refusal) = e.0 in cc)
    by_seen (Ok seen) reads plans = told_repair seen (must_repair request.size seen) refl reads plans
