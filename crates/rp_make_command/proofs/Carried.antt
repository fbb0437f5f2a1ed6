-- What a stage answers, by its call.
use Rattle.std.proofs.Common.{◌≡◌, ◌∙◌, ℕ, All, IfSome, List, Bool, true, false, Result, Ok, Err, refl, sym, ap, subst, inl, inr}
use Rattle.rp_apply.specs.Ready.{IsReadyFor}
use Rattle.rp_apply.specs.Sourced.{paths_of}
use Rattle.rp_apply.specs.declared.ready.Ready.{Ready}
use Rattle.rp_apply_command.proofs.Carried.{outcome_of as told_outcome, refusal_of as told_refusal}
use Rattle.rp_apply_command.proofs.Goals.{goal_by}
use Rattle.rp_defs.specs.declared.definition.Definition.{Definition}
use Rattle.rp_base.specs.declared.plan.Plan.{Plan}
use Rattle.rp_base.specs.declared.seen.Seen.{Seen}
use Rattle.rp_defs.specs.declared.definition.Definitions.{Definitions}
use Rattle.rp_step.specs.Found.{HasFile}
use Rattle.rp_steps.specs.Steps.{steps}
use Rattle.rp_steps.specs.declared.step.Step.{Step}
use Rattle.rp_gpt.specs.Accepted.{IsSeen}
use Rattle.rp_io.specs.declared.stored.Stored.{Stored}
use Rattle.rp_outcome.specs.Device.{Device}
use Rattle.rp_outcome.specs.Refusals.{Refusal, repair_refusal}
use Rattle.rp_outcome.specs.Store.{Store}
use Rattle.rp_plan.specs.Goal.{goal}
use Rattle.rp_planned.specs.Planning.{PlansBy, PlansImage, PlansSeen, PlansUnless, ReadsImage, must_repair, target_of}
use Rattle.rp_planned.specs.declared.planned.Planned.{Planned}
use Rattle.rp_planned.specs.declared.request.Request.{Request}
use Rattle.rp_sizes.specs.declared.need.Fact.{Fact}
use Rattle.rp_step.specs.declared.fault.ApplyFault.{ApplyFault}
use Rattle.rp_step.specs.declared.fault.ApplyFault.TheVariants.{DiskFault, SourceFault, SourceChanged}
use Rattle.rp_make_command.specs.Makes.{SourcesStay, refusal_of}

same_refusal : (fault : ApplyFault) → told_refusal fault ≡ refusal_of fault
same_refusal DiskFault = refl
same_refusal SourceFault = refl
same_refusal (SourceChanged planned copied) = refl

-- the answer where the plan was carried out, and where it wasn't
pub as_done : {T : Type 0} (result : Result T ApplyFault) (value : T) → result ≡ Ok value → told_outcome result ≡ Ok tt
as_done result value is = ap told_outcome is

pub as_refused : {T : Type 0} (result : Result T ApplyFault) (fault : ApplyFault) → result ≡ Err fault
    → told_outcome result ≡ Err (refusal_of fault)
as_refused result fault is = ap told_outcome is ∙ ap (λ (r : Refusal). Err r) (same_refusal fault)

-- what is said of a plan that can be carried out is said of the plan
pub stays : (definitions : Definitions) (planned : Planned) (before now : Store (List Stored)) (ready : Ready)
    → IsReadyFor planned.plan planned.seen definitions.list ready
    → IfSome before.told (λ files. All (HasFile files ready.paths) ready.steps → now.strays ≡ before.strays)
    → SourcesStay definitions planned before now
stays definitions planned before now ready is =
    let P : List (List ℕ) → List Step → Type 0 = λ paths taken. IfSome before.told (λ files. All (HasFile files paths) taken → now.strays ≡ before.strays) in
    let taken : ready.steps ≡ steps planned.plan planned.seen =
    is.ready_is.steps ∙ ap (λ (p : Plan). steps p ready.seen) is.plan_is ∙ ap (λ (s : Seen). steps planned.plan s) is.seen_is in
    λ stays. subst (λ (l : List Step). P (paths_of definitions.list) l) taken
    (subst (λ (paths : List (List ℕ)). P paths ready.steps) is.paths_are stays)

-- what was seen of the image for which something is planned
module _ (request : Request) (list : List Definition) (disk later : Device) (sources drained : Store (List Stored)) (planned : Planned) where
  by_facts : (seen : Seen) (known : Result (List Fact) Refusal) → IsSeen request.sector seen → PlansBy request list seen known (Ok planned)
      → IsSeen request.sector planned.seen
  by_facts seen (Err refusal) is e = absurd (cc)
  by_facts seen (Ok facts) is (inl e) =
      subst (IsSeen request.sector) (sym (goal_by request list seen facts planned (goal seen (target_of request.size seen) list facts request.seed)
      (sym e)).1) is
  by_facts seen (Ok facts) is (inr e) = absurd (cc)

  by_repair : (seen : Seen) (b : Bool) → IsSeen request.sector seen → PlansUnless b request list seen sources drained (Ok planned)
      → IsSeen request.sector planned.seen
  by_repair seen true is e = absurd (let f : ◌≡◌ {A = Result Planned Refusal} (Ok planned) (Err repair_refusal) = e.0 in cc)
  by_repair seen false is plans = by_facts seen plans.0 is plans.2

  by_seen : (answer : Result Seen Refusal) → ReadsImage request.sector request.empty disk later answer
      → PlansSeen request list answer sources drained (Ok planned) → IsSeen request.sector planned.seen
  by_seen (Err refusal) reads e = absurd (let f : ◌≡◌ {A = Result Planned Refusal} (Ok planned) (Err refusal) = e.0 in cc)
  by_seen (Ok seen) reads plans = by_repair seen (must_repair request.size seen) reads.seen plans

  pub seen_of_plan : PlansImage request list disk later sources drained (Ok planned) → IsSeen planned.seen.shown.sector planned.seen
  seen_of_plan plans =
      let is = by_seen plans.0 plans.1 plans.2 in
      subst (λ sector. IsSeen sector planned.seen) (sym is.of_sector) is
