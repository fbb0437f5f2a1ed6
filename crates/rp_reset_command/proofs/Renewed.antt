-- What planning with a reset answers, by where it ends.
use Rattle.std.proofs.Common.{◌≡◌, Bool, true, false, List, Option, Result, Ok, Err, refl, sym, ap, subst, inl, inr}
use Rattle.rp_base.specs.Answers.{Gives}
use Rattle.rp_base.specs.declared.plan.Plan.{Plan}
use Rattle.rp_base.specs.declared.seen.Seen.{Seen}
use Rattle.rp_defs.specs.declared.definition.Definition.{Definition}
use Rattle.rp_demand.specs.declared.demand.Demand.{Demand}
use Rattle.rp_demand.specs.declared.demand.Demand.TheVariants as demands
use Rattle.rp_io.specs.declared.stored.Stored.{Stored}
use Rattle.rp_outcome.specs.Demands.{demand_refusal}
use Rattle.rp_outcome.specs.Refusals.{Refusal, repair_refusal}
use Rattle.rp_outcome.specs.Store.{Store}
use Rattle.rp_planned.specs.Planning.{PlansUnless, must_repair}
use Rattle.rp_planned.specs.declared.planned.Planned.{Planned}
use Rattle.rp_planned.specs.declared.request.Request.{Request}
use Rattle.rp_reading.specs.Stages.{refused}
use Rattle.rp_reset.specs.Reset.{reset as reset_of}
use Rattle.rp_reset_command.proofs.Left.{no_repair}
use Rattle.rp_reset_command.specs.Renewing.{RenewsLeft, RenewsUnless, renewed_by, seen_left}
use Rattle.rp_reset_command.specs.declared.renewal.Renewal.{Renewal}

-- a reset that was planned is the definition's
pub reset_told : (seen : Seen) (list : List Definition) (reset : Option Plan) → Gives demands.Memory (reset_of seen list) (Ok reset)
    → reset_of seen list ≡ Ok reset
reset_told seen list reset (inl same) = sym same
reset_told seen list reset (inr want) = absurd (no_err want) where
  no_err : ◌≡◌ {A = Result (Option Plan) Demand} (Ok reset) (Err demands.Memory) → ⊥
  no_err e = absurd (cc)

module _ (request : Request) (list : List Definition) (seen : Seen) (sources drained : Store (List Stored)) (repair : Bool) where
  -- the image has to be repaired first
  pub repair_first : repair ≡ true → RenewsUnless repair request list seen sources sources (Err repair_refusal)
  repair_first e = subst (λ (b : Bool). RenewsUnless b request list seen sources sources (Err repair_refusal)) (sym e) (refl, refl)

  -- the reset is refused
  pub not_reset : (demand : Demand) → repair ≡ false → Gives demands.Memory (reset_of seen list) (Err demand)
      → RenewsUnless repair request list seen sources sources (Err (demand_refusal list demand))
  not_reset demand e gives =
      subst (λ (b : Bool). RenewsUnless b request list seen sources sources (Err (demand_refusal list demand))) (sym e)
      (by gives) where
        by : Gives demands.Memory (reset_of seen list) (Err demand)
            → RenewsUnless false request list seen sources sources (Err (demand_refusal list demand))
        by (inl same) = (Err (demand_refusal list demand), inl (ap (refused (demand_refusal list)) same), (refl, refl))
        by (inr want) = (Err (demand_refusal list demand), inr (ap (refused (demand_refusal list)) want), (refl, refl))

  -- there is a plan of the reset, or none is needed
  pub reset_by : (reset : Option Plan) (answer : Result Renewal Refusal) → repair ≡ false → reset_of seen list ≡ Ok reset
      → RenewsLeft request list seen reset sources drained answer → RenewsUnless repair request list seen sources drained answer
  reset_by reset answer e is left =
      subst (λ (b : Bool). RenewsUnless b request list seen sources drained answer) (sym e)
      (Ok reset, inl (ap (refused (demand_refusal list)) (sym is)), left)

-- it is planned over what is left
pub left_planned : (request : Request) (list : List Definition) (seen left : Seen) (reset : Option Plan) (sources drained : Store (List Stored))
    (planned : Result Planned Refusal) → left ≡ seen_left seen reset → must_repair request.size seen ≡ false
    → PlansUnless (must_repair request.size left) request list left sources drained planned
    → RenewsLeft request list seen reset sources drained (renewed_by seen reset planned)
left_planned request list seen left reset sources drained planned is repaired plans =
    let there : PlansUnless (must_repair request.size (seen_left seen reset)) request list (seen_left seen reset) sources drained planned =
    subst (λ (s : Seen). PlansUnless (must_repair request.size s) request list s sources drained planned) is plans in
    inr (
      planned,
      subst (λ (b : Bool). PlansUnless b request list (seen_left seen reset) sources drained planned) (no_repair request.size seen reset repaired) there,
      refl,
    )
