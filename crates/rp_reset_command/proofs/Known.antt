-- What is known where there is a plan behind a reset.
use Rattle.std.proofs.Common.{◌≡◌, Bool, true, false, List, [], ◌∷◌, Option, Result, Ok, Err, refl, sym, subst, inl, inr, arith}
use Rattle.rp_base.specs.declared.plan.Plan.{Plan}
use Rattle.rp_base.specs.declared.seen.Seen.{Seen}
use Rattle.rp_defs.specs.declared.definition.Definition.{Definition}
use Rattle.rp_demand.specs.declared.demand.Demand.{Demand}
use Rattle.rp_disk.specs.Device.{CanHave, Measured}
use Rattle.rp_disk.specs.Made.{Past}
use Rattle.rp_disk.proofs.Noting.{earlier_same}
use Rattle.rp_io.specs.declared.stored.Stored.{Stored}
use Rattle.rp_outcome.specs.Demands.{demand_refusal}
use Rattle.rp_outcome.specs.Device.{Device}
use Rattle.rp_outcome.specs.Refusals.{Refusal, disk_refusal, memory_refusal, repair_refusal}
use Rattle.rp_outcome.specs.Store.{Store}
use Rattle.rp_plan.specs.Goal.{goal}
use Rattle.rp_planned.specs.Planning.{AsksSources, PlansBy, PlansImage, PlansUnless, ReadsImage, must_repair, target_of}
use Rattle.rp_planned.specs.declared.planned.Planned.{Planned}
use Rattle.rp_planned.specs.declared.request.Request.{Request}
use Rattle.rp_reading.specs.Stages.{refused}
use Rattle.rp_reset.specs.Reset.{reset as reset_of}
use Rattle.rp_sizes.specs.declared.need.Fact.{Fact}
use Rattle.rp_apply_command.proofs.Goals.{goal_by}
use Rattle.rp_gpt.specs.Accepted.{IsSeen}
use Rattle.rp_reset_command.specs.Renewing.{RenewsBehind, RenewsImage, RenewsLeft, RenewsSeen, RenewsUnless, ResetsSeen, renewed, renewed_by, seen_left}
use Rattle.rp_reset_command.specs.declared.renewal.Renewal.{Renewal}

-- the image was read, and needs no repair; the reset is that of what was seen, and the plan is one over what it leaves
pub record Known (request : Request) (list : List Definition) (disk later : Device) (sources drained : Store (List Stored)) (renewal : Renewal) : Type 0 where
  pub reads : ReadsImage request.sector request.empty disk later (Ok renewal.seen)
  pub repaired : must_repair request.size renewal.seen ≡ false
  pub made : reset_of renewal.seen list ≡ Ok renewal.reset
  pub plans : PlansUnless false request list (seen_left renewal.seen renewal.reset) sources drained (Ok renewal.planned)

-- no answer is a refusal
no_err : {T : Type 0} (value : T) (refusal : Refusal) → ◌≡◌ {A = Result T Refusal} (Ok value) (Err refusal) → ⊥
no_err value refusal e = absurd (cc)

same_ok : {T : Type 0} (a b : T) → ◌≡◌ {A = Result T Refusal} (Ok a) (Ok b) → a ≡ b
same_ok a b e = cc

-- the reset of an answer that isn't refused
pub told_reset : (list : List Definition) (r : Result (Option Plan) Demand) (reset : Option Plan)
    → ◌≡◌ {A = Result (Option Plan) Refusal} (Ok reset) (refused (demand_refusal list) r) → r ≡ Ok reset
told_reset list (Ok other) reset e = cc
told_reset list (Err demand) reset e = absurd (cc)

module _ (request : Request) (list : List Definition) (disk later : Device) (sources drained : Store (List Stored)) (renewal : Renewal) where
  abbrev All : Type 0
  All = Known request list disk later sources drained renewal

  by_planned : (seen : Seen) (reset : Option Plan) (planned : Result Planned Refusal) → ReadsImage request.sector request.empty disk later (Ok seen)
      → must_repair request.size seen ≡ false → reset_of seen list ≡ Ok reset
      → PlansUnless false request list (seen_left seen reset) sources drained planned → Ok renewal ≡ renewed_by seen reset planned → All
  by_planned seen reset (Err refusal) reads repaired made plans e = absurd (no_err renewal refusal e)
  by_planned seen reset (Ok planned) reads repaired made plans e =
      subst (Known request list disk later sources drained) (sym (same_ok renewal (renewed seen reset planned) e))
      (record { reads = reads; repaired = repaired; made = made; plans = plans })

  by_left : (seen : Seen) (reset : Option Plan) → ReadsImage request.sector request.empty disk later (Ok seen)
      → must_repair request.size seen ≡ false → reset_of seen list ≡ Ok reset → RenewsLeft request list seen reset sources drained (Ok renewal) → All
  by_left seen reset reads repaired made (inl (e, same)) = absurd (no_err renewal memory_refusal e)
  by_left seen reset reads repaired made (inr (planned, plans, e)) = by_planned seen reset planned reads repaired made plans e

  by_reset : (seen : Seen) (reset : Result (Option Plan) Refusal) → ReadsImage request.sector request.empty disk later (Ok seen)
      → must_repair request.size seen ≡ false → ResetsSeen list seen reset → RenewsBehind request list seen reset sources drained (Ok renewal) → All
  by_reset seen (Err refusal) reads repaired resets (e, same) = absurd (no_err renewal refusal e)
  by_reset seen (Ok reset) reads repaired (inl is) left = by_left seen reset reads repaired (told_reset list (reset_of seen list) reset is) left
  by_reset seen (Ok reset) reads repaired (inr e) left = absurd (no_err reset memory_refusal e)

  by_repair : (seen : Seen) (b : Bool) → must_repair request.size seen ≡ b → ReadsImage request.sector request.empty disk later (Ok seen)
      → RenewsUnless b request list seen sources drained (Ok renewal) → All
  by_repair seen true is reads (e, same) = absurd (no_err renewal repair_refusal e)
  by_repair seen false is reads (reset, resets, behind) = by_reset seen reset reads is resets behind

  by_seen : (seen : Result Seen Refusal) → ReadsImage request.sector request.empty disk later seen
      → RenewsSeen request list seen sources drained (Ok renewal) → All
  by_seen (Err refusal) reads (e, same) = absurd (no_err renewal refusal e)
  by_seen (Ok seen) reads renews = by_repair seen (must_repair request.size seen) refl reads renews

  pub known : RenewsImage request list disk later sources drained (Ok renewal) → All
  known renews = by_seen renews.0 renews.1 renews.2

-- a plan over what is left is the goal by facts of the sources
pub record Aimed (request : Request) (list : List Definition) (left : Seen) (sources drained : Store (List Stored)) (planned : Planned) : Type 0 where
  pub facts : List Fact
  pub asks : AsksSources request.seed left.shown list sources drained (Ok facts)
  pub same : planned.seen ≡ left
  pub is : goal left (target_of request.size left) list facts request.seed ≡ Ok planned.plan

module _ (request : Request) (list : List Definition) (left : Seen) (sources drained : Store (List Stored)) (planned : Planned) where
  by_facts : (known : Result (List Fact) Refusal) → AsksSources request.seed left.shown list sources drained known
      → PlansBy request list left known (Ok planned) → Aimed request list left sources drained planned
  by_facts (Err refusal) asks e = absurd (no_err planned refusal e)
  by_facts (Ok facts) asks (inl e) =
      let is = goal_by request list left facts planned (goal left (target_of request.size left) list facts request.seed) (sym e) in
      record { facts = facts; asks = asks; same = is.1; is = is.0 }
  by_facts (Ok facts) asks (inr e) = absurd (no_err planned memory_refusal e)

  pub aimed : PlansUnless false request list left sources drained (Ok planned) → Aimed request list left sources drained planned
  aimed plans = by_facts plans.0 plans.1 plans.2

-- a disk whose answers are those of no past
abbrev pub blind : Device
blind = record { calls = []; answers = Measured [] 0 ∷ Measured [] 1 ∷ []; faults = 0 }

not_blind : (past : Past) → CanHave past blind → ⊥
not_blind past can = let none = can.answers.0 in let one = can.answers.1.0 in omega (arith, none, one)

-- what is seen of an image might have been read from it
pub seen_blind : (request : Request) (left : Seen) → IsSeen request.sector left → ReadsImage request.sector request.empty blind blind (Ok left)
seen_blind request left is = record {
  only_read = record { calls = refl; earlier = earlier_same blind; inside = λ past can. refl };
  settled = λ past can. absurd (not_blind past can);
  seen = is;
  refusal = tt;
  cause = record { failed = λ e. absurd (no_err left disk_refusal e); kept = inr refl };
}

-- so that what is planned over what is left is planned as for an image of which nothing more is known
pub plans_blind : (request : Request) (list : List Definition) (left : Seen) (sources drained : Store (List Stored)) (answer : Result Planned Refusal)
    → IsSeen request.sector left → must_repair request.size left ≡ false → PlansUnless false request list left sources drained answer
    → PlansImage request list blind blind sources drained answer
plans_blind request list left sources drained answer is repaired plans = (
  Ok left,
  seen_blind request left is,
  subst (λ (b : Bool). PlansUnless b request list left sources drained answer) (sym repaired) plans,
)
