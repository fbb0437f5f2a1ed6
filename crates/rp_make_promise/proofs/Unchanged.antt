-- What is planned again for an image that was made, and what a refusal to plan tells.
use Rattle.std.proofs.Common.{◌≡◌, ◌⊎◌, ◌∙◌, ℕ, ◌+◌, Bool, true, false, cond, List, [], ◌∷◌, length, get_or, Option, Some, None, IsSome, Result, Ok, Err, All, arith, refl, sym, ap, subst, inl, inr}
use Rattle.std.specs.Prelude.{IfSome, ◌&&◌, is_some, nat_lt, not, option_map, slice_get}
use Rattle.std.specs.List.{cons_option, enumerate_from, filter_map}
use Rattle.std.proofs.lemmas.List.{length-map}
use Rattle.std.proofs.lemmas.List.FromFn.{length-enumerate_from}
use Rattle.rp_areas.specs.Matching.{match_of}
use Rattle.rp_apply_command.proofs.Goals.{settled_ok}
use Rattle.rp_base.specs.declared.guid.Guid.{Guid}
use Rattle.rp_base.specs.declared.plan.Plan.{Plan}
use Rattle.rp_base.specs.declared.seen.Seen.{Seen}
use Rattle.rp_check_command.specs.Checks.{check_request}
use Rattle.rp_defs.specs.declared.definition.Definition.{Definition}
use Rattle.rp_demand.specs.declared.demand.Demand.{Demand}
use Rattle.rp_disk.specs.Device.{CanHave}
use Rattle.rp_disk.specs.History.{held}
use Rattle.rp_disk.specs.Made.{Past, history_of}
use Rattle.rp_gpt.specs.declared.table_fault.TableFault.{TableFault}
use Rattle.rp_difference.specs.Difference.{difference}
use Rattle.rp_stops.specs.After.{seen_after}
use Rattle.rp_unchanged.specs.Unchanged.{IsUnchanged}
use Rattle.rp_io.specs.declared.stored.Stored.{Stored}
use Rattle.rp_outcome.specs.Demands.{demand_refusal}
use Rattle.rp_outcome.specs.Device.{Device}
use Rattle.rp_outcome.specs.Refusals.{Refusal, disk_refusal, memory_refusal, source_refusal, table_refusal}
use Rattle.rp_outcome.specs.Store.{Store}
use Rattle.rp_plan.specs.Goal.{goal}
use Rattle.rp_planned.specs.Planning.{AsksSources, PlansBy, PlansImage, PlansSeen, PlansUnless, is_primary, must_repair, planned_by, planned_of, planned_unless, seen_of, target_of, with_seen}
use Rattle.rp_planned.specs.declared.planned.Planned.{Planned}
use Rattle.rp_planned.specs.declared.request.Request.{Request}
use Rattle.rp_reading.specs.Stages.{Settles, and_then, refused}
use Rattle.rp_sizes.specs.Facts.{fact_from, facts}
use Rattle.rp_sizes.specs.Needs.{is_new, kinds_of, matched_of, need_of, wanted_of}
use Rattle.rp_sizes.specs.declared.need.Fact.{Fact}
use Rattle.rp_sizes.specs.declared.need.Need.{Need}
use Rattle.rp_types.specs.declared.arch.Arch.TheVariants.{X86_64}

pub own_target : (seen : Seen) → target_of 0 seen ≡ seen.sectors
own_target seen = grind arith

no_repair : (seen : Seen) → must_repair 0 seen ≡ false
no_repair seen =
    ap (λ (n : ℕ). nat_lt seen.sectors n && not (is_primary seen.origin)) (own_target seen)
    ∙ ap (λ (b : Bool). b && not (is_primary seen.origin)) (never seen.sectors) where
      never : (n : ℕ) → nat_lt n n ≡ false
      never n = grind arith

-- for an image that is as it was planned there is a plan, from which it differs in nothing
pub planned_again : (seed : Guid) (list : List Definition) (image : List ℕ) (files : List Stored) (seen : Seen) (plan : Plan)
    → IsUnchanged 512 image X86_64 seen plan list seed
    → (again : Planned) × (planned_of (check_request seed X86_64 512) list image files ≡ Ok again)
    × (difference image X86_64 again.seen again.plan ≡ None)
planned_again seed list image files seen plan is =
    let next = seen_after seen plan in
    let same = is.again (facts seed files next.shown list) in (
      with_seen next same.plan,
      ap (λ (r : Result Seen TableFault). and_then (refused table_refusal r)
          (λ seen. planned_unless (must_repair 0 seen) (check_request seed X86_64 512) list files seen)) is.shows
          ∙ ap (λ (b : Bool). planned_unless b (check_request seed X86_64 512) list files next) (no_repair next)
          ∙ ap (λ (r : Result Plan Demand). and_then (refused (demand_refusal list) r) (λ plan. Ok (with_seen next plan)))
          (ap (λ (t : ℕ). goal next t list (facts seed files next.shown list) seed) (own_target next) ∙ same.goal_is),
      same.same,
    )

-- a refusal to plan is the one that is told, or an object failed, or there was no memory
same_err : {T : Type 0} (a b : Refusal) → ◌≡◌ {A = Result T Refusal} (Err a) (Err b) → a ≡ b
same_err a b e = cc

same_facts : (known facts : List Fact) → Settles source_refusal (Ok facts) (Ok known) → facts ≡ known
same_facts known facts (inl same) = cc
same_facts known facts (inr (inl e)) = absurd (cc)
same_facts known facts (inr (inr e)) = absurd (cc)

module _ (request : Request) (list : List Definition) (disk later : Device) (sources drained : Store (List Stored)) (refusal : Refusal)
    (past : Past) (files : List Stored) (can : CanHave past later) (told : sources.told ≡ Some files) where
  abbrev image : List ℕ
  image = held (history_of past disk.calls)

  abbrev Untold : Type 0
  Untold = (planned_of request list (held (history_of past disk.calls)) files ≡ Err refusal)
      ⊎ (refusal ≡ disk_refusal) ⊎ (refusal ≡ source_refusal) ⊎ (refusal ≡ memory_refusal)

  behind : (seen : Seen) → seen_of request.sector request.empty image ≡ Ok seen → planned_of request list image files
      ≡ planned_unless (must_repair request.size seen) request list files seen
  behind seen is =
      ap (λ (r : Result Seen Refusal). and_then r (λ s. planned_unless (must_repair request.size s) request list files s)) is

  by_facts : (seen : Seen) (known : Result (List Fact) Refusal) → seen_of request.sector request.empty image ≡ Ok seen
      → must_repair request.size seen ≡ false → AsksSources request.seed seen.shown list sources drained known
      → PlansBy request list seen known (Err refusal) → Untold
  by_facts seen (Err other) sight none asks e =
      let same = same_err {T = Planned} refusal other e in
      elim asks.refusal [ inl failed ↦ inr (inr (inl (same ∙ failed))) | inr want ↦ inr (inr (inr (same ∙ want))) ]
  by_facts seen (Ok known) sight none asks (inr e) = inr (inr (inr (same_err {T = Planned} refusal memory_refusal e)))
  by_facts seen (Ok known) sight none asks (inl e) =
      let settles : Settles source_refusal (Ok (facts request.seed files seen.shown list)) (Ok known) =
      subst (λ (o : Option (List Stored)). IfSome o (λ files. Settles source_refusal (Ok (facts request.seed files seen.shown list)) (Ok known)))
      told asks.settled in
      inl (behind seen sight ∙ ap (λ (b : Bool). planned_unless b request list files seen) none
      ∙ ap (planned_by request list seen) (same_facts known (facts request.seed files seen.shown list) settles) ∙ sym e)

  by_repair : (seen : Seen) (b : Bool) → must_repair request.size seen ≡ b → seen_of request.sector request.empty image ≡ Ok seen
      → PlansUnless b request list seen sources drained (Err refusal) → Untold
  by_repair seen true is sight e =
      inl (behind seen sight ∙ ap (λ (b : Bool). planned_unless b request list files seen) is ∙ sym e.0)
  by_repair seen false is sight plans = by_facts seen plans.0 sight is plans.1 plans.2

  by_seen : (answer : Result Seen Refusal) → Settles disk_refusal (seen_of request.sector request.empty image) answer
      → PlansSeen request list answer sources drained (Err refusal) → Untold
  by_seen (Err other) (inl same) e =
      inl (ap (λ (r : Result Seen Refusal). and_then r (λ s. planned_unless (must_repair request.size s) request list files s)) (sym same) ∙ sym e.0)
  by_seen (Err other) (inr (inl failed)) e =
      inr (inl (same_err {T = Planned} refusal other e.0 ∙ same_err {T = Seen} other disk_refusal failed))
  by_seen (Err other) (inr (inr want)) e =
      inr (inr (inr (same_err {T = Planned} refusal other e.0 ∙ same_err {T = Seen} other memory_refusal want)))
  by_seen (Ok seen) settles plans =
      by_repair seen (must_repair request.size seen) refl
      (settled_ok disk_refusal (seen_of request.sector request.empty image) seen settles) plans

  pub untold : PlansImage request list disk later sources drained (Err refusal) → Untold
  untold plans = by_seen plans.0 (plans.1.settled past can) plans.2
