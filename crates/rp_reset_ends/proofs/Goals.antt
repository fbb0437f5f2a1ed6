-- What was planned with a factory reset is a reset of the old table, and the goal of what it leaves.
use Rattle.std.proofs.Common.{◌≡◌, ◌∙◌, ℕ, ◌%◌, ◌/◌, ◌^◌, ◌≤◌, List, [], ◌∷◌, ◌++◌, Some, Result, Ok, ap, subst}
use Rattle.std.specs.Prelude.{IfSome, max}
use Rattle.rp_apply_command.specs.Applies.{PlanFits}
use Rattle.rp_apply_command.proofs.Goals.{accepted_of, settled_ok}
use Rattle.rp_apply_command.proofs.Runs.{same_shown}
use Rattle.rp_base.specs.Geometry.{IsSector}
use Rattle.rp_base.specs.declared.plan.Plan.{Plan}
use Rattle.rp_base.specs.declared.seen.Seen.{Seen}
use Rattle.rp_defs.specs.WellFormed.{IsWellFormed}
use Rattle.rp_defs.specs.declared.definition.Definition.{Definition}
use Rattle.rp_disk.specs.Device.{CanHave}
use Rattle.rp_disk.specs.History.{held}
use Rattle.rp_disk.specs.Made.{Past, dones, history_of}
use Rattle.rp_disk.specs.declared.call.Call.TheVariants.{Sync}
use Rattle.rp_gpt.specs.Shown.{accepted}
use Rattle.rp_io.specs.declared.stored.Stored.{Stored}
use Rattle.rp_outcome.specs.Device.{Device}
use Rattle.rp_outcome.specs.Refusals.{Refusal, disk_refusal, source_refusal}
use Rattle.rp_outcome.specs.Store.{Store}
use Rattle.rp_plan.specs.Goal.{goal}
use Rattle.rp_planned.specs.Planning.{seen_of, target_of}
use Rattle.rp_planned.specs.declared.request.Request.{Request}
use Rattle.rp_planned.proofs.Target.{target_is}
use Rattle.rp_reading.specs.Stages.{Settles}
use Rattle.rp_reset.proofs.Public.{reset_is}
use Rattle.rp_reset_ends.specs.Planned.{PlansWithReset, behind_reset}
use Rattle.rp_reset_ends.specs.Ends.{AreGoalsOf, AreToldGoals}
use Rattle.rp_sizes.specs.Facts.{facts}
use Rattle.rp_sizes.specs.declared.need.Fact.{Fact}
use Rattle.rp_stops.specs.After.{seen_after}

same_facts : (a b : List Fact) → ◌≡◌ {A = Result (List Fact) Refusal} (Ok a) (Ok b) → a ≡ b
same_facts a b e = cc

module _ (request : Request) (list : List Definition) (disk opened read : Device) (sources asked : Store (List Stored)) (seen : Seen)
    (reset plan : Plan) (of_sector : IsSector request.sector) (whole : request.size % 4096 ≡ 0) (most : request.size ≤ 2 ^ 44)
    (formed : IsWellFormed list) (fits : PlanFits (behind_reset seen reset plan))
    (synced : opened.calls ≡ disk.calls ++ dones (Sync ∷ []))
    (plans : PlansWithReset request list opened read sources asked seen reset plan) where
  -- a reset keeps the length, so that the plan behind it has the same target
  same_target : target_of request.size (seen_after seen reset) ≡ target_of request.size seen
  same_target = ap (λ (p : Plan). max p.target (request.size / 512)) (reset_is seen list reset plans.reset_is)

  goal_is : goal (seen_after seen reset) (target_of request.size seen) list plans.known request.seed ≡ Ok plan
  goal_is = subst (λ n. goal (seen_after seen reset) n list plans.known request.seed ≡ Ok plan) same_target plans.goal_is

  module _ (past : Past) (can : CanHave past read) where
    -- the image as it was when the run began, since a sync changes no byte
    sight : accepted request.sector (held (history_of past disk.calls)) request.empty ≡ Ok seen
    sight =
        let now : Settles disk_refusal (seen_of request.sector request.empty (held (history_of past disk.calls))) (Ok seen) =
        subst (λ image. Settles disk_refusal (seen_of request.sector request.empty image) (Ok seen))
        (ap (λ l. held (history_of past l)) synced ∙ same_shown past disk.calls) (plans.reads.settled past can) in
        accepted_of (accepted request.sector (held (history_of past disk.calls)) request.empty) seen
        (settled_ok disk_refusal (seen_of request.sector request.empty (held (history_of past disk.calls))) seen now)

    pub are_goals : AreGoalsOf request list (held (history_of past disk.calls)) seen reset plan
    are_goals = record {
      known = plans.known;
      resets = record { of_sector = of_sector; seen_of = sight; fits = plans.reads.seen.fits; reset_is = plans.reset_is };
      planned = record {
        aim = target_is request.sector request.size seen of_sector whole most plans.reads.seen.whole plans.reads.seen.most;
        definitions = formed;
        known = plans.asks.each;
        goal_is = goal_is;
        fits = fits.table;
      };
    }

    -- where the sources tell
    pub are_told : (files : List Stored) → sources.told ≡ Some files
        → AreToldGoals request list (held (history_of past disk.calls)) files seen reset plan
    are_told files told =
        let asks : Settles source_refusal (Ok (facts request.seed files reset.goal list)) (Ok plans.known) =
        subst (λ o. IfSome o (λ files. Settles source_refusal (Ok (facts request.seed files reset.goal list)) (Ok plans.known))) told
        plans.asks.settled in
        let same = same_facts (facts request.seed files reset.goal list) plans.known
        (settled_ok source_refusal (Ok (facts request.seed files reset.goal list)) plans.known asks) in
        record {
          seen_of = sight;
          unbroken = plans.unbroken;
          reset_is = plans.reset_is;
          goal_is = ap (λ known. goal (seen_after seen reset) (target_of request.size seen) list known request.seed) same ∙ goal_is;
        }
