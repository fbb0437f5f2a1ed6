-- What planning answers, by where it ends.
use Rattle.std.proofs.Common.{ℕ, ◌≡◌, ◌⊎◌, ◌∙◌, Bool, true, false, subst, List, Option, Some, None, Result, Ok, Err, IfSome, refl, sym, ap, inl, inr, arith}
use Rattle.rp_base.specs.Answers.{Gives}
use Rattle.rp_base.specs.Faults.{Rose}
use Rattle.rp_base.specs.declared.guid.Guid.{Guid}
use Rattle.rp_base.specs.declared.plan.Plan.{Plan}
use Rattle.rp_base.specs.declared.seen.Seen.{Seen}
use Rattle.rp_base.specs.declared.table.Table.{Table}
use Rattle.rp_defs.specs.declared.definition.Definition.{Definition}
use Rattle.rp_demand.specs.declared.demand.Demand.{Demand}
use Rattle.rp_demand.specs.declared.demand.Demand.TheVariants as demands
use Rattle.rp_disk.specs.History.{History, held}
use Rattle.rp_disk.specs.Made.{history_of}
use Rattle.rp_gpt.specs.Accepted.{IsSeen}
use Rattle.rp_gpt.specs.Shown.{accepted}
use Rattle.rp_gpt.specs.declared.table_fault.Empty.{Empty}
use Rattle.rp_gpt.specs.declared.table_fault.TableFault.{TableFault}
use Rattle.rp_gpt.specs.declared.table_fault.TableFault.TheVariants as faults
use Rattle.rp_outcome.specs.Demands.{demand_refusal}
use Rattle.rp_outcome.specs.Device.{Device, IsOnlyRead, Known}
use Rattle.rp_outcome.specs.Refusals.{Refusal, disk_refusal, repair_refusal, table_refusal}
use Rattle.rp_outcome.specs.Store.{Store}
use Rattle.rp_plan.specs.Goal.{goal}
use Rattle.rp_planned.specs.Planning.{AsksSources, IsImageRefusal, PlansBy, PlansUnless, ReadsImage, seen_of, target_of, with_seen}
use Rattle.rp_planned.specs.declared.planned.Planned.{Planned}
use Rattle.rp_planned.specs.declared.request.Request.{Request}
use Rattle.rp_reading.specs.Stages.{Settles, and_then, refused}
use Rattle.rp_io.specs.declared.stored.Stored.{Stored}
use Rattle.rp_sizes.specs.Needs.{AreFactsOn, wanted_of}
use Rattle.rp_sizes.specs.declared.need.Fact.{Fact}

-- refusals of two statuses differ
differ : {P T : Type 0} (a b : Refusal) (m n : ℕ) → ◌≡◌ {A = Result T Refusal} (Err a) (Err b) → a.status ≡ m → b.status ≡ n → (m ≡ n → ⊥) → P
differ {T = T} a b m n e is_m is_n apart = absurd (apart (sym is_m ∙ ap (λ (r : Refusal). r.status) (same e) ∙ is_n)) where
  same : ◌≡◌ {A = Result T Refusal} (Err a) (Err b) → a ≡ b
  same e = cc

-- the status of a fault of an image: a failure of the disk, want of memory, or the image's
status_of : (fault : TableFault) → (fault ≡ faults.Disk) ⊎ (fault ≡ faults.Memory) ⊎ ((table_refusal fault).status ≡ 4)
status_of faults.Disk = inl refl
status_of (faults.TooLong len) = inr (inr refl)
status_of (faults.TooShort len) = inr (inr refl)
status_of faults.ArrayPlace = inr (inr refl)
status_of (faults.EntryCount count size) = inr (inr refl)
status_of (faults.OtherTable kind) = inr (inr refl)
status_of faults.NoTable = inr (inr refl)
status_of faults.NotEmpty = inr (inr refl)
status_of (faults.Bounds first last) = inr (inr refl)
status_of (faults.RowRange slot) = inr (inr refl)
status_of (faults.Overlap a b) = inr (inr refl)
status_of faults.Memory = inr (inl refl)

settled_image : (sector : ℕ) (empty : Empty) (told : Option History) (result : Result Seen TableFault)
    → IfSome told (λ h. (result ≡ Err faults.Disk) ⊎ Gives faults.Memory (accepted sector (held h) empty) result)
    → IfSome told (λ h. Settles disk_refusal (seen_of sector empty (held h)) (refused table_refusal result))
settled_image sector empty None result answer = tt
settled_image sector empty (Some h) result (inl failed) = inr (inl (ap (refused table_refusal) failed))
settled_image sector empty (Some h) result (inr (inl same)) = inl (ap (refused table_refusal) same)
settled_image sector empty (Some h) result (inr (inr want)) = inr (inr (ap (refused table_refusal) want))

refusal_image : (fault : TableFault) → IsImageRefusal (table_refusal fault)
refusal_image fault = elim (status_of fault) [
  | inl disk ↦ inr (inl (ap table_refusal disk))
  | inr (inl want) ↦ inr (inr (ap table_refusal want))
  | inr (inr image) ↦ inl image
]

failed_image : (before now : ℕ) (fault : TableFault) → (◌≡◌ {A = Result Seen TableFault} (Err fault) (Err faults.Disk) → Rose before now)
    → ◌≡◌ {A = Result Seen Refusal} (Err (table_refusal fault)) (Err disk_refusal) → Rose before now
failed_image before now fault rose e = elim (status_of fault) [
  | inl disk ↦ rose (ap Err disk)
  | inr (inl want) ↦
      differ (table_refusal fault) disk_refusal 10 7 e (ap (λ (f : TableFault). (table_refusal f).status) want) refl (λ h. omega arith)
  | inr (inr image) ↦ differ (table_refusal fault) disk_refusal 4 7 e image refl (λ h. omega arith)
]

kept_image : (before now : ℕ) (result : Result Seen TableFault) → (result ≡ Err faults.Disk) ⊎ (now ≡ before)
    → (refused table_refusal result ≡ Err disk_refusal) ⊎ (now ≡ before)
kept_image before now result (inl failed) = inl (ap (refused table_refusal) failed)
kept_image before now result (inr same) = inr same

-- the image was refused
pub image_refused : (sector : ℕ) (empty : Empty) (before now : Device) (fault : TableFault) → IsOnlyRead before now
    → Known before now (λ h. (◌≡◌ {A = Result Seen TableFault} (Err fault) (Err faults.Disk))
    ⊎ Gives faults.Memory (accepted sector (held h) empty) (Err fault))
    → (◌≡◌ {A = Result Seen TableFault} (Err fault) (Err faults.Disk) → Rose before.faults now.faults)
    → (◌≡◌ {A = Result Seen TableFault} (Err fault) (Err faults.Disk)) ⊎ (now.faults ≡ before.faults)
    → ReadsImage sector empty before now (Err (table_refusal fault))
image_refused sector empty before now fault only_read answer rose kept = record {
  only_read = only_read;
  settled = λ past can. settled_image sector empty (Some (history_of past before.calls)) (Err fault) (answer past can);
  seen = tt;
  refusal = refusal_image fault;
  cause = record { failed = failed_image before.faults now.faults fault rose; kept = kept_image before.faults now.faults (Err fault) kept };
}

-- the image was seen
pub image_seen : (sector : ℕ) (empty : Empty) (before now : Device) (seen : Seen) → IsOnlyRead before now
    → Known before now (λ h. (◌≡◌ {A = Result Seen TableFault} (Ok seen) (Err faults.Disk))
    ⊎ Gives faults.Memory (accepted sector (held h) empty) (Ok seen))
    → (◌≡◌ {A = Result Seen TableFault} (Ok seen) (Err faults.Disk)) ⊎ (now.faults ≡ before.faults) → IsSeen sector seen
    → ReadsImage sector empty before now (Ok seen)
image_seen sector empty before now seen only_read answer kept is = record {
  only_read = only_read;
  settled = λ past can. settled_image sector empty (Some (history_of past before.calls)) (Ok seen) (answer past can);
  seen = is;
  refusal = tt;
  cause = record { failed = λ e. absurd (no_err e); kept = kept_image before.faults now.faults (Ok seen) kept };
} where
  no_err : ◌≡◌ {A = Result Seen Refusal} (Ok seen) (Err disk_refusal) → ⊥
  no_err e = absurd (cc)

module _ (request : Request) (list : List Definition) (seen : Seen) (known : List Fact) where
  told : Result Plan Demand → Result Planned Refusal
  told result = and_then (refused (demand_refusal list) result) (λ plan. Ok (with_seen seen plan))

  -- there is a plan
  pub planned_ok : (plan : Plan) → Gives demands.Memory (goal seen (target_of request.size seen) list known request.seed) (Ok plan)
      → PlansBy request list seen (Ok known) (Ok (with_seen seen plan))
  unfolding told
  planned_ok plan (inl same) = inl (ap told same)
  planned_ok plan (inr want) = absurd (no_err want) where
    no_err : ◌≡◌ {A = Result Plan Demand} (Ok plan) (Err demands.Memory) → ⊥
    no_err e = absurd (cc)

  -- there is a demand
  pub planned_err : (demand : Demand) → Gives demands.Memory (goal seen (target_of request.size seen) list known request.seed) (Err demand)
      → PlansBy request list seen (Ok known) (Err (demand_refusal list demand))
  unfolding told
  planned_err demand (inl same) = inl (ap told same)
  planned_err demand (inr want) = inr (ap told want)

module _ (request : Request) (list : List Definition) (seen : Seen) (sources drained : Store (List Stored)) (repair : Bool) where
  -- the image has to be repaired first
  pub repair_first : repair ≡ true → PlansUnless repair request list seen sources sources (Err repair_refusal)
  repair_first e = subst (λ (b : Bool). PlansUnless b request list seen sources sources (Err repair_refusal)) (sym e) (refl, refl)

  -- the sources tell no facts
  pub unknown : (refusal : Refusal) → repair ≡ false → AsksSources request.seed seen.shown list sources drained (Err refusal)
      → PlansUnless repair request list seen sources drained (Err refusal)
  unknown refusal e asks =
      subst (λ (b : Bool). PlansUnless b request list seen sources drained (Err refusal)) (sym e) (Err refusal, asks, refl)

  -- the sources tell the facts
  pub known : (facts given : List Fact) (answer : Result Planned Refusal) → repair ≡ false
      → AsksSources request.seed seen.shown list sources drained (Ok facts) → given ≡ facts → PlansBy request list seen (Ok given) answer
      → PlansUnless repair request list seen sources drained answer
  known facts given answer e asks same plans = subst (λ (b : Bool). PlansUnless b request list seen sources drained answer) (sym e)
      (Ok facts, asks, subst (λ (fs : List Fact). PlansBy request list seen (Ok fs) answer) same plans)

-- they are facts on what is wanted
pub known_each : (seed : Guid) (table : Table) (list : List Definition) (sources drained : Store (List Stored)) (facts given : List Fact)
    → AsksSources seed table list sources drained (Ok facts) → given ≡ facts → AreFactsOn (wanted_of table list) given
known_each seed table list sources drained facts given asks same = subst (AreFactsOn (wanted_of table list)) (sym same) asks.each
