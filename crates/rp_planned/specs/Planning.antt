-- What is to become of an image, from what it shows, the definitions and their sources.
use Rattle.std.specs.Prelude.{ℕ, ◌≡◌, ◌⊎◌, ◌/◌, max, List, Bool, true, false, not, ◌&&◌, nat_lt, Any, Result, Ok, Err, IfOk, IfErr, IfSome}
use Rattle.rp_base.specs.declared.plan.Plan.{Plan}
use Rattle.rp_base.specs.declared.seen.Origin.{Origin}
use Rattle.rp_base.specs.declared.seen.Origin.TheVariants.{Primary, Backup, Neither}
use Rattle.rp_base.specs.declared.seen.Seen.{Seen}
use Rattle.rp_base.specs.declared.table.Table.{Table}
use Rattle.rp_defs.specs.declared.definition.Definition.{Definition}
use Rattle.rp_disk.specs.History.{held}
use Rattle.rp_facts.specs.Sourced.{IsMissing}
use Rattle.rp_gpt.specs.Accepted.{IsSeen}
use Rattle.rp_gpt.specs.Shown.{accepted}
use Rattle.rp_gpt.specs.declared.table_fault.Empty.{Empty}
use Rattle.rp_io.specs.declared.stored.Stored.{Stored}
use Rattle.rp_outcome.specs.Demands.{demand_refusal}
use Rattle.rp_outcome.specs.Device.{Device, IsOnlyRead, Known}
use Rattle.rp_outcome.specs.Refusals.{Refusal, disk_refusal, memory_refusal, repair_refusal, source_refusal, table_refusal}
use Rattle.rp_outcome.specs.Statuses as exit
use Rattle.rp_outcome.specs.Store.{Store}
use Rattle.rp_base.specs.declared.guid.Guid.{Guid}
use Rattle.rp_plan.specs.Goal.{goal}
use Rattle.rp_reading.specs.Stages.{HasStageCause, Settles, and_then, refused}
use Rattle.rp_planned.specs.declared.planned.Planned.{Planned}
use Rattle.rp_planned.specs.declared.planned.Unplanned.{Unplanned}
use Rattle.rp_planned.specs.declared.planned.Unplanned.TheVariants.{Image, RepairFirst, Source, Demand, Memory}
use Rattle.rp_planned.specs.declared.request.Request.{Request}
use Rattle.rp_sizes.specs.Facts.{facts}
use Rattle.rp_sizes.specs.Needs.{AreFactsOn, wanted_of}
use Rattle.rp_sizes.specs.declared.need.Fact.{Fact}

-- the length that an image is to have, in units of 512 bytes: what is asked for, where it has fewer
abbrev pub target_of : ℕ → Seen → ℕ
target_of size seen = max seen.sectors (size / 512)

abbrev pub is_primary : Origin → Bool
is_primary Primary = true
is_primary Backup = false
is_primary Neither = false

-- an image grows only where it shows its primary copy: a stop in the growth would leave no other in its place (own rule)
abbrev pub must_repair : ℕ → Seen → Bool
must_repair size seen = nat_lt seen.sectors (target_of size seen) && not (is_primary seen.origin)

-- what is seen of an image, or the refusal of its first fault
abbrev pub seen_of : ℕ → Empty → List ℕ → Result Seen Refusal
seen_of sector empty image = refused table_refusal (accepted sector image empty)

-- the plan with what was seen
abbrev pub with_seen : Seen → Plan → Planned
with_seen seen plan = record { seen = seen; plan = plan }

-- what is planned by these facts, or the refusal of the first demand
abbrev pub planned_by : Request → List Definition → Seen → List Fact → Result Planned Refusal
planned_by request list seen known =
    and_then (refused (demand_refusal list) (goal seen (target_of request.size seen) list known request.seed))
    (λ plan. Ok (with_seen seen plan))

-- the same, by what the sources hold, unless the image has to be repaired first
abbrev pub planned_unless : Bool → Request → List Definition → List Stored → Seen → Result Planned Refusal
planned_unless true request list files seen = Err repair_refusal
planned_unless false request list files seen = planned_by request list seen (facts request.seed files seen.shown list)

-- what is planned for an image and these sources, or the first refusal
abbrev pub planned_of : Request → List Definition → List ℕ → List Stored → Result Planned Refusal
planned_of request list image files =
    and_then (seen_of request.sector request.empty image) (λ seen. planned_unless (must_repair request.size seen) request list files seen)

-- the refusal of a cause for which nothing is planned
abbrev pub unplanned_refusal : List Definition → Unplanned → Refusal
unplanned_refusal list (Image fault) = table_refusal fault
unplanned_refusal list RepairFirst = repair_refusal
unplanned_refusal list Source = source_refusal
unplanned_refusal list (Demand demand) = demand_refusal list demand
unplanned_refusal list Memory = memory_refusal

-- a refusal of an image: of its fault, of a disk that failed, or of want of memory
abbrev pub IsImageRefusal : Refusal → Type 0
IsImageRefusal refusal = (refusal.status ≡ exit.image) ⊎ (refusal ≡ disk_refusal) ⊎ (refusal ≡ memory_refusal)

-- the image on a disk was read, and nothing else was asked of the disk
pub record ReadsImage (sector : ℕ) (empty : Empty) (before now : Device) (answer : Result Seen Refusal) : Type 0 where
  pub only_read : IsOnlyRead before now
  pub settled : Known before now (λ h. Settles disk_refusal (seen_of sector empty (held h)) answer)
  pub seen : IfOk answer (IsSeen sector)
  pub refusal : IfErr answer IsImageRefusal
  pub cause : HasStageCause disk_refusal before.faults now.faults answer

-- the wanted sources were asked for their facts; no call strayed but one that asks for a wanted source that isn't there
pub record AsksSources (seed : Guid) (table : Table) (list : List Definition) (before now : Store (List Stored))
    (answer : Result (List Fact) Refusal) : Type 0 where
  pub told : now.told ≡ before.told
  pub strays : IfSome before.told (λ files. (now.strays ≡ before.strays)
      ⊎ ((answer ≡ Err source_refusal) × Any (IsMissing files list) (wanted_of table list)))
  pub settled : IfSome before.told (λ files. Settles source_refusal (Ok (facts seed files table list)) answer)
  pub each : IfOk answer (AreFactsOn (wanted_of table list))
  pub refusal : IfErr answer (λ refusal. (refusal ≡ source_refusal) ⊎ (refusal ≡ memory_refusal))
  pub cause : HasStageCause source_refusal before.faults now.faults answer

-- the goal by the facts, but for want of memory
abbrev pub PlansBy : Request → List Definition → Seen → Result (List Fact) Refusal → Result Planned Refusal → Type 0
PlansBy request list seen (Err refusal) answer = answer ≡ Err refusal
PlansBy request list seen (Ok known) answer = (answer ≡ planned_by request list seen known) ⊎ (answer ≡ Err memory_refusal)

-- an image that has to be repaired first is refused; else the sources are asked, and the goal is planned
abbrev pub PlansUnless : Bool → Request → List Definition → Seen → Store (List Stored) → Store (List Stored)
    → Result Planned Refusal → Type 0
PlansUnless true request list seen before now answer = (answer ≡ Err repair_refusal) × (now ≡ before)
PlansUnless false request list seen before now answer =
    (known : Result (List Fact) Refusal) × AsksSources request.seed seen.shown list before now known
    × PlansBy request list seen known answer

-- the sources aren't asked where the image is refused
abbrev pub PlansSeen : Request → List Definition → Result Seen Refusal → Store (List Stored) → Store (List Stored)
    → Result Planned Refusal → Type 0
PlansSeen request list (Err refusal) before now answer = (answer ≡ Err refusal) × (now ≡ before)
PlansSeen request list (Ok seen) before now answer = PlansUnless (must_repair request.size seen) request list seen before now answer

-- the image was read, then the sources were asked, and what is planned by both is the answer
abbrev pub PlansImage : Request → List Definition → Device → Device → Store (List Stored) → Store (List Stored)
    → Result Planned Refusal → Type 0
PlansImage request list disk later sources drained answer =
    (seen : Result Seen Refusal) × ReadsImage request.sector request.empty disk later seen
    × PlansSeen request list seen sources drained answer
