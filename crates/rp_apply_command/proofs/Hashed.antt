-- What is planned by sources that tell has their root hashes.
use Rattle.std.proofs.Common.{◌≡◌, ℕ, ◌%◌, ◌^◌, ◌≤◌, Bool, true, false, List, Option, Some, None, Result, Ok, Err, refl, sym, subst}
use Rattle.std.specs.Prelude.{IfSome}
use Rattle.rp_apply.specs.Commits.{HavePlannedRoots}
use Rattle.rp_apply.specs.Sourced.{paths_of}
use Rattle.rp_base.specs.Geometry.{IsSector}
use Rattle.rp_base.specs.Plan.{IsTarget}
use Rattle.rp_base.specs.Table.{IsWhole}
use Rattle.rp_base.specs.declared.seen.Seen.{Seen}
use Rattle.rp_defs.specs.WellFormed.{IsWellFormed}
use Rattle.rp_defs.specs.declared.definition.Definition.{Definition}
use Rattle.rp_disk.specs.History.{held}
use Rattle.rp_disk.specs.Made.{history_of}
use Rattle.rp_gpt.specs.Shown.{accepted}
use Rattle.rp_idle.proofs.Public.{plannable}
use Rattle.rp_io.specs.declared.stored.Stored.{Stored}
use Rattle.rp_outcome.specs.Device.{Device}
use Rattle.rp_outcome.specs.Refusals.{Refusal, repair_refusal}
use Rattle.rp_outcome.specs.Store.{Store}
use Rattle.rp_plan.specs.Goal.{goal}
use Rattle.rp_planned.specs.Planning.{PlansImage, must_repair, planned_of, planned_unless, seen_of, target_of}
use Rattle.rp_planned.specs.declared.planned.Planned.{Planned}
use Rattle.rp_planned.specs.declared.request.Request.{Request}
use Rattle.rp_planned.proofs.Target.{target_is}
use Rattle.rp_reading.specs.Stages.{and_then}
use Rattle.rp_roots.proofs.Public.{goal_has_roots}
use Rattle.rp_sizes.specs.Facts.{facts}
use Rattle.rp_step.specs.Sourced.{sources_in}
use Rattle.rp_apply_command.specs.Carrying.{HasToldRoots}
use Rattle.rp_apply_command.proofs.Goals.{accepted_of, goal_by, is_told, told_same}

module _ (request : Request) (list : List Definition) (files : List Stored) (planned : Planned) (of_sector : IsSector request.sector)
    (whole : request.size % 4096 ≡ 0) (most : request.size ≤ 2 ^ 44) (formed : IsWellFormed list) where
  abbrev Rooted : Type 0
  Rooted = HavePlannedRoots planned.plan (sources_in files (paths_of list))

  by_repair : (image : List ℕ) (seen : Seen) (b : Bool) → accepted request.sector image request.empty ≡ Ok seen
      → planned_unless b request list files seen ≡ Ok planned → Rooted
  by_repair image seen true at is = absurd (let f : ◌≡◌ {A = Result Planned Refusal} (Err repair_refusal) (Ok planned) = is in cc)
  by_repair image seen false at is =
      let can = plannable request.sector image request.empty seen of_sector at in
      let sectors : IsWhole request.sector seen.sectors = subst (λ (s : ℕ). IsWhole s seen.sectors) can.1 can.0.whole in
      let aim = target_is request.sector request.size seen of_sector whole most sectors can.0.most in
      goal_has_roots seen (target_of request.size seen) list files request.seed planned.plan can.0
      (subst (λ (s : ℕ). IsTarget s seen.sectors (target_of request.size seen)) (sym can.1) aim) formed
      (goal_by request list seen (facts request.seed files seen.shown list) planned
      (goal seen (target_of request.size seen) list (facts request.seed files seen.shown list) request.seed) is).0

  by_seen : (image : List ℕ) (r : Result Seen Refusal) → seen_of request.sector request.empty image ≡ r
      → and_then r (λ seen. planned_unless (must_repair request.size seen) request list files seen) ≡ Ok planned → Rooted
  by_seen image (Err refusal) at is = absurd (let f : ◌≡◌ {A = Result Planned Refusal} (Err refusal) (Ok planned) = is in cc)
  by_seen image (Ok seen) at is =
      by_repair image seen (must_repair request.size seen) (accepted_of (accepted request.sector image request.empty) seen at) is

-- what is planned for an image and sources has their root hashes
pub planned_roots : (request : Request) (list : List Definition) (image : List ℕ) (files : List Stored) (planned : Planned)
    → IsSector request.sector → request.size % 4096 ≡ 0 → request.size ≤ 2 ^ 44 → IsWellFormed list
    → planned_of request list image files ≡ Ok planned → HavePlannedRoots planned.plan (sources_in files (paths_of list))
planned_roots request list image files planned of_sector whole most formed is =
    by_seen request list files planned of_sector whole most formed image (seen_of request.sector request.empty image) refl is

-- so has what is planned for a disk, where sources tell
module _ (request : Request) (list : List Definition) (disk later : Device) (sources drained : Store (List Stored)) (planned : Planned)
    (of_sector : IsSector request.sector) (whole : request.size % 4096 ≡ 0) (most : request.size ≤ 2 ^ 44) (formed : IsWellFormed list) where
  abbrev RootsAt : Option (List Stored) → Type 0
  RootsAt t = IfSome t (λ files. HavePlannedRoots planned.plan (sources_in files (paths_of list)))

  roots_each : (image : List ℕ) (t : Option (List Stored)) → IfSome t (λ files. planned_of request list image files ≡ Ok planned) → RootsAt t
  roots_each image None is = tt
  roots_each image (Some files) is = planned_roots request list image files planned of_sector whole most formed is

  pub told_roots : PlansImage request list disk later sources drained (Ok planned) → HasToldRoots list planned later drained
  told_roots plans = λ past can.
      subst RootsAt (sym (told_same request list disk later sources drained planned plans))
      (roots_each (held (history_of past disk.calls)) sources.told (is_told request list disk later sources drained planned plans past can))
