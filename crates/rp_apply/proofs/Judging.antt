-- What the answer of carrying out a plan says.
use Rattle.std.proofs.Common.{◌≡◌, ℕ, ◌*◌, List, length, Some, Result, Ok, Err, refl, sym, ◌∙◌, subst}
use Rattle.std.specs.Prelude.{IsOk}
use Rattle.rp_base.specs.Faults.{Rose}
use Rattle.rp_base.specs.Plan.{IsWellFormed, Noted}
use Rattle.rp_base.specs.declared.plan.Plan.{Plan}
use Rattle.rp_base.specs.declared.plan.Role.{Role}
use Rattle.rp_base.specs.declared.plan.Role.TheVariants.{Plain, Data, Hash}
use Rattle.rp_base.specs.declared.seen.Seen.{Seen}
use Rattle.rp_disk.specs.History.{held}
use Rattle.rp_disk.specs.Made.{Past, Made, history_of}
use Rattle.rp_io.specs.declared.stored.Stored.{Stored}
use Rattle.rp_steps.specs.Contents.{NotesFit, Sources}
use Rattle.rp_steps.specs.Steps.{steps}
use Rattle.rp_step.specs.Causes.{HasDiskCause, HasSourceCause}
use Rattle.rp_step.specs.Found.{Found, outside_of}
use Rattle.rp_step.specs.Run.{MakesSteps}
use Rattle.rp_step.specs.Sourced.{sources_in}
use Rattle.rp_step.specs.declared.fault.ApplyFault.{ApplyFault}
use Rattle.rp_step.specs.declared.fault.ApplyFault.TheVariants.{DiskFault, SourceFault, SourceChanged}
use Rattle.rp_apply.specs.Commits.{ChangesAt, HasOther, HasPlannedRoot, HavePlannedRoots}
use Rattle.rp_apply.proofs.Laid.{laid}
use Rattle.rp_apply.proofs.Roots.{other_among, roots_planned, rows_planned, stops_at}

module _ (seen : Seen) (plan : Plan) (formed : IsWellFormed seen plan) (fit : NotesFit plan) where
  -- a source has changed exactly where a tree's root hash isn't the planned one
  pub changes_at : {T : Type 0} (paths : List (List ℕ)) (files : List Stored) (first : Past) (founds : List Found) (old new : List Made) (result : Result T ApplyFault)
      → MakesSteps plan (outside_of (Some files) paths (Some first)) (steps plan seen) founds old new result
      → length (held (history_of first old)) ≡ 512 * seen.sectors → ChangesAt plan (sources_in files paths) result
  changes_at paths files first founds old new (Ok value) makes long =
      let outside = outside_of (Some files) paths (Some first) in
      let on = laid plan (sources_in files paths) seen formed fit (held (history_of first old)) long in
      record {
        planned = rows_planned seen plan formed (sources_in files paths)
            (roots_planned plan outside files first refl refl old founds (steps plan seen) makes.found_are on makes.roots);
        changed = tt;
      }
  changes_at paths files first founds old new (Err DiskFault) makes long = record { planned = tt; changed = tt }
  changes_at paths files first founds old new (Err SourceFault) makes long = record { planned = tt; changed = tt }
  changes_at paths files first founds old new (Err (SourceChanged planned copied)) makes long =
      let outside = outside_of (Some files) paths (Some first) in
      let on = laid plan (sources_in files paths) seen formed fit (held (history_of first old)) long in
      record {
        planned = tt;
        changed = other_among seen plan formed (sources_in files paths) planned copied
            (stops_at plan outside files first refl refl old new founds (steps plan seen) planned copied makes.found_are on makes.changed);
      }

-- no tree has both the planned root hash and another
clash : (plan : Plan) (sources : Sources) (planned copied : List ℕ) (role : Role) → HasPlannedRoot plan sources role → HasOther plan sources planned copied role → ⊥
clash plan sources planned copied (Hash partner blocks salt uuid root) has other = other.2 (other.1 ∙ has ∙ sym other.0)
clash plan sources planned copied Plain has other = other
clash plan sources planned copied (Data partner hash) has other = other

-- where no count rises and each tree is planned with its root hash, the answer is Ok
pub complete : {T : Type 0} (plan : Plan) (sources : Sources) (disk_before disk_now sources_before sources_now : ℕ) (result : Result T ApplyFault)
    → HasDiskCause disk_before disk_now result → HasSourceCause sources_before sources_now result → ChangesAt plan sources result
    → HavePlannedRoots plan sources → ¬ Rose disk_before disk_now → ¬ Rose sources_before sources_now → IsOk result
complete plan sources disk_before disk_now sources_before sources_now (Ok value) disk source changes roots still quiet = refl
complete plan sources disk_before disk_now sources_before sources_now (Err DiskFault) disk source changes roots still quiet = absurd (still disk.1)
complete plan sources disk_before disk_now sources_before sources_now (Err SourceFault) disk source changes roots still quiet = absurd (quiet source.1)
complete plan sources disk_before disk_now sources_before sources_now (Err (SourceChanged planned copied)) disk source changes roots still quiet =
    let any = changes.changed in
    let has : HasPlannedRoot plan sources any.1.1.role = subst (λ (n : Noted). HasPlannedRoot plan sources n.1.role) any.3 (roots any.0 any.1 any.2) in
    absurd (clash plan sources planned copied any.1.1.role has any.4)
