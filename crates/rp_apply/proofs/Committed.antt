-- The clauses of `commit`, from what is known of the calls.
use Rattle.std.proofs.Common.{◌≡◌, ℕ, ◌*◌, List, length, Option, Some, None, Result, Ok, Err, OnOk, refl, sym, subst}
use Rattle.std.specs.Prelude.{IfSome}
use Rattle.std.specs.Prelude.{All, Any}
use Rattle.rp_base.specs.Plan.{noted_of}
use Rattle.rp_disk.specs.History.{IsLawful, held}
use Rattle.rp_disk.specs.Made.{Past, Made, history_of, history_told}
use Rattle.rp_io.specs.declared.stored.Stored.{Stored}
use Rattle.rp_steps.specs.Steps.{steps}
use Rattle.rp_steps.specs.declared.step.Step.{Step}
use Rattle.rp_stops.proofs.Carried.{plan-given}
use Rattle.rp_step.specs.Causes.{HasDiskCause, HasSourceCause}
use Rattle.rp_step.specs.Found.{Found, outside_of}
use Rattle.rp_step.specs.Run.{AllLieIn, MakesSteps}
use Rattle.rp_step.specs.Made.{IfChanged}
use Rattle.rp_step.specs.declared.fault.ApplyFault.{ApplyFault}
use Rattle.rp_step.specs.declared.fault.ApplyFault.TheVariants.{DiskFault, SourceFault, SourceChanged}
use Rattle.rp_step.proofs.Stopping.{stopped_shown}
use Rattle.rp_apply.specs.Commits.{AnyMomentIsSafe, ChangesAtRoots, EndsFinal, IsComplete, MakesPlanned, ShowsOther, TellsShown, sources_of}
use Rattle.rp_apply.specs.Ready.{IsReady, NamesPath}
use Rattle.rp_apply.specs.declared.ready.Ready.{Ready}
use Rattle.rp_apply.proofs.Can.{can_make}
use Rattle.rp_apply.proofs.Roots.{shown_among}
use Rattle.rp_apply.proofs.Ending.{any_safe, ends_final, planned_runs}
use Rattle.rp_apply.proofs.Lying.{lies}
use Rattle.rp_apply.proofs.Judging.{changes_at, complete}

module _ (ready : Ready) (is : IsReady ready) where
  -- the steps were made that are ready
  abbrev pub Makes : {T : Type 0} → Option (List Stored) → Option Past → List Made → List Made → Result T ApplyFault → Type 0
  Makes told first old new result =
      (founds : List Found) × MakesSteps ready.plan (outside_of told ready.paths first) ready.steps founds old new result

  -- which are those of the plan
  of_plan : {T : Type 0} (told : Option (List Stored)) (first : Option Past) (old new : List Made) (result : Result T ApplyFault) → Makes told first old new result
      → (founds : List Found) × MakesSteps ready.plan (outside_of told ready.paths first) (steps ready.plan ready.seen) founds old new result
  of_plan told first old new result makes =
      let P : List Step → Type 0 = λ l. (founds : List Found) × MakesSteps ready.plan (outside_of told ready.paths first) l founds old new result in
      subst P is.steps makes

  pub planned_of : {T : Type 0} (told : Option (List Stored)) (first : Option Past) (old new : List Made) (result : Result T ApplyFault)
      → Makes told first old new result → IfSome told (λ files. MakesPlanned ready files first old new result)
  planned_of None first old new result makes = tt
  planned_of (Some files) None old new result makes = tt
  planned_of (Some files) (Some bytes) old new result makes = λ long.
      let m = of_plan (Some files) (Some bytes) old new result makes in
      planned_runs ready.seen ready.plan is.well_formed is.notes_fit ready.paths files bytes m.0 old new result m.1 long

  pub changed_of : {T : Type 0} (told : Option (List Stored)) (first : Option Past) (old new : List Made) (result : Result T ApplyFault)
      → Makes told first old new result → IfSome told (λ files. ChangesAtRoots ready files first old result)
  changed_of None first old new result makes = tt
  changed_of (Some files) None old new result makes = tt
  changed_of (Some files) (Some bytes) old new result makes = λ long.
      let m = of_plan (Some files) (Some bytes) old new result makes in
      changes_at ready.seen ready.plan is.well_formed is.notes_fit ready.paths files bytes m.0 old new result m.1 long

  pub complete_of : {T : Type 0} (told : Option (List Stored)) (first : Option Past) (old new : List Made) (a b c d : ℕ) (result : Result T ApplyFault)
      → Makes told first old new result → HasDiskCause a b result → HasSourceCause c d result
      → IfSome told (λ files. IsComplete ready files first old a b c d result)
  complete_of None first old new a b c d result makes disk source = tt
  complete_of (Some files) None old new a b c d result makes disk source = tt
  complete_of (Some files) (Some bytes) old new a b c d result makes disk source = λ long roots still quiet.
      complete ready.plan (sources_of ready files) a b c d result disk source (changed_of (Some files) (Some bytes) old new result makes long) roots still quiet

  pub ended_of : {T : Type 0} (told : Option (List Stored)) (first : Option Past) (old new : List Made) (result : Result T ApplyFault)
      → Makes told first old new result → IfSome told (λ files. OnOk result (EndsFinal ready files first old new))
  ended_of None first old new result makes = tt
  ended_of (Some files) None old new (Ok value) makes = tt
  ended_of (Some files) None old new (Err fault) makes = tt
  ended_of (Some files) (Some bytes) old new (Err fault) makes = tt
  ended_of (Some files) (Some bytes) old new (Ok value) makes = λ sector empty plan_is settled.
      let m = of_plan (Some files) (Some bytes) old new (Ok value) makes in
      let long = (plan-given sector (held (history_of bytes old)) empty ready.seen ready.plan plan_is).seen_of.len in
      let runs = planned_runs ready.seen ready.plan is.well_formed is.notes_fit ready.paths files bytes m.0 old new (Ok value) m.1 long in
      ends_final ready.seen ready.plan is.well_formed is.notes_fit (sources_of ready files) bytes old new sector empty runs.ok plan_is settled

  pub any_moment_of : {T : Type 0} (told : Option (List Stored)) (first : Option Past) (old new : List Made) (result : Result T ApplyFault)
      → Makes told first old new result → AnyMomentIsSafe ready told first old new
  any_moment_of told None old new result makes = tt
  any_moment_of told (Some bytes) old new result makes = λ sector empty plan_is settled.
      let m = of_plan told (Some bytes) old new result makes in
      any_safe ready.seen ready.plan is.well_formed is.notes_fit told ready.paths bytes m.0 old new result sector empty m.1 plan_is settled

  -- no stray call on a disk as long as it was seen
  pub strays_of : (first : Option Past) (old : List Made) (before now : ℕ)
      → IfSome (history_told first old) (λ h. AllLieIn ready.plan (length (held h)) ready.steps → now ≡ before)
      → IfSome (history_told first old) (λ h. length (held h) ≡ 512 * ready.seen.sectors → now ≡ before)
  strays_of None old before now stays = tt
  strays_of (Some bytes) old before now stays = λ long.
      let P : ℕ → List Step → Type 0 = λ n l. AllLieIn ready.plan n l in
      stays (subst (λ (n : ℕ). P n ready.steps) (sym long) (subst (λ (l : List Step). P (512 * ready.seen.sectors) l) (sym is.steps) (lies ready.seen ready.plan is.well_formed)))

  -- both hashes, where the disk tells
  copied_of : {T : Type 0} (told : Option (List Stored)) (bytes : Past) (old new : List Made) (fault : ApplyFault) → IsLawful (history_of bytes new)
      → (founds : List Found) × MakesSteps {T = T} ready.plan (outside_of told ready.paths (Some bytes)) (steps ready.plan ready.seen) founds old new (Err fault)
      → length (held (history_of bytes old)) ≡ 512 * ready.seen.sectors → IfChanged fault (λ planned copied.
      Any (λ noted. ShowsOther ready.plan (held (history_of bytes new)) planned copied noted.1.role) (noted_of ready.plan))
  copied_of told bytes old new DiskFault lawful m long = tt
  copied_of told bytes old new SourceFault lawful m long = tt
  copied_of told bytes old new (SourceChanged planned copied) lawful m long =
      let all = steps ready.plan ready.seen in
      let lie = lies ready.seen ready.plan is.well_formed in
      shown_among ready.seen ready.plan is.well_formed (held (history_of bytes new)) planned copied
      (stopped_shown ready.plan (outside_of told ready.paths (Some bytes)) bytes refl m.0 all planned copied old new m.1.found_are
      (can_make ready.paths ready.seen ready.plan is.well_formed (subst (λ (l : List Step). All (NamesPath ready.paths) l) is.steps is.paths))
      (subst (λ (n : ℕ). AllLieIn ready.plan n all) (sym long) lie) lawful m.1.changed)

  pub told_of : {T : Type 0} (told : Option (List Stored)) (first : Option Past) (old new : List Made) (result : Result T ApplyFault)
      → IfSome (history_told first new) IsLawful → Makes told first old new result → TellsShown ready first old new result
  told_of told None old new result lawful makes = tt
  told_of told (Some bytes) old new (Ok value) lawful makes = λ long. tt
  told_of told (Some bytes) old new (Err fault) lawful makes = λ long.
      copied_of told bytes old new fault lawful (of_plan told (Some bytes) old new (Err fault) makes) long
