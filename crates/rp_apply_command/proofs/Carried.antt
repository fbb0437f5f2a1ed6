-- What carrying out a plan makes of disk and sources, by what is known of its steps.
use Rattle.std.proofs.Common.{◌≡◌, ◌≢◌, ◌≤◌, ℕ, ◌*◌, List, length, Option, Some, None, Result, Ok, Err, refl, sym, ap, ◌∙◌, subst, inl, inr, arith}
use Rattle.std.specs.Prelude.{IfErr, IfSome}
use Rattle.rp_base.specs.Plan.{IsWellFormed, Noted}
use Rattle.rp_base.specs.declared.plan.Plan.{Plan}
use Rattle.rp_base.specs.declared.plan.Role.{Role}
use Rattle.rp_base.specs.declared.plan.Role.TheVariants.{Plain, Data, Hash}
use Rattle.rp_base.specs.declared.seen.Seen.{Seen}
use Rattle.rp_defs.specs.declared.definition.Definitions.{Definitions}
use Rattle.rp_disk.specs.Device.{Earlier, IsPossible, missed_by}
use Rattle.rp_disk.specs.History.{held}
use Rattle.rp_disk.specs.Made.{Made, Past, history_of, history_told}
use Rattle.rp_disk.specs.Runs.{Runs}
use Rattle.rp_disk.specs.declared.call.Call.{Call}
use Rattle.rp_disk.proofs.Noting.{can_before, possible_before}
use Rattle.rp_io.specs.declared.stored.Stored.{Stored}
use Rattle.rp_outcome.specs.Device.{Device}
use Rattle.rp_outcome.specs.Refusals.{Refusal, changed_refusal, disk_refusal, source_refusal}
use Rattle.rp_outcome.specs.Statuses as exit
use Rattle.rp_outcome.specs.Store.{Store}
use Rattle.rp_planned.specs.declared.planned.Planned.{Planned}
use Rattle.rp_reading.specs.Stages.{HasStageCause}
use Rattle.rp_step.specs.Causes.{HasDiskCause, HasSourceCause}
use Rattle.rp_step.specs.Found.{Found, all_calls, outside_of}
use Rattle.rp_step.specs.Run.{MakesSteps}
use Rattle.rp_step.specs.Sourced.{sources_in}
use Rattle.rp_step.specs.declared.fault.ApplyFault.{ApplyFault}
use Rattle.rp_step.specs.declared.fault.ApplyFault.TheVariants.{DiskFault, SourceFault, SourceChanged}
use Rattle.rp_step.proofs.Tied.{all_tied}
use Rattle.rp_steps.specs.Calls.{calls as calls_for}
use Rattle.rp_steps.specs.Contents.{NotesFit, Sources}
use Rattle.rp_steps.specs.Steps.{steps}
use Rattle.rp_steps.specs.declared.step.Step.{Step}
use Rattle.rp_apply.specs.Called.{AreCallsFor}
use Rattle.rp_apply.specs.Commits.{ChangesAt, HasOther, HasPlannedRoot, HavePlannedRoots}
use Rattle.rp_apply.specs.Ready.{IsReadyFor}
use Rattle.rp_apply.specs.Sourced.{paths_of}
use Rattle.rp_apply.specs.declared.ready.Ready.{Ready}
use Rattle.rp_apply.proofs.Anyhow.{are_calls_like}
use Rattle.rp_apply.proofs.Judging.{changes_at}
use Rattle.rp_apply.proofs.Laid.{laid}
use Rattle.rp_apply_command.specs.Applies.{CarriesOut, ForEachPast, HasCommitCauses, IsCommitRefusal, Outcome, RunsPlan}
use Rattle.rp_apply_command.specs.Carrying.{HasSeenLength, HasToldRoots}
use Rattle.rp_apply_command.proofs.Rooted.{root_of_row}

-- the refusal of each fault
abbrev pub refusal_of : ApplyFault → Refusal
refusal_of DiskFault = disk_refusal
refusal_of SourceFault = source_refusal
refusal_of (SourceChanged planned copied) = changed_refusal planned copied

-- an answer with it
abbrev pub outcome_of : {T : Type 0} → Result T ApplyFault → Outcome
outcome_of (Ok value) = Ok tt
outcome_of (Err fault) = Err (refusal_of fault)

-- an answer is that of its fault
pub told_as : {T : Type 0} (result : Result T ApplyFault) (fault other : ApplyFault) (refusal : Refusal) → result ≡ Err fault → fault ≡ other
    → refusal_of other ≡ refusal → outcome_of result ≡ Err refusal
told_as result fault other refusal is same told =
    ap outcome_of is ∙ ap (λ (f : ApplyFault). Err (refusal_of f)) same ∙ ap (λ (r : Refusal). Err r) told

pub told_done : {T : Type 0} (result : Result T ApplyFault) (value : T) → result ≡ Ok value → outcome_of result ≡ Ok tt
told_done result value is = ap outcome_of is

same_err : (a b : Refusal) → ◌≡◌ {A = Outcome} (Err a) (Err b) → a ≡ b
same_err a b e = cc

-- refusals of other statuses are others
apart : (a b : Refusal) → a.status ≢ b.status → ◌≡◌ {A = Outcome} (Err a) (Err b) → ⊥
apart a b differ e = differ (ap (λ (r : Refusal). r.status) (same_err a b e))

done_apart : (a : Refusal) → ◌≡◌ {A = Outcome} (Ok tt) (Err a) → ⊥
done_apart a e = absurd (cc)

runs_as : {T : Type 0} (old new : List Made) (calls : List Call) (result : Result T ApplyFault) → Runs old calls new result
    → Runs old calls new (outcome_of result)
runs_as old new calls (Ok value) ran = record { ok = ran.ok; err = tt }
runs_as old new calls (Err DiskFault) ran = record { ok = tt; err = ran.err }
runs_as old new calls (Err SourceFault) ran = record { ok = tt; err = ran.err }
runs_as old new calls (Err (SourceChanged planned copied)) ran = record { ok = tt; err = ran.err }

disk_cause : {T : Type 0} (before now : ℕ) (result : Result T ApplyFault) → HasDiskCause before now result
    → HasStageCause disk_refusal before now (outcome_of result)
disk_cause before now (Ok value) has = record { failed = λ e. absurd (done_apart disk_refusal e); kept = inr has }
disk_cause before now (Err DiskFault) has = record { failed = λ e. has.1; kept = inl refl }
disk_cause before now (Err SourceFault) has = record {
  failed = λ e. absurd (apart source_refusal disk_refusal (λ f. omega (arith, f)) e);
  kept = inr has;
}
disk_cause before now (Err (SourceChanged planned copied)) has = record {
  failed = λ e. absurd (apart (changed_refusal planned copied) disk_refusal (λ f. omega (arith, f)) e);
  kept = inr has;
}

source_cause : {T : Type 0} (before now : ℕ) (result : Result T ApplyFault) → HasSourceCause before now result
    → HasStageCause source_refusal before now (outcome_of result)
source_cause before now (Ok value) has = record { failed = λ e. absurd (done_apart source_refusal e); kept = inr has }
source_cause before now (Err DiskFault) has = record {
  failed = λ e. absurd (apart disk_refusal source_refusal (λ f. omega (arith, f)) e);
  kept = inr has;
}
source_cause before now (Err SourceFault) has = record { failed = λ e. has.1; kept = inl refl }
source_cause before now (Err (SourceChanged planned copied)) has = record {
  failed = λ e. absurd (apart (changed_refusal planned copied) source_refusal (λ f. omega (arith, f)) e);
  kept = inr has;
}

-- no tree has both the planned root hash and another
clash : (plan : Plan) (sources : Sources) (planned copied : List ℕ) (role : Role) → HasPlannedRoot plan sources role
    → HasOther plan sources planned copied role → ⊥
clash plan sources planned copied Plain has other = other
clash plan sources planned copied (Data partner hash) has other = other
clash plan sources planned copied (Hash partner blocks salt uuid root) has other = other.2 (other.1 ∙ has ∙ sym other.0)

-- where each pair is planned with its root hash, no source has changed
unchanged : {T : Type 0} (plan : Plan) (sources : Sources) (result : Result T ApplyFault) → ChangesAt plan sources result
    → HavePlannedRoots plan sources → IfErr (outcome_of result) (λ refusal. refusal.status ≢ exit.changed)
unchanged plan sources (Ok value) changes roots = tt
unchanged plan sources (Err DiskFault) changes roots = λ e. omega (arith, e)
unchanged plan sources (Err SourceFault) changes roots = λ e. omega (arith, e)
unchanged plan sources (Err (SourceChanged planned copied)) changes roots =
    let any = changes.changed in
    let has : HasPlannedRoot plan sources any.1.1.role =
    subst (λ (n : Noted). HasPlannedRoot plan sources n.1.role) any.3 (roots any.0 any.1 any.2) in
    absurd (clash plan sources planned copied any.1.1.role has any.4)

module _ (definitions : Definitions) (planned : Planned) (disk later : Device) (sources drained : Store (List Stored)) (ready : Ready)
    (is : IsReadyFor planned.plan planned.seen definitions.list ready) (long : HasSeenLength planned disk)
    (roots : HasToldRoots definitions.list planned disk sources) where
  formed : IsWellFormed planned.seen planned.plan
  formed = subst (λ (s : Seen). IsWellFormed s planned.plan) is.seen_is
      (subst (λ (p : Plan). IsWellFormed ready.seen p) is.plan_is is.ready_is.well_formed)

  fit : NotesFit planned.plan
  fit = subst NotesFit is.plan_is is.ready_is.notes_fit

  refusal_is : {T : Type 0} (o : Option Past) (founds : List Found) (result : Result T ApplyFault) → MakesSteps planned.plan
      (outside_of sources.told (paths_of definitions.list) o) (steps planned.plan planned.seen) founds disk.calls later.calls result
      → IfErr (outcome_of result) (IsCommitRefusal planned)
  refusal_is o founds (Ok value) makes = tt
  refusal_is o founds (Err DiskFault) makes = inl refl
  refusal_is o founds (Err SourceFault) makes = inr (inl refl)
  refusal_is o founds (Err (SourceChanged root copied)) makes =
      let other = root_of_row planned.seen planned.plan formed founds root copied disk.calls later.calls makes.changed in
      inr (inr (root, copied, refl, λ e. other.0 (sym e), other.1))

  abbrev Exact : {T : Type 0} → List Found → Result T ApplyFault → List Stored → Type 0
  Exact founds result files =
      (all_calls planned.plan founds (steps planned.plan planned.seen)
      ≡ calls_for planned.plan planned.seen (sources_in files (paths_of definitions.list)))
      × IfErr (outcome_of result) (λ refusal. refusal.status ≢ exit.changed)

  exact_is : {T : Type 0} (o : Option Past) → IsPossible o disk → (founds : List Found) (result : Result T ApplyFault) → MakesSteps planned.plan
      (outside_of sources.told (paths_of definitions.list) o) (steps planned.plan planned.seen) founds disk.calls later.calls result
      → IfSome o (λ past. IfSome sources.told (Exact founds result))
  exact_is None can founds result makes = tt
  exact_is (Some past) can founds result makes = by sources.told makes (roots past can) where
    by : (t : Option (List Stored)) → MakesSteps planned.plan (outside_of t (paths_of definitions.list) (Some past))
        (steps planned.plan planned.seen) founds disk.calls later.calls result
        → IfSome t (λ files. HavePlannedRoots planned.plan (sources_in files (paths_of definitions.list))) → IfSome t (Exact founds result)
    by None m r = tt
    by (Some files) m r =
        let from = sources_in files (paths_of definitions.list) in (
          all_tied planned.plan (outside_of (Some files) (paths_of definitions.list) (Some past)) files past refl refl disk.calls founds
              (steps planned.plan planned.seen) m.found_are
              (laid planned.plan from planned.seen formed fit (held (history_of past disk.calls)) (long past can)),
          unchanged planned.plan from result
              (changes_at planned.seen planned.plan formed fit (paths_of definitions.list) files past founds disk.calls later.calls result m
              (long past can)) r,
        )

  steps_are : ready.steps ≡ steps planned.plan planned.seen
  steps_are = is.ready_is.steps ∙ ap (λ (p : Plan). steps p ready.seen) is.plan_is ∙ ap (λ (s : Seen). steps planned.plan s) is.seen_is

  -- the steps that are ready are those of the plan
  of_plan : {T : Type 0} (o : Option Past) (founds : List Found) (result : Result T ApplyFault)
      → MakesSteps ready.plan (outside_of sources.told ready.paths o) ready.steps founds disk.calls later.calls result
      → MakesSteps planned.plan (outside_of sources.told (paths_of definitions.list) o) (steps planned.plan planned.seen) founds disk.calls
      later.calls result
  of_plan o founds result makes =
      let P : Plan → List (List ℕ) → List Step → Type 0 =
      λ p paths l. MakesSteps p (outside_of sources.told paths o) l founds disk.calls later.calls result in
      subst (P planned.plan (paths_of definitions.list)) steps_are
      (subst (λ (paths : List (List ℕ)). P planned.plan paths ready.steps) is.paths_are
      (subst (λ (p : Plan). P p ready.paths ready.steps) is.plan_is makes))

  runs_plan : {T : Type 0} (o : Option Past) → IsPossible o disk → (founds : List Found) (result : Result T ApplyFault) → MakesSteps planned.plan
      (outside_of sources.told (paths_of definitions.list) o) (steps planned.plan planned.seen) founds disk.calls later.calls result
      → RunsPlan definitions planned disk later sources (outcome_of result) o (all_calls planned.plan founds (steps planned.plan planned.seen))
  runs_plan o can founds result makes = record {
    are = (are_calls_like planned.plan (outside_of sources.told (paths_of definitions.list) o) planned.seen formed fit disk.calls founds
        makes.found_are).0;
    exact = exact_is o can founds result makes;
    ran = runs_as disk.calls later.calls (all_calls planned.plan founds (steps planned.plan planned.seen)) result makes.ran;
  }

  pub carries : {T : Type 0} (result : Result T ApplyFault) → Earlier disk later → drained.told ≡ sources.told
      → ForEachPast later (λ o. (founds : List Found)
      × MakesSteps ready.plan (outside_of sources.told ready.paths o) ready.steps founds disk.calls later.calls result)
      → HasDiskCause disk.faults later.faults result → HasSourceCause sources.faults drained.faults result
      → ForEachPast later (λ o. IfSome (history_told o disk.calls)
      (λ h. length (held h) ≡ 512 * ready.seen.sectors → missed_by o later.answers ≡ missed_by o disk.answers))
      → CarriesOut definitions planned disk later sources drained (outcome_of result)
  carries result earlier told made of_disk of_sources strays = record {
    earlier = earlier;
    told = told;
    runs = λ o can.
        let at = made o can in (
          all_calls planned.plan at.0 (steps planned.plan planned.seen),
          runs_plan o (possible_before o earlier can) at.0 result (of_plan o at.0 result at.1),
        );
    inside = λ past can. strays (Some past) can
        (long past (can_before earlier can) ∙ ap (λ (s : Seen). 512 * s.sectors) (sym is.seen_is));
    refusal = let at = made None tt in refusal_is None at.0 result (of_plan None at.0 result at.1);
    cause = record {
      of_disk = disk_cause disk.faults later.faults result of_disk;
      of_sources = source_cause sources.faults drained.faults result of_sources;
    };
  }
