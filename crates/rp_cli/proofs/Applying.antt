-- What holds of every command, for `apply`: a failure has its status, and none is passed over where it is done.
use Rattle.std.proofs.Common.{ℕ, ◌≡◌, ◌⊎◌, ◌≤◌, List, Bool, None, Result, Ok, Err, refl, sym, ◌∙◌, ap, subst, inl, inr, arith}
use Rattle.rp_apply_command.specs.Applies.{AppliesBehind, AppliesOpened, AppliesPlanned, CarriesOut, IsCommitRefusal, Opens, Outcome, Tells, applied_report}
use Rattle.rp_base.specs.Faults.{Rose}
use Rattle.rp_cli.proofs.Promised.{clash, plan_words}
use Rattle.rp_cli.specs.Applied.{AppliesAsked}
use Rattle.rp_cli.specs.Holds.{Holds}
use Rattle.rp_defs.specs.declared.definition.Definitions.{Definitions}
use Rattle.rp_io.specs.Files.{Tree}
use Rattle.rp_io.specs.declared.stored.Stored.{Stored}
use Rattle.rp_outcome.specs.Causes.{HasCauses}
use Rattle.rp_outcome.specs.Device.{Device}
use Rattle.rp_outcome.specs.Output.{Output, Finishes, Prints}
use Rattle.rp_outcome.specs.Refusals.{Refusal, disk_refusal, line_of, source_refusal}
use Rattle.rp_outcome.specs.Store.{Store}
use Rattle.rp_plan_command.proofs.Statuses.{by_status}
use Rattle.rp_plan_command.specs.Plans.{Plans}
use Rattle.rp_planned.specs.Files.{HasFileCauses}
use Rattle.rp_planned.specs.Planning.{PlansImage}
use Rattle.rp_planned.specs.declared.planned.Planned.{Planned}
use Rattle.rp_planned.specs.declared.request.Request.{Request}
use Rattle.rp_reading.specs.Reading.{ReadsDefinitions}
use Rattle.rp_reading.specs.Stages.{HasStageCause}

same_err : {T : Type 0} (a b : Refusal) → ◌≡◌ {A = Result T Refusal} (Err a) (Err b) → a ≡ b
same_err a b e = cc

-- a stage that answered passed no failed call over
kept_ok : {T : Type 0} (failure : Refusal) (before now : ℕ) (value : T) → HasStageCause failure before now (Ok value) → now ≡ before
kept_ok failure before now value cause = go cause.kept where
  go : {T : Type 0} {value : T} → (◌≡◌ {A = Result T Refusal} (Ok value) (Err failure)) ⊎ (now ≡ before) → now ≡ before
  go (inl e) = absurd (cc)
  go (inr same) = same

-- nor did one whose refusal is another's
kept_err : {T : Type 0} (failure refusal : Refusal) (before now : ℕ) → HasStageCause {T = T} failure before now (Err refusal)
    → (refusal.status ≡ failure.status → ⊥) → now ≡ before
kept_err {T = T} failure refusal before now cause apart = go cause.kept where
  go : (◌≡◌ {A = Result T Refusal} (Err refusal) (Err failure)) ⊎ (now ≡ before) → now ≡ before
  go (inl e) = absurd (apart (ap (λ (r : Refusal). r.status) (same_err refusal failure e)))
  go (inr same) = same

-- the causes of the later part of a run are those of the whole, if no call failed in the part before
later_causes : (disk mid read later : Device) (out after : Output) (status : ℕ) → mid.faults ≡ disk.faults → later ≡ read
    → HasCauses mid read out after status → HasCauses disk later out after status
later_causes disk mid read later out after status kept same causes = record {
  disk_failed = λ f. subst (λ (n : ℕ). Rose n later.faults) kept (subst (λ (d : Device). Rose mid.faults d.faults) (sym same) (causes.disk_failed f));
  disk_kept = go causes.disk_kept;
  sink_failed = causes.sink_failed;
  sink_kept = causes.sink_kept;
} where
  go : (status ≡ 7) ⊎ (read.faults ≡ mid.faults) → (status ≡ 7) ⊎ (later.faults ≡ disk.faults)
  go (inl e) = inl e
  go (inr e) = inr (ap (λ (d : Device). d.faults) same ∙ e ∙ kept)

module _ (request : Request) (json : Bool) (dirs : List (List ℕ)) (folders gone : Store Tree) (disk later : Device)
    (sources drained : Store (List Stored)) (out after : Output) (status : ℕ) where
  abbrev All : Type 0
  All = Holds folders gone disk later sources drained out after status

  -- where `plan` would have ended in the same way
  as_plan : Plans request json dirs folders gone disk later sources drained out after status → All
  as_plan plans = record {
    causes = (by_status request json dirs folders gone disk later sources drained out after status plans).causes;
    files = (by_status request json dirs folders gone disk later sources drained out after status plans).files;
    words = plan_words request json dirs folders gone disk later sources drained out after status (inl plans);
  }

  -- the disk failed
  by_disk : Rose disk.faults later.faults → status ≡ 7 → All
  by_disk rose e = record {
    causes = record {
      disk_failed = λ f. rose;
      disk_kept = inl e;
      sink_failed = λ f. clash status 7 9 e f (λ h. omega arith);
      sink_kept = λ f. clash status 7 0 e f (λ h. omega arith);
    };
    files = record { failed = λ f. clash status 7 8 e f (λ h. omega arith); kept = λ f. clash status 7 0 e f (λ h. omega arith) };
    words = λ f. clash status 7 2 e f (λ h. omega arith);
  }

  -- a source failed while it was copied
  by_source : later.faults ≡ disk.faults → Rose sources.faults drained.faults → Prints out after (line_of source_refusal) → status ≡ 8 → All
  by_source kept rose line e = record {
    causes = record {
      disk_failed = λ f. clash status 8 7 e f (λ h. omega arith);
      disk_kept = inr kept;
      sink_failed = λ f. clash status 8 9 e f (λ h. omega arith);
      sink_kept = λ f. clash status 8 0 e f (λ h. omega arith);
    };
    files = record { failed = λ f. inr (rose, line); kept = λ f. clash status 8 0 e f (λ h. omega arith) };
    words = λ f. clash status 8 2 e f (λ h. omega arith);
  }

  -- a source has changed, or there was no memory for the paths of the folders
  by_other : (number : ℕ) → 10 ≤ number → later.faults ≡ disk.faults → status ≡ number → All
  by_other number far kept e = record {
    causes = record {
      disk_failed = λ f. clash status number 7 e f (λ h. omega arith);
      disk_kept = inr kept;
      sink_failed = λ f. clash status number 9 e f (λ h. omega arith);
      sink_kept = λ f. clash status number 0 e f (λ h. omega arith);
    };
    files = record { failed = λ f. clash status number 8 e f (λ h. omega arith); kept = λ f. clash status number 0 e f (λ h. omega arith) };
    words = λ f. clash status number 2 e f (λ h. omega arith);
  }

  -- it was told
  by_finish : (text : List ℕ) → later.faults ≡ disk.faults → gone.faults ≡ folders.faults → drained.faults ≡ sources.faults
      → Finishes out after text status → All
  by_finish text kept folders_kept sources_kept (inl (e, printed)) = record {
    causes = record {
      disk_failed = λ f. clash status 0 7 e f (λ h. omega arith);
      disk_kept = inr kept;
      sink_failed = λ f. clash status 0 9 e f (λ h. omega arith);
      sink_kept = λ f. printed.kept;
    };
    files = record { failed = λ f. clash status 0 8 e f (λ h. omega arith); kept = λ f. (folders_kept, sources_kept) };
    words = λ f. clash status 0 2 e f (λ h. omega arith);
  }
  by_finish text kept folders_kept sources_kept (inr (e, printed)) = record {
    causes = record {
      disk_failed = λ f. clash status 9 7 e f (λ h. omega arith);
      disk_kept = inr kept;
      sink_failed = λ f. printed.rose;
      sink_kept = λ f. clash status 9 0 e f (λ h. omega arith);
    };
    files = record { failed = λ f. clash status 9 8 e f (λ h. omega arith); kept = λ f. clash status 9 0 e f (λ h. omega arith) };
    words = λ f. clash status 9 2 e f (λ h. omega arith);
  }

  module _ (definitions : Definitions) (reads : ReadsDefinitions request.arch dirs folders gone (Ok definitions)) (opened : Device)
      (opened_kept : opened.faults ≡ disk.faults) (read : Device) (asked : Store (List Stored)) where
    -- what the part behind the opening sync has
    behind_sync : later ≡ read → drained ≡ asked → Plans request json dirs folders gone opened read sources asked out after status → All
    behind_sync same same_sources plans =
        let status_of = by_status request json dirs folders gone opened read sources asked out after status plans in
        record {
          causes = later_causes disk opened read later out after status opened_kept same status_of.causes;
          files = subst (λ (s : Store (List Stored)). HasFileCauses folders gone sources s out after status) (sym same_sources) status_of.files;
          words = plan_words request json dirs folders gone opened read sources asked out after status (inl plans);
        }

    module _ (planned : Planned) (plans : PlansImage request definitions.list opened read sources asked (Ok planned)) where
      -- a sink that takes everything
      abbrev silent : Output
      silent = record { taken = None; faults = 0 }

      -- nothing failed till the plan was made: `plan` would be done
      planned_so : Plans request json dirs folders gone opened read sources asked silent silent 0
      planned_so = (Ok definitions, reads, (Ok planned, plans, inl (inl (refl, record { taken = tt; kept = refl }))))

      read_kept : read.faults ≡ disk.faults
      read_kept = go (by_status request json dirs folders gone opened read sources asked silent silent 0 planned_so).causes.disk_kept where
        go : (◌≡◌ {A = ℕ} 0 7) ⊎ (read.faults ≡ opened.faults) → read.faults ≡ disk.faults
        go (inl e) = absurd (omega (arith, e))
        go (inr e) = e ∙ opened_kept

      stores_kept : (gone.faults ≡ folders.faults) × (asked.faults ≡ sources.faults)
      stores_kept = (by_status request json dirs folders gone opened read sources asked silent silent 0 planned_so).files.kept refl

      by_commit : (answer : Outcome) → CarriesOut definitions planned read later asked drained answer
          → Tells json definitions planned out after status answer → All
      by_commit (Ok done) carries finishes =
          by_finish (applied_report json definitions planned)
          (kept_ok disk_refusal read.faults later.faults done carries.cause.of_disk ∙ read_kept) stores_kept.0
          (kept_ok source_refusal asked.faults drained.faults done carries.cause.of_sources ∙ stores_kept.1) finishes
      by_commit (Err refusal) carries refuses = go carries.refusal where
        go : IsCommitRefusal planned refusal → All
        go (inl failed) =
            by_disk (subst (λ (n : ℕ). Rose n later.faults) read_kept (carries.cause.of_disk.failed (ap Err failed)))
            (refuses.answers ∙ ap (λ (r : Refusal). r.status) failed)
        go (inr (inl failed)) =
            let e : refusal.status ≡ 8 = ap (λ (r : Refusal). r.status) failed in
            by_source (kept_err disk_refusal refusal read.faults later.faults carries.cause.of_disk (λ f. absurd (omega (arith, e, f))) ∙ read_kept)
            (subst (λ (n : ℕ). Rose n drained.faults) stores_kept.1 (carries.cause.of_sources.failed (ap Err failed)))
            (subst (λ (r : Refusal). Prints out after (line_of r)) failed refuses.printed) (refuses.answers ∙ e)
        go (inr (inr (root, copied, changed, differ, any))) =
            let e : refusal.status ≡ 11 = ap (λ (r : Refusal). r.status) changed in
            by_other 11 (omega arith)
            (kept_err disk_refusal refusal read.faults later.faults carries.cause.of_disk (λ f. absurd (omega (arith, e, f))) ∙ read_kept)
            (refuses.answers ∙ e)

    by_plan : (answer : Result Planned Refusal) → PlansImage request definitions.list opened read sources asked answer
        → AppliesPlanned json definitions read later asked drained out after status answer → All
    by_plan (Err refusal) plans (same, same_sources, refuses) =
        behind_sync same same_sources (Ok definitions, reads, (Err refusal, plans, refuses))
    by_plan (Ok planned) plans (inl (same, same_sources, refuses)) =
        behind_sync same same_sources (Ok definitions, reads, (Ok planned, plans, inr refuses))
    by_plan (Ok planned) plans (inr (answer, carries, tells)) = by_commit planned plans answer carries tells

  by_opening : (definitions : Definitions) → ReadsDefinitions request.arch dirs folders gone (Ok definitions) → (opened : Device)
      (answer : Outcome) → Opens disk opened answer
      → AppliesOpened request json definitions opened later sources drained out after status answer → All
  by_opening definitions reads opened (Err refusal) opens (same, same_sources, refuses) =
      by_disk (subst (λ (d : Device). Rose disk.faults d.faults) (sym same) (opens.cause.failed (ap Err opens.refusal)))
      (refuses.answers ∙ ap (λ (r : Refusal). r.status) opens.refusal)
  by_opening definitions reads opened (Ok done) opens (read, asked, answer, plans, fits, applies) =
      by_plan definitions reads opened (kept_ok disk_refusal disk.faults opened.faults done opens.cause) read asked answer plans applies

  by_definitions : (answer : Result Definitions Refusal) → ReadsDefinitions request.arch dirs folders gone answer
      → AppliesBehind request json disk later sources drained out after status answer → All
  by_definitions (Err refusal) reads (same, same_sources, refuses) = as_plan (Err refusal, reads, (same, same_sources, refuses))
  by_definitions (Ok definitions) reads (opened, answer, opens, applies) = by_opening definitions reads opened answer opens applies

  pub apply_holds : AppliesAsked request json dirs folders gone disk later sources drained out after status → All
  apply_holds (inl (definitions, reads, behind)) = by_definitions definitions reads behind
  apply_holds (inr ((same_folders, same, same_sources), refuses)) =
      by_other 10 (omega arith) (ap (λ (d : Device). d.faults) same) refuses.answers
