-- Why a run of `apply` ends with its status, and that its answer is that of what is told.
use Rattle.std.proofs.Common.{ℕ, ◌≡◌, ◌⊎◌, ◌∙◌, ◌%◌, ◌^◌, ◌≤◌, List, Bool, Option, Some, None, Result, Ok, Err, IfSome, refl, sym, ap, subst, inl, inr, arith}
use Rattle.std.specs.Prelude.{IsErrAnd}
use Rattle.rp_base.specs.Faults.{Rose}
use Rattle.rp_base.specs.Geometry.{IsSector}
use Rattle.rp_defs.specs.declared.definition.Definitions.{Definitions}
use Rattle.rp_disk.specs.Device.{CanHave, IsPossible}
use Rattle.rp_disk.specs.History.{held}
use Rattle.rp_disk.specs.Made.{Past, history_of, history_told}
use Rattle.rp_disk.specs.declared.call.Call.{Call}
use Rattle.rp_io.specs.Files.{Tree}
use Rattle.rp_io.specs.declared.stored.Stored.{Stored}
use Rattle.rp_outcome.specs.Device.{Device}
use Rattle.rp_outcome.specs.Output.{Output, Finishes, Prints}
use Rattle.rp_outcome.specs.Refusals.{Refusal, disk_refusal, line_of}
use Rattle.rp_outcome.specs.Statuses as exit
use Rattle.rp_outcome.specs.Store.{Store}
use Rattle.rp_plan_command.specs.Plans.{Plans}
use Rattle.rp_plan_command.specs.Statuses.{ByStatus, WhereTold, told_plan}
use Rattle.rp_plan_command.proofs.Statuses.{by_status}
use Rattle.rp_planned.specs.Files.{TellsFailure}
use Rattle.rp_planned.specs.Planning.{PlansImage, planned_of}
use Rattle.rp_planned.specs.declared.planned.Planned.{Planned}
use Rattle.rp_planned.specs.declared.request.Request.{Request}
use Rattle.rp_reading.specs.Reading.{ReadsDefinitions, definitions_in}
use Rattle.rp_reading.specs.Stages.{HasStageCause, and_then}
use Rattle.rp_step.specs.Sourced.{sources_in}
use Rattle.rp_steps.specs.Calls.{calls as calls_for}
use Rattle.rp_apply.specs.Sourced.{paths_of}
use Rattle.rp_apply_command.specs.Applies.{Applies, AppliesBehind, AppliesOpened, AppliesPlanned, CarriesOut, IsCommitRefusal, Opens, Outcome, Tells, applied_report}
use Rattle.rp_apply_command.specs.Complete.{AnswersAsTold, HasReason, NoneFailed}
use Rattle.rp_apply_command.specs.Ends.{Ends, StopsExactly}
use Rattle.rp_apply_command.specs.Ends.Ends.{before, behind, broken, between}
use Rattle.rp_apply_command.proofs.Ended.{ends_so, not_before, not_between}
use Rattle.rp_apply_command.proofs.Goals.{told_same}
use Rattle.rp_apply_command.proofs.Told.{refuses_so}

-- no failed call was passed over by a stage that answered
kept_ok : {T : Type 0} (failure : Refusal) (was now : ℕ) (value : T) → HasStageCause failure was now (Ok value) → now ≡ was
kept_ok failure was now value cause = go cause.kept where
  go : {T : Type 0} {value : T} → (◌≡◌ {A = Result T Refusal} (Ok value) (Err failure)) ⊎ (now ≡ was) → now ≡ was
  go (inl e) = absurd (cc)
  go (inr same) = same

module _ (request : Request) (json : Bool) (dirs : List (List ℕ)) (folders gone : Store Tree) (disk later : Device)
    (sources drained : Store (List Stored)) (out after : Output) (status : ℕ) (past : Past) (files : List Stored)
    (can : CanHave past later) (told : sources.told ≡ Some files) where
  abbrev Why : Type 0
  Why = HasReason folders gone disk later sources drained out after status

  -- where `plan` would have ended in the same way
  as_plan : (mid read : Device) (asked : Store (List Stored)) → mid.faults ≡ disk.faults → later ≡ read → drained ≡ asked
      → Plans request json dirs folders gone mid read sources asked out after status → Why
  as_plan mid read asked kept same same_sources plans = by_one is.one_of where
    is : ByStatus request json dirs folders gone mid read sources asked out after status
    is = by_status request json dirs folders gone mid read sources asked out after status plans

    by_failure : TellsFailure folders gone sources asked out after → Rose folders.faults gone.faults ⊎ Rose sources.faults drained.faults
    by_failure (inl failed) = inl failed.0
    by_failure (inr failed) = inr (subst (λ (s : Store (List Stored)). Rose sources.faults s.faults) (sym same_sources) failed.0)

    by_one : ((status ≡ 3) ⊎ (status ≡ 4) ⊎ (status ≡ 5)) ⊎ (status ≡ 0) ⊎ (status ≡ 7) ⊎ (status ≡ 8) ⊎ (status ≡ 9) ⊎ (status ≡ 10) → Why
    by_one (inl (inl e)) = inl (inl e)
    by_one (inl (inr (inl e))) = inl (inr (inl e))
    by_one (inl (inr (inr e))) = inl (inr (inr (inl e)))
    by_one (inr (inl e)) = inr (inl e)
    by_one (inr (inr (inl e))) = inr (inr (inl (
      e,
      subst (λ (n : ℕ). Rose n later.faults) kept
          (subst (λ (d : Device). Rose mid.faults d.faults) (sym same) (is.causes.disk_failed e)),
    )))
    by_one (inr (inr (inr (inl e)))) = inr (inr (inr (inl (e, by_failure (is.files.failed e)))))
    by_one (inr (inr (inr (inr (inl e))))) = inr (inr (inr (inr (e, is.causes.sink_failed e))))
    by_one (inr (inr (inr (inr (inr e))))) = inl (inr (inr (inr e)))

  module _ (definitions : Definitions) (reads : ReadsDefinitions request.arch dirs folders gone (Ok definitions)) (opened : Device)
      (opened_kept : opened.faults ≡ disk.faults) (read : Device) (asked : Store (List Stored)) where
    module _ (planned : Planned) (plans : PlansImage request definitions.list opened read sources asked (Ok planned)) where
      -- a sink that takes everything
      abbrev silent : Output
      silent = record { taken = None; faults = 0 }

      -- nothing failed till the plan was made: `plan` would be done
      planned_so : Plans request json dirs folders gone opened read sources asked silent silent 0
      planned_so = (Ok definitions, reads, (Ok planned, plans, inl (inl (refl, record { taken = tt; kept = refl }))))

      read_kept : read.faults ≡ disk.faults
      read_kept = go (by_status request json dirs folders gone opened read sources asked silent silent 0 planned_so).causes.disk_kept where
        go : (◌≡◌ {A = ℕ} 0 7) ⊎ (read.faults ≡ opened.faults) → read.faults ≡ disk.faults
        go (inl e) = absurd (omega (arith, e))
        go (inr e) = e ∙ opened_kept

      asked_kept : asked.faults ≡ sources.faults
      asked_kept = ((by_status request json dirs folders gone opened read sources asked silent silent 0 planned_so).files.kept refl).1

      -- no source has changed
      abbrev Same : Refusal → List Call → List Stored → Type 0
      Same refusal calls stored = (calls ≡ calls_for planned.plan planned.seen (sources_in stored (paths_of definitions.list)))
          × (refusal.status ≡ exit.changed → ⊥)

      unchanged : (refusal : Refusal) → CarriesOut definitions planned read later asked drained (Err refusal)
          → refusal.status ≡ exit.changed → ⊥
      unchanged refusal carries =
          let made = carries.runs (Some past) can in
          (subst (λ (o : Option (List Stored)). IfSome o (Same refusal made.0))
          (told_same request definitions.list opened read sources asked planned plans ∙ told) made.1.exact).1

      by_commit : (answer : Outcome) → CarriesOut definitions planned read later asked drained answer
          → Tells json definitions planned out after status answer → Why
      by_commit (Ok done) carries finishes = go finishes where
        go : Finishes out after (applied_report json definitions planned) status → Why
        go (inl (e, printed)) = inr (inl e)
        go (inr (e, printed)) = inr (inr (inr (inr (e, printed.rose))))
      by_commit (Err refusal) carries refuses = go carries.refusal where
        go : IsCommitRefusal planned refusal → Why
        go (inl failed) = inr (inr (inl (
          refuses.answers ∙ ap (λ (r : Refusal). r.status) failed,
          subst (λ (n : ℕ). Rose n later.faults) read_kept (carries.cause.of_disk.failed (ap Err failed)),
        )))
        go (inr (inl failed)) = inr (inr (inr (inl (
          refuses.answers ∙ ap (λ (r : Refusal). r.status) failed,
          inr (subst (λ (n : ℕ). Rose n drained.faults) asked_kept (carries.cause.of_sources.failed (ap Err failed))),
        ))))
        go (inr (inr changed)) = absurd (unchanged refusal carries (ap (λ (r : Refusal). r.status) changed.2))

    by_plan : (answer : Result Planned Refusal) → PlansImage request definitions.list opened read sources asked answer
        → AppliesPlanned json definitions read later asked drained out after status answer → Why
    by_plan (Err refusal) plans (same, same_sources, refuses) =
        as_plan opened read asked opened_kept same same_sources (Ok definitions, reads, (Err refusal, plans, refuses))
    by_plan (Ok planned) plans (inl (same, same_sources, refuses)) =
        as_plan opened read asked opened_kept same same_sources (Ok definitions, reads, (Ok planned, plans, inr refuses))
    by_plan (Ok planned) plans (inr (answer, carries, tells)) = by_commit planned plans answer carries tells

  by_opening : (definitions : Definitions) → ReadsDefinitions request.arch dirs folders gone (Ok definitions) → (opened : Device)
      (answer : Outcome) → Opens disk opened answer
      → AppliesOpened request json definitions opened later sources drained out after status answer → Why
  by_opening definitions reads opened (Err refusal) opens (same, same_sources, refuses) = inr (inr (inl (
    refuses.answers ∙ ap (λ (r : Refusal). r.status) opens.refusal,
    subst (λ (d : Device). Rose disk.faults d.faults) (sym same) (opens.cause.failed (ap Err opens.refusal)),
  )))
  by_opening definitions reads opened (Ok done) opens (read, asked, answer, plans, fits, applies) =
      by_plan definitions reads opened (kept_ok disk_refusal disk.faults opened.faults done opens.cause) read asked answer plans applies

  by_definitions : (answer : Result Definitions Refusal) → ReadsDefinitions request.arch dirs folders gone answer
      → AppliesBehind request json disk later sources drained out after status answer → Why
  by_definitions (Err refusal) reads (same, same_sources, refuses) =
      as_plan disk disk sources refl same same_sources (Err refusal, reads, (refl, refl, refuses))
  by_definitions (Ok definitions) reads (opened, answer, opens, applies) = by_opening definitions reads opened answer opens applies

-- why it ends so
pub has_reason : (request : Request) (json : Bool) (dirs : List (List ℕ)) (folders gone : Store Tree) (disk later : Device)
    (sources drained : Store (List Stored)) (out after : Output) (status : ℕ)
    → Applies request json dirs folders gone disk later sources drained out after status
    → (past : Past) (files : List Stored) → CanHave past later → sources.told ≡ Some files
    → HasReason folders gone disk later sources drained out after status
has_reason request json dirs folders gone disk later sources drained out after status applies past files can told =
    by_definitions request json dirs folders gone disk later sources drained out after status past files can told applies.0
    applies.1 applies.2

-- what is told where the run is done
done_told : (request : Request) (dirs : List (List ℕ)) (tree : Tree) (image : List ℕ) (files : List Stored) (definitions : Definitions)
    (planned : Planned) → definitions_in request.arch tree dirs ≡ Ok definitions
    → planned_of request definitions.list image files ≡ Ok planned → told_plan request dirs tree image files ≡ Ok (definitions, planned)
done_told request dirs tree image files definitions planned listed is =
    ap (λ (d : Result Definitions Refusal). and_then d (λ definitions.
    and_then (planned_of request definitions.list image files) (λ planned. Ok (definitions, planned)))) listed
    ∙ ap (λ (p : Result Planned Refusal). and_then p (λ planned. Ok (definitions, planned))) is

as_refused : (status : ℕ) (P : Refusal → Type 0) (answer : Result (Definitions × Planned) Refusal)
    → IsErrAnd answer (λ refusal. (refusal.status ≡ status) × P refusal) → AnswersAsTold status answer
as_refused status P (Ok told) is = absurd is
as_refused status P (Err refusal) is = inl (sym is.0)

as_wanted : (status : ℕ) (answer : Result (Definitions × Planned) Refusal) → status ≡ exit.memory → AnswersAsTold status answer
as_wanted status (Ok told) want = inr want
as_wanted status (Err refusal) want = inr want

-- what holds of what all tell, and of a past of the disk
at_told : (folders : Store Tree) (disk later : Device) (sources : Store (List Stored)) (P : Tree → List ℕ → List Stored → Type 0) (tree : Tree)
    (past : Past) (files : List Stored) → folders.told ≡ Some tree → CanHave past later → sources.told ≡ Some files
    → WhereTold folders disk later sources P → P tree (held (history_of past disk.calls)) files
at_told folders disk later sources P tree past files listed can told holds =
    subst (λ (o : Option (List Stored)). IfSome o (P tree (held (history_of past disk.calls)))) told
    (subst (λ (o : Option Tree). IfSome o (λ tree. IfSome sources.told (P tree (held (history_of past disk.calls))))) listed (holds (Some past) can))

where_all : (folders : Store Tree) (disk later : Device) (sources : Store (List Stored)) (P : Tree → List ℕ → List Stored → Type 0)
    → ((tree : Tree) (past : Past) (files : List Stored) → folders.told ≡ Some tree → CanHave past later → sources.told ≡ Some files
    → P tree (held (history_of past disk.calls)) files) → WhereTold folders disk later sources P
where_all folders disk later sources P each o can = by folders.told o sources.told refl can refl where
  by : (t : Option Tree) (o : Option Past) (q : Option (List Stored)) → folders.told ≡ t → IsPossible o later → sources.told ≡ q
      → IfSome t (λ tree. IfSome (history_told o disk.calls) (λ h. IfSome q (P tree (held h))))
  by None o q listed can told = tt
  by (Some tree) None q listed can told = tt
  by (Some tree) (Some past) None listed can told = tt
  by (Some tree) (Some past) (Some files) listed can told = each tree past files listed can told

module _ (request : Request) (json : Bool) (dirs : List (List ℕ)) (folders gone : Store Tree) (disk later : Device)
    (sources drained : Store (List Stored)) (out after : Output) (status : ℕ) (of_sector : IsSector request.sector)
    (whole : request.size % 4096 ≡ 0) (most : request.size ≤ 2 ^ 44)
    (applies : Applies request json dirs folders gone disk later sources drained out after status)
    (none : NoneFailed folders gone disk later sources drained out after) where
  module _ (tree : Tree) (past : Past) (files : List Stored) (listed : folders.told ≡ Some tree) (can : CanHave past later)
      (told : sources.told ≡ Some files) where
    abbrev Answers : Type 0
    Answers = AnswersAsTold status (told_plan request dirs tree (held (history_of past disk.calls)) files)

    refused : (status ≡ 3) ⊎ (status ≡ 4) ⊎ (status ≡ 5) → Answers
    refused is = as_refused status (λ refusal. Prints out after (line_of refusal))
        (told_plan request dirs tree (held (history_of past disk.calls)) files)
        (at_told folders disk later sources (λ tree image files. IsErrAnd (told_plan request dirs tree image files)
        (λ refusal. (refusal.status ≡ status) × Prints out after (line_of refusal))) tree past files listed can told
        (refuses_so request json dirs folders gone disk later sources drained out after status applies is))

    done : status ≡ exit.done → Answers
    done is =
        by_end (ends_so request json dirs folders gone disk later sources drained out after status of_sector whole most applies) where
          by_end : Ends request json dirs folders disk later sources out after status → Answers
          by_end (before at leaves) = not_before status at is
          by_end (broken at leaves) = not_between status at is
          by_end (between at definitions planned read some refusal cause refuses) = not_between status at is
          by_end (behind at definitions planned read all finishes) =
              let by_folders : definitions_in request.arch tree dirs ≡ Ok definitions =
              subst (λ (o : Option Tree). IfSome o (λ tree. definitions_in request.arch tree dirs ≡ Ok definitions)) listed read.told in
              let made = all (Some past) can in
              let exactly : StopsExactly request definitions.list disk later planned made.0 past files =
              subst (λ (o : Option (List Stored)). IfSome o (StopsExactly request definitions.list disk later planned made.0 past)) told
              made.1.some.stops_exactly in
              subst (AnswersAsTold status) (sym (done_told request dirs tree (held (history_of past disk.calls)) files definitions planned
              by_folders exactly.goal)) (inl is)

    by_reason : HasReason folders gone disk later sources drained out after status → Answers
    by_reason (inl (inl e)) = refused (inl e)
    by_reason (inl (inr (inl e))) = refused (inr (inl e))
    by_reason (inl (inr (inr (inl e)))) = refused (inr (inr e))
    by_reason (inl (inr (inr (inr e)))) = as_wanted status (told_plan request dirs tree (held (history_of past disk.calls)) files) e
    by_reason (inr (inl e)) = done e
    by_reason (inr (inr (inl (e, rose)))) = absurd (none.by_disk rose)
    by_reason (inr (inr (inr (inl (e, inl rose))))) = absurd (none.by_folders rose)
    by_reason (inr (inr (inr (inl (e, inr rose))))) = absurd (none.by_sources rose)
    by_reason (inr (inr (inr (inr (e, rose))))) = absurd (none.by_sink rose)

  -- where no call failed, the answer is that of what is told
  pub answers_told : WhereTold folders disk later sources (λ tree image files. AnswersAsTold status (told_plan request dirs tree image files))
  answers_told = where_all folders disk later sources (λ tree image files. AnswersAsTold status (told_plan request dirs tree image files))
      (λ tree past files listed can told.
      by_reason tree past files listed can told
      (has_reason request json dirs folders gone disk later sources drained out after status applies past files can told))
