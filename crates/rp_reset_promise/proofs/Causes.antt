-- Each status but 0 of a run with a factory reset has its cause.
use Rattle.std.proofs.Common.{◌≡◌, ◌⊎◌, ◌∙◌, ℕ, Bool, true, false, List, Option, Some, None, Result, Ok, Err, refl, sym, ap, subst, inl, inr, arith}
use Rattle.rp_apply_command.specs.Applies.{CarriesOut, EndsHere, IsCommitRefusal, Opens, Outcome}
use Rattle.rp_base.specs.Faults.{Rose}
use Rattle.rp_base.specs.declared.plan.Plan.{Plan}
use Rattle.rp_base.specs.declared.seen.Seen.{Seen}
use Rattle.rp_defs.specs.declared.definition.Definition.{Definition}
use Rattle.rp_defs.specs.declared.definition.Definitions.{Definitions}
use Rattle.rp_demand.specs.declared.demand.Demand.{Demand}
use Rattle.rp_disk.specs.declared.call.Call.{Call}
use Rattle.rp_io.specs.Files.{Tree}
use Rattle.rp_io.specs.declared.stored.Stored.{Stored}
use Rattle.rp_outcome.specs.Demands.{demand_refusal}
use Rattle.rp_outcome.specs.Device.{Device}
use Rattle.rp_outcome.specs.Output.{Output, Finishes, Prints, Refuses}
use Rattle.rp_outcome.specs.Refusals.{Refusal, disk_refusal, folder_refusal, line_of, memory_refusal, repair_refusal, source_refusal}
use Rattle.rp_outcome.specs.Store.{Store}
use Rattle.rp_plan.specs.Goal.{goal}
use Rattle.rp_planned.specs.Files.{TellsFailure}
use Rattle.rp_planned.specs.Planning.{AsksSources, IsImageRefusal, PlansBy, PlansUnless, ReadsImage, must_repair, target_of, with_seen}
use Rattle.rp_planned.specs.declared.planned.Planned.{Planned}
use Rattle.rp_planned.specs.declared.request.Request.{Request}
use Rattle.rp_reading.specs.Reading.{IsReadingRefusal, ReadsDefinitions}
use Rattle.rp_reading.specs.Stages.{HasStageCause, and_then, refused}
use Rattle.rp_reset.specs.Reset.{reset as reset_of}
use Rattle.rp_reset_command.proofs.Refused.{by_demand, demand_status}
use Rattle.rp_reset_command.specs.Applies.{AppliesBehind, AppliesOpened, AppliesPlanned, AppliesReset, CarriesBoth, CarriesRenewal, GoesOn, TellsApplied}
use Rattle.rp_reset_command.specs.Plans.{PlansBehind, PlansReset, Tells}
use Rattle.rp_reset_command.specs.Renewing.{RenewsBehind, RenewsImage, RenewsLeft, RenewsSeen, RenewsUnless, ResetsSeen, renewed, renewed_by, seen_left, with_reset}
use Rattle.rp_reset_command.specs.Reports.{renewal_report}
use Rattle.rp_reset_command.specs.declared.renewal.Renewal.{Renewal}
use Rattle.rp_sizes.specs.declared.need.Fact.{Fact}
use Rattle.rp_reset_promise.specs.Causes.{HasResetCauses}

same_err : {T : Type 0} (a b : Refusal) → ◌≡◌ {A = Result T Refusal} (Err a) (Err b) → a ≡ b
same_err a b e = cc

no_err : {P T : Type 0} (value : T) (refusal : Refusal) → ◌≡◌ {A = Result T Refusal} (Ok value) (Err refusal) → P
no_err value refusal e = absurd (cc)

no_ok : {P T : Type 0} (value : T) (refusal : Refusal) → ◌≡◌ {A = Result T Refusal} (Err refusal) (Ok value) → P
no_ok value refusal e = absurd (cc)

-- a stage that answered passed no failed call over
kept_ok : {T : Type 0} (failure : Refusal) (before now : ℕ) (value : T) → HasStageCause failure before now (Ok value) → now ≡ before
kept_ok failure before now value cause = go cause.kept where
  go : {T : Type 0} {value : T} → (◌≡◌ {A = Result T Refusal} (Ok value) (Err failure)) ⊎ (now ≡ before) → now ≡ before
  go (inl e) = absurd (cc)
  go (inr same) = same

-- nor did one whose refusal is another's
kept_err : {T : Type 0} (failure refusal : Refusal) (before now : ℕ) → HasStageCause {T = T} failure before now (Err refusal)
    → (refusal.status ≡ failure.status → ⊥) → now ≡ before
kept_err {T = T} failure refusal before now cause apart = go cause.kept where
  go : (◌≡◌ {A = Result T Refusal} (Err refusal) (Err failure)) ⊎ (now ≡ before) → now ≡ before
  go (inl e) = absurd (apart (ap (λ (r : Refusal). r.status) (same_err refusal failure e)))
  go (inr same) = same

-- a status that tells of no failure: of a refusal, of want of memory, or of a source that has changed
abbrev IsQuiet : ℕ → Type 0
IsQuiet n = (n ≡ 3) ⊎ (n ≡ 4) ⊎ (n ≡ 5) ⊎ (n ≡ 10) ⊎ (n ≡ 11)

apart : {P : Type 0} (n m : ℕ) → IsQuiet n → n ≡ m → (m ≡ 3 → ⊥) → (m ≡ 4 → ⊥) → (m ≡ 5 → ⊥) → (m ≡ 10 → ⊥) → (m ≡ 11 → ⊥) → P
apart n m (inl e) f three four five ten eleven = absurd (three (sym f ∙ e))
apart n m (inr (inl e)) f three four five ten eleven = absurd (four (sym f ∙ e))
apart n m (inr (inr (inl e))) f three four five ten eleven = absurd (five (sym f ∙ e))
apart n m (inr (inr (inr (inl e)))) f three four five ten eleven = absurd (ten (sym f ∙ e))
apart n m (inr (inr (inr (inr e)))) f three four five ten eleven = absurd (eleven (sym f ∙ e))

-- why a part of a run was refused: quietly, or since the disk or the sources failed in it
abbrev HasCause : Device → Device → Store (List Stored) → Store (List Stored) → Refusal → Type 0
HasCause disk later sources drained refusal =
    (IsQuiet refusal.status × (later.faults ≡ disk.faults))
    ⊎ ((refusal ≡ disk_refusal) × Rose disk.faults later.faults)
    ⊎ ((refusal ≡ source_refusal) × (later.faults ≡ disk.faults) × Rose sources.faults drained.faults)

quiet_memory : IsQuiet 10
quiet_memory = inr (inr (inr (inl refl)))

-- want of memory is quiet
short : (disk later : Device) (sources drained : Store (List Stored)) (refusal : Refusal) → refusal ≡ memory_refusal → later.faults ≡ disk.faults
    → HasCause disk later sources drained refusal
short disk later sources drained refusal is kept =
    inl (subst (λ (r : Refusal). IsQuiet r.status) (sym is) quiet_memory, kept)

-- a demand is
demanded : (disk later : Device) (sources drained : Store (List Stored)) (refusal : Refusal) → (refusal.status ≡ 5) ⊎ (refusal ≡ memory_refusal)
    → later.faults ≡ disk.faults → HasCause disk later sources drained refusal
demanded disk later sources drained refusal (inl five) kept = inl (inr (inr (inl five)), kept)
demanded disk later sources drained refusal (inr is) kept = short disk later sources drained refusal is kept

module _ (request : Request) (list : List Definition) (disk later : Device) (sources drained : Store (List Stored)) where
  -- that no call failed
  abbrev Kept : Type 0
  Kept = (later.faults ≡ disk.faults) × (drained.faults ≡ sources.faults)

  image_cause : (refusal : Refusal) → ReadsImage request.sector request.empty disk later (Err refusal) → IsImageRefusal refusal
      → HasCause disk later sources drained refusal
  image_cause refusal reads (inl four) =
      inl (inr (inl four), kept_err disk_refusal refusal disk.faults later.faults reads.cause (λ e. absurd (omega (arith, four, e))))
  image_cause refusal reads (inr (inl failed)) = inr (inl (failed, reads.cause.failed (ap Err failed)))
  image_cause refusal reads (inr (inr is)) =
      short disk later sources drained refusal is
      (kept_err disk_refusal refusal disk.faults later.faults reads.cause
      (λ e. absurd (let ten = ap (λ (r : Refusal). r.status) is in omega (arith, ten, e))))

  by_goal : (left : Seen) (refusal : Refusal) (r : Result Plan Demand) → later.faults ≡ disk.faults
      → ◌≡◌ {A = Result Planned Refusal} (Err refusal) (and_then (refused (demand_refusal list) r) (λ plan. Ok (with_seen left plan)))
      → HasCause disk later sources drained refusal
  by_goal left refusal (Ok plan) kept e = no_ok (with_seen left plan) refusal e
  by_goal left refusal (Err demand) kept e =
      let same : refusal ≡ demand_refusal list demand = same_err {T = Planned} refusal (demand_refusal list demand) e in
      demanded disk later sources drained refusal
      (subst (λ (r : Refusal). (r.status ≡ 5) ⊎ (r ≡ memory_refusal)) (sym same) (demand_status list demand)) kept

  facts_cause : (left : Seen) (known : Result (List Fact) Refusal) (refusal : Refusal) → later.faults ≡ disk.faults
      → AsksSources request.seed left.shown list sources drained known → PlansBy request list left known (Err refusal)
      → HasCause disk later sources drained refusal
  facts_cause left (Err other) refusal kept asks e = by asks.refusal where
    same : refusal ≡ other
    same = same_err {T = Planned} refusal other e

    by : (other ≡ source_refusal) ⊎ (other ≡ memory_refusal) → HasCause disk later sources drained refusal
    by (inl failed) = inr (inr (same ∙ failed, kept, asks.cause.failed (ap Err failed)))
    by (inr is) = short disk later sources drained refusal (same ∙ is) kept
  facts_cause left (Ok facts) refusal kept asks (inl e) =
      by_goal left refusal (goal left (target_of request.size left) list facts request.seed) kept e
  facts_cause left (Ok facts) refusal kept asks (inr e) =
      short disk later sources drained refusal (same_err {T = Planned} refusal memory_refusal e) kept

  facts_kept : (left : Seen) (known : Result (List Fact) Refusal) (planned : Planned)
      → AsksSources request.seed left.shown list sources drained known → PlansBy request list left known (Ok planned)
      → drained.faults ≡ sources.faults
  facts_kept left (Err other) planned asks e = no_err planned other e
  facts_kept left (Ok facts) planned asks plans = kept_ok source_refusal sources.faults drained.faults facts asks.cause

  module _ (seen : Seen) (kept : later.faults ≡ disk.faults) where
    planned_cause : (reset : Option Plan) (planned : Result Planned Refusal) (refusal : Refusal)
        → PlansUnless false request list (seen_left seen reset) sources drained planned
        → ◌≡◌ {A = Result Renewal Refusal} (Err refusal) (renewed_by seen reset planned) → HasCause disk later sources drained refusal
    planned_cause reset (Ok planned) refusal plans e = no_ok (renewed seen reset planned) refusal e
    planned_cause reset (Err other) refusal plans e =
        subst (HasCause disk later sources drained) (sym (same_err {T = Renewal} refusal other e))
        (facts_cause (seen_left seen reset) plans.0 other kept plans.1 plans.2)

    left_cause : (reset : Option Plan) (refusal : Refusal) → RenewsLeft request list seen reset sources drained (Err refusal)
        → HasCause disk later sources drained refusal
    left_cause reset refusal (inl (e, same)) = short disk later sources drained refusal (same_err {T = Renewal} refusal memory_refusal e) kept
    left_cause reset refusal (inr (planned, plans, e)) = planned_cause reset planned refusal plans e

    reset_cause : (reset : Result (Option Plan) Refusal) (refusal : Refusal) → ResetsSeen list seen reset
        → RenewsBehind request list seen reset sources drained (Err refusal) → HasCause disk later sources drained refusal
    reset_cause (Err other) refusal (inl is) (e, same) =
        subst (HasCause disk later sources drained) (sym (same_err {T = Renewal} refusal other e))
        (demanded disk later sources drained other (by_demand list (reset_of seen list) other is) kept)
    reset_cause (Err other) refusal (inr is) (e, same) =
        short disk later sources drained refusal (same_err {T = Renewal} refusal other e ∙ same_err {T = Option Plan} other memory_refusal is) kept
    reset_cause (Ok reset) refusal resets left = left_cause reset refusal left

    unless_cause : (b : Bool) (refusal : Refusal) → RenewsUnless b request list seen sources drained (Err refusal)
        → HasCause disk later sources drained refusal
    unless_cause true refusal (e, same) =
        inl (subst (λ (r : Refusal). IsQuiet r.status) (sym (same_err {T = Renewal} refusal repair_refusal e)) (inr (inl refl)), kept)
    unless_cause false refusal (reset, resets, behind) = reset_cause reset refusal resets behind

    left_kept : (reset : Option Plan) (renewal : Renewal) → RenewsLeft request list seen reset sources drained (Ok renewal)
        → drained.faults ≡ sources.faults
    left_kept reset renewal (inl (e, same)) = no_err renewal memory_refusal e
    left_kept reset renewal (inr (Err other, plans, e)) = no_err renewal other e
    left_kept reset renewal (inr (Ok planned, plans, e)) = facts_kept (seen_left seen reset) plans.0 planned plans.1 plans.2

    reset_kept : (reset : Result (Option Plan) Refusal) (renewal : Renewal) → RenewsBehind request list seen reset sources drained (Ok renewal)
        → drained.faults ≡ sources.faults
    reset_kept (Err other) renewal (e, same) = no_err renewal other e
    reset_kept (Ok reset) renewal left = left_kept reset renewal left

    unless_kept : (b : Bool) (renewal : Renewal) → RenewsUnless b request list seen sources drained (Ok renewal) → drained.faults ≡ sources.faults
    unless_kept true renewal (e, same) = no_err renewal repair_refusal e
    unless_kept false renewal (reset, resets, behind) = reset_kept reset renewal behind

  seen_cause : (seen : Result Seen Refusal) (refusal : Refusal) → ReadsImage request.sector request.empty disk later seen
      → RenewsSeen request list seen sources drained (Err refusal) → HasCause disk later sources drained refusal
  seen_cause (Err other) refusal reads (e, same) =
      subst (HasCause disk later sources drained) (sym (same_err {T = Renewal} refusal other e)) (image_cause other reads reads.refusal)
  seen_cause (Ok seen) refusal reads renews =
      unless_cause seen (kept_ok disk_refusal disk.faults later.faults seen reads.cause) (must_repair request.size seen) refusal renews

  seen_kept : (seen : Result Seen Refusal) (renewal : Renewal) → ReadsImage request.sector request.empty disk later seen
      → RenewsSeen request list seen sources drained (Ok renewal) → (later.faults ≡ disk.faults) × (drained.faults ≡ sources.faults)
  seen_kept (Err other) renewal reads (e, same) = no_err renewal other e
  seen_kept (Ok seen) renewal reads renews =
      let kept = kept_ok disk_refusal disk.faults later.faults seen reads.cause in
      (kept, unless_kept seen kept (must_repair request.size seen) renewal renews)

-- why nothing is planned
renew_cause : (request : Request) (list : List Definition) (disk later : Device) (sources drained : Store (List Stored)) (refusal : Refusal)
    → RenewsImage request list disk later sources drained (Err refusal) → HasCause disk later sources drained refusal
renew_cause request list disk later sources drained refusal renews =
    seen_cause request list disk later sources drained renews.0 refusal renews.1 renews.2

-- where there is a plan, no call failed
renew_kept : (request : Request) (list : List Definition) (disk later : Device) (sources drained : Store (List Stored)) (renewal : Renewal)
    → RenewsImage request list disk later sources drained (Ok renewal) → (later.faults ≡ disk.faults) × (drained.faults ≡ sources.faults)
renew_kept request list disk later sources drained renewal renews =
    seen_kept request list disk later sources drained renews.0 renewal renews.1 renews.2

-- why a plan was broken off
carry_cause : (definitions : Definitions) (planned : Planned) (disk later : Device) (sources drained : Store (List Stored))
    (refusal : Refusal) → CarriesOut definitions planned disk later sources drained (Err refusal) → HasCause disk later sources drained refusal
carry_cause definitions planned disk later sources drained refusal carries = by carries.refusal where
  by : IsCommitRefusal planned refusal → HasCause disk later sources drained refusal
  by (inl failed) = inr (inl (failed, carries.cause.of_disk.failed (ap Err failed)))
  by (inr (inl failed)) =
      let eight : refusal.status ≡ 8 = ap (λ (r : Refusal). r.status) failed in
      inr (inr (
        failed,
        kept_err disk_refusal refusal disk.faults later.faults carries.cause.of_disk (λ e. absurd (omega (arith, eight, e))),
        carries.cause.of_sources.failed (ap Err failed),
      ))
  by (inr (inr (root, copied, changed, differ, any))) =
      let eleven : refusal.status ≡ 11 = ap (λ (r : Refusal). r.status) changed in
      inl (
        inr (inr (inr (inr eleven))),
        kept_err disk_refusal refusal disk.faults later.faults carries.cause.of_disk (λ e. absurd (omega (arith, eleven, e))),
      )

carry_kept : (definitions : Definitions) (planned : Planned) (disk later : Device) (sources drained : Store (List Stored))
    → CarriesOut definitions planned disk later sources drained (Ok tt) → (later.faults ≡ disk.faults) × (drained.faults ≡ sources.faults)
carry_kept definitions planned disk later sources drained carries = (
  kept_ok disk_refusal disk.faults later.faults tt carries.cause.of_disk,
  kept_ok source_refusal sources.faults drained.faults tt carries.cause.of_sources,
)

-- the cause of a later part is one of the whole, if no call failed before
behind_kept : (disk mid later : Device) (sources between drained : Store (List Stored)) (refusal : Refusal) → mid.faults ≡ disk.faults
    → between.faults ≡ sources.faults → HasCause mid later between drained refusal → HasCause disk later sources drained refusal
behind_kept disk mid later sources between drained refusal kept kept_sources (inl (is, same)) = inl (is, same ∙ kept)
behind_kept disk mid later sources between drained refusal kept kept_sources (inr (inl (is, rose))) =
    inr (inl (is, subst (λ (n : ℕ). Rose n later.faults) kept rose))
behind_kept disk mid later sources between drained refusal kept kept_sources (inr (inr (is, same, rose))) =
    inr (inr (is, same ∙ kept, subst (λ (n : ℕ). Rose n drained.faults) kept_sources rose))

module _ (definitions : Definitions) (renewal : Renewal) (disk later : Device) (sources drained : Store (List Stored)) where
  both_cause : (reset : Plan) (refusal : Refusal) (carries : CarriesBoth definitions renewal reset disk later sources drained (Err refusal))
      → (outcome : Outcome) → CarriesOut definitions (with_reset renewal reset) disk carries.middle sources carries.between outcome
      → GoesOn definitions renewal.planned carries.middle later carries.between drained outcome (Err refusal)
      → HasCause disk later sources drained refusal
  both_cause reset refusal carries (Ok done) resets goes_on =
      let kept = carry_kept definitions (with_reset renewal reset) disk carries.middle sources carries.between resets in
      behind_kept disk carries.middle later sources carries.between drained refusal kept.0 kept.1
      (carry_cause definitions renewal.planned carries.middle later carries.between drained refusal goes_on)
  both_cause reset refusal carries (Err other) resets (same, same_sources, is) =
      let cause : HasCause disk carries.middle sources carries.between refusal =
      subst (HasCause disk carries.middle sources carries.between) (sym (same_err {T = Unit {0}} refusal other is))
      (carry_cause definitions (with_reset renewal reset) disk carries.middle sources carries.between other resets) in
      subst (λ (d : Device). HasCause disk d sources drained refusal) (sym same)
      (subst (λ (s : Store (List Stored)). HasCause disk carries.middle sources s refusal) (sym same_sources) cause)

  both_kept : (reset : Plan) (carries : CarriesBoth definitions renewal reset disk later sources drained (Ok tt))
      → (outcome : Outcome) → CarriesOut definitions (with_reset renewal reset) disk carries.middle sources carries.between outcome
      → GoesOn definitions renewal.planned carries.middle later carries.between drained outcome (Ok tt)
      → (later.faults ≡ disk.faults) × (drained.faults ≡ sources.faults)
  both_kept reset carries (Ok done) resets goes_on =
      let first = carry_kept definitions (with_reset renewal reset) disk carries.middle sources carries.between resets in
      let then = carry_kept definitions renewal.planned carries.middle later carries.between drained goes_on in
      (then.0 ∙ first.0, then.1 ∙ first.1)
  both_kept reset carries (Err other) resets (same, same_sources, is) = no_err {T = Unit {0}} tt other is

  renewal_cause : (o : Option Plan) (refusal : Refusal) → CarriesRenewal definitions renewal o disk later sources drained (Err refusal)
      → HasCause disk later sources drained refusal
  renewal_cause None refusal carries = carry_cause definitions renewal.planned disk later sources drained refusal carries
  renewal_cause (Some reset) refusal carries = both_cause reset refusal carries carries.outcome carries.resets carries.goes_on

  renewal_kept : (o : Option Plan) → CarriesRenewal definitions renewal o disk later sources drained (Ok tt)
      → (later.faults ≡ disk.faults) × (drained.faults ≡ sources.faults)
  renewal_kept None carries = carry_kept definitions renewal.planned disk later sources drained carries
  renewal_kept (Some reset) carries = both_kept reset carries carries.outcome carries.resets carries.goes_on

-- two numbers that differ are no one status
clash : {P : Type 0} (status a b : ℕ) → status ≡ a → status ≡ b → (a ≡ b → ⊥) → P
clash status a b e f differ = absurd (differ (sym e ∙ f))

module _ (folders read : Store Tree) (disk later : Device) (sources drained : Store (List Stored)) (out after : Output) (status : ℕ) where
  abbrev All : Type 0
  All = HasResetCauses folders read disk later sources drained out after status

  by_quiet : IsQuiet status → later.faults ≡ disk.faults → All
  by_quiet is kept = record {
    causes = record {
      disk_failed = λ e. apart status 7 is e (λ h. omega arith) (λ h. omega arith) (λ h. omega arith) (λ h. omega arith) (λ h. omega arith);
      disk_kept = inr kept;
      sink_failed = λ e. apart status 9 is e (λ h. omega arith) (λ h. omega arith) (λ h. omega arith) (λ h. omega arith) (λ h. omega arith);
      sink_kept = λ e. apart status 0 is e (λ h. omega arith) (λ h. omega arith) (λ h. omega arith) (λ h. omega arith) (λ h. omega arith);
    };
    files = record {
      failed = λ e. apart status 8 is e (λ h. omega arith) (λ h. omega arith) (λ h. omega arith) (λ h. omega arith) (λ h. omega arith);
      kept = λ e. apart status 0 is e (λ h. omega arith) (λ h. omega arith) (λ h. omega arith) (λ h. omega arith) (λ h. omega arith);
    };
    words = λ e. apart status 2 is e (λ h. omega arith) (λ h. omega arith) (λ h. omega arith) (λ h. omega arith) (λ h. omega arith);
  }

  by_disk : Rose disk.faults later.faults → status ≡ 7 → All
  by_disk rose e = record {
    causes = record {
      disk_failed = λ f. rose;
      disk_kept = inl e;
      sink_failed = λ f. clash status 7 9 e f (λ h. omega arith);
      sink_kept = λ f. clash status 7 0 e f (λ h. omega arith);
    };
    files = record { failed = λ f. clash status 7 8 e f (λ h. omega arith); kept = λ f. clash status 7 0 e f (λ h. omega arith) };
    words = λ f. clash status 7 2 e f (λ h. omega arith);
  }

  by_files : later.faults ≡ disk.faults → TellsFailure folders read sources drained out after → status ≡ 8 → All
  by_files kept tells e = record {
    causes = record {
      disk_failed = λ f. clash status 8 7 e f (λ h. omega arith);
      disk_kept = inr kept;
      sink_failed = λ f. clash status 8 9 e f (λ h. omega arith);
      sink_kept = λ f. clash status 8 0 e f (λ h. omega arith);
    };
    files = record { failed = λ f. tells; kept = λ f. clash status 8 0 e f (λ h. omega arith) };
    words = λ f. clash status 8 2 e f (λ h. omega arith);
  }

  by_finish : (text : List ℕ) → later.faults ≡ disk.faults → read.faults ≡ folders.faults → drained.faults ≡ sources.faults
      → Finishes out after text status → All
  by_finish text kept folders_kept sources_kept (inl (e, printed)) = record {
    causes = record {
      disk_failed = λ f. clash status 0 7 e f (λ h. omega arith);
      disk_kept = inr kept;
      sink_failed = λ f. clash status 0 9 e f (λ h. omega arith);
      sink_kept = λ f. printed.kept;
    };
    files = record { failed = λ f. clash status 0 8 e f (λ h. omega arith); kept = λ f. (folders_kept, sources_kept) };
    words = λ f. clash status 0 2 e f (λ h. omega arith);
  }
  by_finish text kept folders_kept sources_kept (inr (e, printed)) = record {
    causes = record {
      disk_failed = λ f. clash status 9 7 e f (λ h. omega arith);
      disk_kept = inr kept;
      sink_failed = λ f. printed.rose;
      sink_kept = λ f. clash status 9 0 e f (λ h. omega arith);
    };
    files = record { failed = λ f. clash status 9 8 e f (λ h. omega arith); kept = λ f. clash status 9 0 e f (λ h. omega arith) };
    words = λ f. clash status 9 2 e f (λ h. omega arith);
  }

  -- by the cause of a refusal
  by_cause : (refusal : Refusal) → HasCause disk later sources drained refusal → Refuses out after refusal status → All
  by_cause refusal (inl (is, kept)) refuses = by_quiet (subst IsQuiet (sym refuses.answers) is) kept
  by_cause refusal (inr (inl (is, rose))) refuses = by_disk rose (refuses.answers ∙ ap (λ (r : Refusal). r.status) is)
  by_cause refusal (inr (inr (is, kept, rose))) refuses =
      by_files kept (inr (rose, subst (λ (r : Refusal). Prints out after (line_of r)) is refuses.printed))
      (refuses.answers ∙ ap (λ (r : Refusal). r.status) is)

  -- the definitions are refused
  by_reading : (refusal : Refusal) → HasStageCause {T = Definitions} folder_refusal folders.faults read.faults (Err refusal) → IsReadingRefusal refusal
      → later.faults ≡ disk.faults → Refuses out after refusal status → All
  by_reading refusal cause (inl three) kept refuses = by_quiet (inl (refuses.answers ∙ three)) kept
  by_reading refusal cause (inr (inl failed)) kept refuses =
      by_files kept (inl (cause.failed (ap Err failed), subst (λ (r : Refusal). Prints out after (line_of r)) failed refuses.printed))
      (refuses.answers ∙ ap (λ (r : Refusal). r.status) failed)
  by_reading refusal cause (inr (inr is)) kept refuses =
      by_quiet (subst IsQuiet (sym (refuses.answers ∙ ap (λ (r : Refusal). r.status) is)) quiet_memory) kept

  memory_cause : Refuses out after memory_refusal status → later.faults ≡ disk.faults → All
  memory_cause refuses kept = by_quiet (subst IsQuiet (sym refuses.answers) quiet_memory) kept

  module _ (request : Request) (json : Bool) (dirs : List (List ℕ)) where
    plan_told : (definitions : Definitions) → read.faults ≡ folders.faults → (answer : Result Renewal Refusal)
        → RenewsImage request definitions.list disk later sources drained answer → Tells json definitions out after status answer → All
    plan_told definitions folders_kept (Err refusal) renews refuses =
        by_cause refusal (renew_cause request definitions.list disk later sources drained refusal renews) refuses
    plan_told definitions folders_kept (Ok renewal) renews (inl finishes) =
        let kept = renew_kept request definitions.list disk later sources drained renewal renews in
        by_finish (renewal_report json definitions renewal false) kept.0 folders_kept kept.1 finishes
    plan_told definitions folders_kept (Ok renewal) renews (inr refuses) =
        memory_cause refuses (renew_kept request definitions.list disk later sources drained renewal renews).0

    plan_behind : (definitions : Result Definitions Refusal) → ReadsDefinitions request.arch dirs folders read definitions
        → PlansBehind request json definitions disk later sources drained out after status → All
    plan_behind (Err refusal) reads (same, same_sources, refuses) =
        by_reading refusal reads.cause reads.refusal (ap (λ (d : Device). d.faults) same) refuses
    plan_behind (Ok definitions) reads (answer, renews, tells) =
        plan_told definitions (kept_ok folder_refusal folders.faults read.faults definitions reads.cause) answer renews tells

    -- of `plan`
    pub plan_reset_causes : PlansReset request json dirs folders read disk later sources drained out after status → All
    plan_reset_causes (definitions, reads, behind) = plan_behind definitions reads behind

    ends_here : (mid : Device) (asked : Store (List Stored)) (refusal : Refusal) → HasCause disk mid sources asked refusal
        → EndsHere mid later asked drained out after status refusal → All
    ends_here mid asked refusal cause (same, same_sources, refuses) =
        by_cause refusal (subst (λ (d : Device). HasCause disk d sources drained refusal) (sym same)
        (subst (λ (s : Store (List Stored)). HasCause disk mid sources s refusal) (sym same_sources) cause)) refuses

    committed : (definitions : Definitions) → read.faults ≡ folders.faults → (mid : Device) (asked : Store (List Stored)) → mid.faults ≡ disk.faults
        → asked.faults ≡ sources.faults → (renewal : Renewal) (answer : Outcome)
        → CarriesRenewal definitions renewal renewal.reset mid later asked drained answer
        → TellsApplied json definitions renewal out after status answer → All
    committed definitions folders_kept mid asked kept kept_sources renewal (Ok done) carries finishes =
        let then = renewal_kept definitions renewal mid later asked drained renewal.reset carries in
        by_finish (renewal_report json definitions renewal true) (then.0 ∙ kept) folders_kept (then.1 ∙ kept_sources) finishes
    committed definitions folders_kept mid asked kept kept_sources renewal (Err refusal) carries refuses =
        by_cause refusal (behind_kept disk mid later sources asked drained refusal kept kept_sources
        (renewal_cause definitions renewal mid later asked drained renewal.reset refusal carries)) refuses

    apply_told : (definitions : Definitions) → read.faults ≡ folders.faults → (opened mid : Device) (asked : Store (List Stored))
        → opened.faults ≡ disk.faults → (answer : Result Renewal Refusal)
        → RenewsImage request definitions.list opened mid sources asked answer
        → AppliesPlanned json definitions mid later asked drained out after status answer → All
    apply_told definitions folders_kept opened mid asked kept (Err refusal) renews here =
        ends_here mid asked refusal (behind_kept disk opened mid sources sources asked refusal kept refl
        (renew_cause request definitions.list opened mid sources asked refusal renews)) here
    apply_told definitions folders_kept opened mid asked kept (Ok renewal) renews (inl here) =
        let then = renew_kept request definitions.list opened mid sources asked renewal renews in
        ends_here mid asked memory_refusal (short disk mid sources asked memory_refusal refl (then.0 ∙ kept)) here
    apply_told definitions folders_kept opened mid asked kept (Ok renewal) renews (inr (answer, carries, tells)) =
        let then = renew_kept request definitions.list opened mid sources asked renewal renews in
        committed definitions folders_kept mid asked (then.0 ∙ kept) then.1 renewal answer carries tells

    apply_opened : (definitions : Definitions) → read.faults ≡ folders.faults → (opened : Device) (answer : Outcome)
        → Opens disk opened answer → AppliesOpened request json definitions opened later sources drained out after status answer → All
    apply_opened definitions folders_kept opened (Err refusal) opens here =
        ends_here opened sources refusal (inr (inl (opens.refusal, opens.cause.failed (ap Err opens.refusal)))) here
    apply_opened definitions folders_kept opened (Ok done) opens (mid, asked, answer, renews, fits, applies) =
        apply_told definitions folders_kept opened mid asked (kept_ok disk_refusal disk.faults opened.faults done opens.cause) answer renews applies

    apply_behind : (definitions : Result Definitions Refusal) → ReadsDefinitions request.arch dirs folders read definitions
        → AppliesBehind request json disk later sources drained out after status definitions → All
    apply_behind (Err refusal) reads (same, same_sources, refuses) =
        by_reading refusal reads.cause reads.refusal (ap (λ (d : Device). d.faults) same) refuses
    apply_behind (Ok definitions) reads (opened, answer, opens, applies) =
        apply_opened definitions (kept_ok folder_refusal folders.faults read.faults definitions reads.cause) opened answer opens applies

    -- of `apply`
    pub apply_reset_causes : AppliesReset request json dirs folders read disk later sources drained out after status → All
    apply_reset_causes (definitions, reads, behind) = apply_behind definitions reads behind
