-- What is planned with a factory reset is what is told of folders, image and sources.
use Rattle.std.proofs.Common.{◌≡◌, ◌⊎◌, ◌∙◌, ℕ, ◌++◌, Bool, true, false, List, [], ◌∷◌, Option, Some, None, Result, Ok, Err, refl, sym, ap, subst, inl, inr, arith}
use Rattle.std.specs.Prelude.{IfSome, IsErrAnd, IsOkAnd}
use Rattle.rp_apply_command.proofs.Runs.{same_shown}
use Rattle.rp_apply_command.specs.Applies.{ForEachPast, Opens, Outcome}
use Rattle.rp_apply_command.specs.Ends.{IsBetween}
use Rattle.rp_base.specs.declared.plan.Plan.{Plan}
use Rattle.rp_base.specs.declared.seen.Seen.{Seen}
use Rattle.rp_defs.specs.declared.definition.Definition.{Definition}
use Rattle.rp_defs.specs.declared.definition.Definitions.{Definitions}
use Rattle.rp_disk.specs.Device.{Earlier, IsPossible}
use Rattle.rp_disk.specs.History.{History, held}
use Rattle.rp_disk.specs.Made.{Made, Past, dones, history_of, history_told}
use Rattle.rp_disk.specs.declared.call.Call.TheVariants.{Sync}
use Rattle.rp_disk.proofs.Noting.{earlier_same, earlier_then, known_told, possible_before}
use Rattle.rp_io.specs.Files.{Tree}
use Rattle.rp_io.specs.declared.stored.Stored.{Stored}
use Rattle.rp_outcome.specs.Demands.{demand_refusal}
use Rattle.rp_outcome.specs.Device.{Device}
use Rattle.rp_outcome.specs.Output.{Output, Finishes, Prints, PrintsAll, PrintsPart, Refuses}
use Rattle.rp_outcome.specs.Refusals.{Refusal, disk_refusal, folder_refusal, line_of, memory_refusal, repair_refusal, source_refusal}
use Rattle.rp_outcome.specs.Store.{Store}
use Rattle.rp_plan_command.specs.Statuses.{IsRefused, WhereTold}
use Rattle.rp_planned.specs.Planning.{AsksSources, PlansBy, PlansUnless, ReadsImage, must_repair, planned_by, planned_unless, seen_of}
use Rattle.rp_planned.specs.declared.planned.Planned.{Planned}
use Rattle.rp_planned.specs.declared.request.Request.{Request}
use Rattle.rp_reading.specs.Reading.{ReadsDefinitions, definitions_in}
use Rattle.rp_reading.specs.Stages.{Settles, and_then, refused}
use Rattle.rp_reset.specs.Reset.{reset as reset_of}
use Rattle.rp_reset_command.proofs.Refused.{IsRefused as IsNone, none_renewed}
use Rattle.rp_reset_command.specs.Applies.{AppliesBehind, AppliesOpened, AppliesPlanned, AppliesReset, CarriesRenewal, GoesOn, TellsApplied}
use Rattle.rp_reset_command.specs.Plans.{PlansBehind, PlansReset, Tells}
use Rattle.rp_reset_command.specs.Renewing.{RenewsBehind, RenewsImage, RenewsLeft, RenewsSeen, RenewsUnless, ResetsSeen, renewal_of, renewal_unless, renewed_by, seen_left}
use Rattle.rp_reset_command.specs.Reports.{renewal_report}
use Rattle.rp_reset_command.specs.declared.renewal.Renewal.{Renewal}
use Rattle.rp_sizes.specs.Facts.{facts}
use Rattle.rp_sizes.specs.declared.need.Fact.{Fact}
use Rattle.rp_reset_promise.proofs.Ended.{broken_status}
use Rattle.rp_reset_promise.specs.Told.{AnswersReset, told_reset}

same_err : {T : Type 0} (a b : Refusal) → ◌≡◌ {A = Result T Refusal} (Err a) (Err b) → a ≡ b
same_err a b e = cc

no_err : {P T : Type 0} (value : T) (refusal : Refusal) → ◌≡◌ {A = Result T Refusal} (Ok value) (Err refusal) → P
no_err value refusal e = absurd (cc)

no_ok : {P T : Type 0} (value : T) (refusal : Refusal) → ◌≡◌ {A = Result T Refusal} (Err refusal) (Ok value) → P
no_ok value refusal e = absurd (cc)

-- a refusal's status is none from 6 up, and isn't 0
far : {P : Type 0} (n m : ℕ) → IsRefused n → n ≡ m → (m ≡ 3 → ⊥) → (m ≡ 4 → ⊥) → (m ≡ 5 → ⊥) → P
far n m (inl e) f three four five = absurd (three (sym f ∙ e))
far n m (inr (inl e)) f three four five = absurd (four (sym f ∙ e))
far n m (inr (inr e)) f three four five = absurd (five (sym f ∙ e))

-- an answer that tells of no failure and of no want of memory
abbrev IsTelling : {T : Type 0} → Result T Refusal → Type 0
IsTelling (Ok value) = Unit {0}
IsTelling (Err refusal) = IsRefused refusal.status

-- so it is the definition's
settled : {T : Type 0} (failure : Refusal) (ideal answer : Result T Refusal) → IsTelling answer
    → (failure.status ≡ 3 → ⊥) → (failure.status ≡ 4 → ⊥) → (failure.status ≡ 5 → ⊥) → Settles failure ideal answer → ideal ≡ answer
settled failure ideal answer telling three four five (inl same) = sym same
settled failure ideal (Ok value) telling three four five (inr (inl e)) = no_err value failure e
settled {T = T} failure ideal (Err refusal) telling three four five (inr (inl e)) =
    far refusal.status failure.status telling (ap (λ (r : Refusal). r.status) (same_err {T = T} refusal failure e)) three four five
settled failure ideal (Ok value) telling three four five (inr (inr e)) = no_err value memory_refusal e
settled {T = T} failure ideal (Err refusal) telling three four five (inr (inr e)) =
    far refusal.status 10 telling (ap (λ (r : Refusal). r.status) (same_err {T = T} refusal memory_refusal e)) (λ h. omega arith) (λ h. omega arith) (λ h. omega arith)

-- what follows from what both tell
where_both : {A B : Type 0} (o : Option A) (t : Option B) (P : A → Type 0) (Q : B → Type 0) (R : A → B → Type 0)
    → ((a : A) (b : B) → P a → Q b → R a b) → IfSome o P → IfSome t Q → IfSome o (λ a. IfSome t (R a))
where_both None t P Q R all p q = tt
where_both (Some a) None P Q R all p q = tt
where_both (Some a) (Some b) P Q R all p q = all a b p q

where_any : {A : Type 0} (o : Option A) → IfSome o (λ _. Unit {0})
where_any None = tt
where_any (Some a) = tt

not_memory : {P : Type 0} (refusal : Refusal) → IsRefused refusal.status → refusal ≡ memory_refusal → P
not_memory refusal is same = far refusal.status 10 is (ap (λ (r : Refusal). r.status) same) (λ h. omega arith) (λ h. omega arith) (λ h. omega arith)

module _ (request : Request) (list : List Definition) (disk later : Device) (sources drained : Store (List Stored)) (o : Option Past)
    (can : IsPossible o later) where
  -- what is told of the image and the sources is this answer
  abbrev ToldSo : Result Renewal Refusal → Type 0
  ToldSo answer = IfSome (history_told o disk.calls) (λ h. IfSome sources.told (λ files. renewal_of request list (held h) files ≡ answer))

  abbrev Sighted : Result Seen Refusal → Type 0
  Sighted seen = IfSome (history_told o disk.calls) (λ h. seen_of request.sector request.empty (held h) ≡ seen)

  sighted : (seen : Result Seen Refusal) → IsTelling seen → ReadsImage request.sector request.empty disk later seen → Sighted seen
  sighted seen telling reads = by (history_told o disk.calls) (known_told o disk later _ reads.settled can) where
    by : (o : Option History) → IfSome o (λ h. Settles disk_refusal (seen_of request.sector request.empty (held h)) seen)
        → IfSome o (λ h. seen_of request.sector request.empty (held h) ≡ seen)
    by None settles = tt
    by (Some h) settles = settled disk_refusal (seen_of request.sector request.empty (held h)) seen telling (λ h. omega (arith, h)) (λ h. omega (arith, h))
        (λ h. omega (arith, h)) settles

  -- by what is seen of the image
  behind_seen : (seen : Seen) (answer : Result Renewal Refusal) (Q : List Stored → Type 0) → Sighted (Ok seen)
      → ((files : List Stored) → Q files → renewal_unless (must_repair request.size seen) request list files seen ≡ answer) → IfSome sources.told Q → ToldSo answer
  behind_seen seen answer Q sight by_files told =
      where_both (history_told o disk.calls) sources.told (λ h. seen_of request.sector request.empty (held h) ≡ Ok seen) Q
      (λ h files. renewal_of request list (held h) files ≡ answer)
      (λ h files is q.
      ap (λ (s : Result Seen Refusal). and_then s (λ seen. renewal_unless (must_repair request.size seen) request list files seen)) is ∙ by_files files q)
      sight told

  module _ (seen : Seen) (sight : Sighted (Ok seen)) (repaired : must_repair request.size seen ≡ false) where
    -- by the reset
    behind_reset : (reset : Result (Option Plan) Refusal) (answer : Result Renewal Refusal) (Q : List Stored → Type 0)
        → refused (demand_refusal list) (reset_of seen list) ≡ reset
        → ((files : List Stored) → Q files
        → and_then reset (λ reset. renewed_by seen reset (planned_unless false request list files (seen_left seen reset))) ≡ answer)
        → IfSome sources.told Q → ToldSo answer
    behind_reset reset answer Q is by_files told =
        behind_seen seen answer Q sight
        (λ files q. ap (λ (b : Bool). renewal_unless b request list files seen) repaired
        ∙ ap (λ (r : Result (Option Plan) Refusal). and_then r (λ reset. renewed_by seen reset (planned_unless false request list files (seen_left seen reset)))) is
        ∙ by_files files q) told

    module _ (reset : Option Plan) (is : refused (demand_refusal list) (reset_of seen list) ≡ Ok reset) where
      facts_told : (known : List Fact) (planned : Result Planned Refusal)
          → AsksSources request.seed (seen_left seen reset).shown list sources drained (Ok known)
          → planned ≡ planned_by request list (seen_left seen reset) known → ToldSo (renewed_by seen reset planned)
      facts_told known planned asks same =
          behind_reset (Ok reset) (renewed_by seen reset planned)
          (λ files. Settles source_refusal (Ok (facts request.seed files (seen_left seen reset).shown list)) (Ok known)) is
          (λ files settles. ap (renewed_by seen reset)
          (ap (planned_by request list (seen_left seen reset)) (same_facts known (facts request.seed files (seen_left seen reset).shown list) settles) ∙ sym same))
          asks.settled where
            same_facts : (known others : List Fact) → Settles source_refusal (Ok others) (Ok known) → others ≡ known
            same_facts known others (inl e) = cc
            same_facts known others (inr (inl e)) = absurd (cc)
            same_facts known others (inr (inr e)) = absurd (cc)

      -- of a refusal the status says what it tells
      planned_told : (known : Result (List Fact) Refusal) (planned : Result Planned Refusal) → IsTelling planned
          → AsksSources request.seed (seen_left seen reset).shown list sources drained known → PlansBy request list (seen_left seen reset) known planned
          → ToldSo (renewed_by seen reset planned)
      planned_told (Err other) (Ok planned) telling asks e = no_err planned other e
      planned_told (Err other) (Err refusal) telling asks e = by asks.refusal where
        same : refusal ≡ other
        same = same_err {T = Planned} refusal other e

        by : (other ≡ source_refusal) ⊎ (other ≡ memory_refusal) → ToldSo (renewed_by seen reset (Err refusal))
        by (inl failed) = far refusal.status 8 telling (ap (λ (r : Refusal). r.status) (same ∙ failed)) (λ h. omega arith) (λ h. omega arith) (λ h. omega arith)
        by (inr short) = not_memory refusal telling (same ∙ short)
      planned_told (Ok known) planned telling asks (inl same) = facts_told known planned asks same
      planned_told (Ok known) (Ok planned) telling asks (inr e) = no_err planned memory_refusal e
      planned_told (Ok known) (Err refusal) telling asks (inr e) = not_memory refusal telling (same_err {T = Planned} refusal memory_refusal e)

      by_planned : (planned : Result Planned Refusal) (answer : Result Renewal Refusal) → IsTelling answer
          → PlansUnless false request list (seen_left seen reset) sources drained planned → answer ≡ renewed_by seen reset planned → ToldSo answer
      by_planned (Ok planned) answer telling plans e =
          subst ToldSo (sym e) (planned_told plans.0 (Ok planned) tt plans.1 plans.2)
      by_planned (Err refusal) answer telling plans e =
          subst ToldSo (sym e) (planned_told plans.0 (Err refusal) (subst (λ (a : Result Renewal Refusal). IsTelling a) e telling) plans.1 plans.2)

      by_left : (answer : Result Renewal Refusal) → IsTelling answer → RenewsLeft request list seen reset sources drained answer → ToldSo answer
      by_left (Ok renewal) telling (inl (e, same)) = no_err renewal memory_refusal e
      by_left (Err refusal) telling (inl (e, same)) = not_memory refusal telling (same_err {T = Renewal} refusal memory_refusal e)
      by_left answer telling (inr (planned, plans, e)) = by_planned planned answer telling plans e

    by_reset : (reset : Result (Option Plan) Refusal) (answer : Result Renewal Refusal) → IsTelling answer → ResetsSeen list seen reset
        → RenewsBehind request list seen reset sources drained answer → ToldSo answer
    by_reset (Err other) answer telling (inl is) (e, same) =
        subst ToldSo (sym e) (behind_reset (Err other) (Err other) (λ _. Unit {0}) (sym is) (λ files none. refl) (where_any sources.told))
    by_reset (Err other) answer telling (inr is) (e, same) =
        not_memory other (subst (λ (a : Result Renewal Refusal). IsTelling a) e telling) (same_err {T = Option Plan} other memory_refusal is)
    by_reset (Ok reset) answer telling (inl is) left = by_left reset (sym is) answer telling left
    by_reset (Ok reset) answer telling (inr e) left = no_err reset memory_refusal e

  by_repair : (seen : Seen) (b : Bool) (answer : Result Renewal Refusal) → IsTelling answer → must_repair request.size seen ≡ b → Sighted (Ok seen)
      → RenewsUnless b request list seen sources drained answer → ToldSo answer
  by_repair seen true answer telling is sight (e, same) =
      subst ToldSo (sym e) (behind_seen seen (Err repair_refusal) (λ _. Unit {0}) sight
      (λ files none. ap (λ (b : Bool). renewal_unless b request list files seen) is) (where_any sources.told))
  by_repair seen false answer telling is sight (reset, resets, behind) = by_reset seen sight is reset answer telling resets behind

  by_seen : (seen : Result Seen Refusal) (answer : Result Renewal Refusal) → IsTelling answer → ReadsImage request.sector request.empty disk later seen
      → RenewsSeen request list seen sources drained answer → ToldSo answer
  by_seen (Err other) answer telling reads (e, same) =
      subst ToldSo (sym e) (where_both (history_told o disk.calls) sources.told (λ h. seen_of request.sector request.empty (held h) ≡ Err other) (λ _. Unit {0})
      (λ h files. renewal_of request list (held h) files ≡ Err other)
      (λ h files is none. ap (λ (s : Result Seen Refusal). and_then s (λ seen. renewal_unless (must_repair request.size seen) request list files seen)) is)
      (sighted (Err other) (subst (λ (a : Result Renewal Refusal). IsTelling a) e telling) reads) (where_any sources.told))
  by_seen (Ok seen) answer telling reads renews =
      by_repair seen (must_repair request.size seen) answer telling refl (sighted (Ok seen) tt reads) renews

-- what is planned for an image is what is told of it
pub renewal_told : (request : Request) (list : List Definition) (disk later : Device) (sources drained : Store (List Stored))
    (o : Option Past) → IsPossible o later → (answer : Result Renewal Refusal) → IsTelling answer
    → RenewsImage request list disk later sources drained answer
    → IfSome (history_told o disk.calls) (λ h. IfSome sources.told (λ files. renewal_of request list (held h) files ≡ answer))
renewal_told request list disk later sources drained o can answer telling renews =
    by_seen request list disk later sources drained o can renews.0 answer telling renews.1 renews.2

-- what was made of a disk follows what was noted of it
renewal_earlier : (definitions : Definitions) (renewal : Renewal) (o : Option Plan) (disk later : Device) (sources drained : Store (List Stored))
    (answer : Outcome) → CarriesRenewal definitions renewal o disk later sources drained answer → Earlier disk later
renewal_earlier definitions renewal None disk later sources drained answer carries = carries.earlier
renewal_earlier definitions renewal (Some reset) disk later sources drained answer carries =
    earlier_then carries.resets.earlier (by carries.outcome carries.goes_on) where
      by : (outcome : Outcome) → GoesOn definitions renewal.planned carries.middle later carries.between drained outcome answer
          → Earlier carries.middle later
      by (Ok done) goes_on = goes_on.earlier
      by (Err refusal) (same, same_sources, is) = subst (Earlier carries.middle) (sym same) (earlier_same carries.middle)

module _ (request : Request) (json : Bool) (dirs : List (List ℕ)) (folders read : Store Tree) (disk later : Device)
    (sources drained : Store (List Stored)) (out after : Output) (status : ℕ) (applied : Bool) where
  abbrev All : Type 0
  All = AnswersReset request json dirs folders disk later sources out after status applied

  -- this is told of the folders, the image and the sources
  abbrev Told : Result (Definitions × Renewal) Refusal → Type 0
  Told answer = WhereTold folders disk later sources (λ tree image files. told_reset request dirs tree image files ≡ answer)

  -- what follows where all three tell
  more : {A B C : Type 0} (o : Option A) (p : Option B) (q : Option C) (P Q : A → B → C → Type 0) → ((a : A) (b : B) (c : C) → P a b c → Q a b c)
      → IfSome o (λ a. IfSome p (λ b. IfSome q (λ c. P a b c))) → IfSome o (λ a. IfSome p (λ b. IfSome q (λ c. Q a b c)))
  more None p q P Q each holds = tt
  more (Some a) None q P Q each holds = tt
  more (Some a) (Some b) None P Q each holds = tt
  more (Some a) (Some b) (Some c) P Q each holds = each a b c holds

  by_refusal : (refusal : Refusal) → IsRefused refusal.status → Told (Err refusal) → Refuses out after refusal status → All
  by_refusal refusal is told refuses = let e : refusal.status ≡ status = sym refuses.answers in record {
    refused = λ f o can.
        more folders.told (history_told o disk.calls) sources.told _ _
        (λ tree h files told. subst (λ (answer : Result (Definitions × Renewal) Refusal).
        IsErrAnd answer (λ refusal. (refusal.status ≡ status) × Prints out after (line_of refusal))) (sym told) (e, refuses.printed)) (told o can);
    done = λ f. far refusal.status 0 is (e ∙ f) (λ h. omega arith) (λ h. omega arith) (λ h. omega arith);
    cut = λ f. far refusal.status 9 is (e ∙ f) (λ h. omega arith) (λ h. omega arith) (λ h. omega arith);
  }

  by_finish : (definitions : Definitions) (renewal : Renewal) → Told (Ok (definitions, renewal))
      → Finishes out after (renewal_report json definitions renewal applied) status → All
  by_finish definitions renewal told (inl (e, printed)) = record {
    refused = λ f. far status 0 f e (λ h. omega arith) (λ h. omega arith) (λ h. omega arith);
    done = λ f o can.
        more folders.told (history_told o disk.calls) sources.told _ _
        (λ tree h files told. subst (λ (answer : Result (Definitions × Renewal) Refusal).
        IsOkAnd answer (λ told. PrintsAll out after (renewal_report json told.0 told.1 applied))) (sym told) printed) (told o can);
    cut = λ f. absurd (omega (arith, e, f));
  }
  by_finish definitions renewal told (inr (e, printed)) = record {
    refused = λ f. far status 9 f e (λ h. omega arith) (λ h. omega arith) (λ h. omega arith);
    done = λ f. absurd (omega (arith, e, f));
    cut = λ f o can.
        more folders.told (history_told o disk.calls) sources.told _ _
        (λ tree h files told. subst (λ (answer : Result (Definitions × Renewal) Refusal).
        IsOkAnd answer (λ told. PrintsPart out after (renewal_report json told.0 told.1 applied))) (sym told) printed) (told o can);
  }

  -- at other statuses nothing is said
  by_between : IsBetween status → All
  by_between (inl e) = record {
    refused = λ f. far status 7 f e (λ h. omega arith) (λ h. omega arith) (λ h. omega arith);
    done = λ f. absurd (omega (arith, e, f));
    cut = λ f. absurd (omega (arith, e, f));
  }
  by_between (inr (inl e)) = record {
    refused = λ f. far status 8 f e (λ h. omega arith) (λ h. omega arith) (λ h. omega arith);
    done = λ f. absurd (omega (arith, e, f));
    cut = λ f. absurd (omega (arith, e, f));
  }
  by_between (inr (inr e)) = record {
    refused = λ f. far status 11 f e (λ h. omega arith) (λ h. omega arith) (λ h. omega arith);
    done = λ f. absurd (omega (arith, e, f));
    cut = λ f. absurd (omega (arith, e, f));
  }

  by_memory : status ≡ 10 → All
  by_memory e = record {
    refused = λ f. far status 10 f e (λ h. omega arith) (λ h. omega arith) (λ h. omega arith);
    done = λ f. absurd (omega (arith, e, f));
    cut = λ f. absurd (omega (arith, e, f));
  }

  -- the definitions are refused
  by_reading : (refusal : Refusal) → ReadsDefinitions request.arch dirs folders read (Err refusal) → Refuses out after refusal status → All
  by_reading refusal reads refuses = by reads.refusal where
    told : (is : refusal.status ≡ 3) → Told (Err refusal)
    told is o can = where_three folders.told (history_told o disk.calls) sources.told reads.settled where
      where_three : (o : Option Tree) (p : Option History) (q : Option (List Stored))
          → IfSome o (λ tree. Settles folder_refusal (definitions_in request.arch tree dirs) (Err refusal))
          → IfSome o (λ tree. IfSome p (λ h. IfSome q (λ files. told_reset request dirs tree (held h) files ≡ Err refusal)))
      where_three None p q settles = tt
      where_three (Some tree) None q settles = tt
      where_three (Some tree) (Some h) None settles = tt
      where_three (Some tree) (Some h) (Some files) settles =
          ap (λ (d : Result Definitions Refusal). and_then d (λ definitions.
          and_then (renewal_of request definitions.list (held h) files) (λ renewal. Ok (definitions, renewal))))
          (settled folder_refusal (definitions_in request.arch tree dirs) (Err refusal) (inl is) (λ h. omega arith) (λ h. omega arith) (λ h. omega arith)
          settles)

    by : (refusal.status ≡ 3) ⊎ (refusal ≡ folder_refusal) ⊎ (refusal ≡ memory_refusal) → All
    by (inl is) = by_refusal refusal (inl is) (told is) refuses
    by (inr (inl failed)) = by_between (inr (inl (refuses.answers ∙ ap (λ (r : Refusal). r.status) failed)))
    by (inr (inr short)) = by_memory (refuses.answers ∙ ap (λ (r : Refusal). r.status) short)

  module _ (definitions : Definitions) (reads : ReadsDefinitions request.arch dirs folders read (Ok definitions)) where
    -- this is told of the image and the sources
    abbrev ToldBoth : Result Renewal Refusal → Type 0
    ToldBoth answer = ForEachPast later (λ o. IfSome (history_told o disk.calls)
        (λ h. IfSome sources.told (λ files. renewal_of request definitions.list (held h) files ≡ answer)))

    -- what is told of all, by what is told of the image and the sources
    told_all : (answer : Result Renewal Refusal) → ToldBoth answer → Told (and_then answer (λ renewal. Ok (definitions, renewal)))
    told_all answer told o can = where_three folders.told (history_told o disk.calls) sources.told reads.settled (told o can) where
      where_three : (o : Option Tree) (p : Option History) (q : Option (List Stored))
          → IfSome o (λ tree. Settles folder_refusal (definitions_in request.arch tree dirs) (Ok definitions))
          → IfSome p (λ h. IfSome q (λ files. renewal_of request definitions.list (held h) files ≡ answer))
          → IfSome o (λ tree. IfSome p (λ h. IfSome q (λ files.
          told_reset request dirs tree (held h) files ≡ and_then answer (λ renewal. Ok (definitions, renewal)))))
      where_three None p q settles is = tt
      where_three (Some tree) None q settles is = tt
      where_three (Some tree) (Some h) None settles is = tt
      where_three (Some tree) (Some h) (Some files) settles is =
          ap (λ (d : Result Definitions Refusal). and_then d (λ definitions.
          and_then (renewal_of request definitions.list (held h) files) (λ renewal. Ok (definitions, renewal))))
          (settled folder_refusal (definitions_in request.arch tree dirs) (Ok definitions) tt (λ h. omega arith) (λ h. omega arith) (λ h. omega arith)
          settles)
          ∙ ap (λ (r : Result Renewal Refusal). and_then r (λ renewal. Ok (definitions, renewal))) is

    -- nothing is planned
    by_none : (refusal : Refusal) → IsNone refusal
        → (IsRefused refusal.status → ToldBoth (Err refusal)) → Refuses out after refusal status → All
    by_none refusal (inl (inl three)) told refuses = by_refusal refusal (inl three) (told_all (Err refusal) (told (inl three))) refuses
    by_none refusal (inl (inr (inl four))) told refuses =
        by_refusal refusal (inr (inl four)) (told_all (Err refusal) (told (inr (inl four)))) refuses
    by_none refusal (inl (inr (inr (inl five)))) told refuses =
        by_refusal refusal (inr (inr five)) (told_all (Err refusal) (told (inr (inr five)))) refuses
    by_none refusal (inl (inr (inr (inr ten)))) told refuses = by_memory (refuses.answers ∙ ten)
    by_none refusal (inr is) told refuses = by_between (subst IsBetween (sym refuses.answers) is)

    plan_told : (answer : Result Renewal Refusal) → applied ≡ false → RenewsImage request definitions.list disk later sources drained answer
        → Tells json definitions out after status answer → All
    plan_told (Err refusal) not_applied renews refuses =
        by_none refusal (none_renewed request definitions.list disk later sources drained refusal renews)
        (λ is o can. renewal_told request definitions.list disk later sources drained o can (Err refusal) is renews) refuses
    plan_told (Ok renewal) not_applied renews (inl finishes) =
        by_finish definitions renewal (told_all (Ok renewal) (λ o can. renewal_told request definitions.list disk later sources drained o can (Ok renewal) tt renews))
        (subst (λ (b : Bool). Finishes out after (renewal_report json definitions renewal b) status) (sym not_applied) finishes)
    plan_told (Ok renewal) not_applied renews (inr refuses) = by_memory refuses.answers

    -- behind the opening sync the image is the same
    module _ (opened : Device) (synced : opened.calls ≡ disk.calls ++ dones (Sync ∷ [])) (mid : Device) (asked : Store (List Stored)) where
      at_first : (answer : Result Renewal Refusal) → Earlier mid later → IsTelling answer
          → RenewsImage request definitions.list opened mid sources asked answer → ToldBoth answer
      at_first answer behind telling renews o can =
          by o (renewal_told request definitions.list opened mid sources asked o (possible_before o behind can) answer telling renews) where
            At : Option Past → List Made → Type 0
            At o calls = IfSome (history_told o calls) (λ h. IfSome sources.told (λ files. renewal_of request definitions.list (held h) files ≡ answer))

            by : (o : Option Past) → At o opened.calls → At o disk.calls
            by None told = tt
            by (Some past) told =
                subst (λ image. IfSome sources.told (λ files. renewal_of request definitions.list image files ≡ answer))
                (ap (λ (l : List Made). held (history_of past l)) synced ∙ same_shown past disk.calls) told

      committed : (renewal : Renewal) (answer : Outcome) → applied ≡ true
          → RenewsImage request definitions.list opened mid sources asked (Ok renewal)
          → CarriesRenewal definitions renewal renewal.reset mid later asked drained answer
          → TellsApplied json definitions renewal out after status answer → All
      committed renewal (Ok done) is_applied renews carries finishes =
          by_finish definitions renewal (told_all (Ok renewal)
          (at_first (Ok renewal) (renewal_earlier definitions renewal renewal.reset mid later asked drained (Ok done) carries) tt renews))
          (subst (λ (b : Bool). Finishes out after (renewal_report json definitions renewal b) status) (sym is_applied) finishes)
      committed renewal (Err refusal) is_applied renews carries refuses =
          by_between (subst IsBetween (sym refuses.answers) (broken_status definitions renewal mid later asked drained refusal carries))

      apply_told : (answer : Result Renewal Refusal) → applied ≡ true → RenewsImage request definitions.list opened mid sources asked answer
          → AppliesPlanned json definitions mid later asked drained out after status answer → All
      apply_told (Err refusal) is_applied renews (same, same_sources, refuses) =
          by_none refusal (none_renewed request definitions.list opened mid sources asked refusal renews)
          (λ is. at_first (Err refusal) (subst (Earlier mid) (sym same) (earlier_same mid)) is renews) refuses
      apply_told (Ok renewal) is_applied renews (inl (same, same_sources, refuses)) = by_memory refuses.answers
      apply_told (Ok renewal) is_applied renews (inr (answer, carries, tells)) = committed renewal answer is_applied renews carries tells

    apply_opened : (opened : Device) (answer : Outcome) → applied ≡ true → Opens disk opened answer
        → AppliesOpened request json definitions opened later sources drained out after status answer → All
    apply_opened opened (Err refusal) is_applied opens (same, same_sources, refuses) =
        by_between (inl (refuses.answers ∙ ap (λ (r : Refusal). r.status) opens.refusal))
    apply_opened opened (Ok done) is_applied opens (mid, asked, answer, renews, fits, applies) =
        apply_told opened opens.ran.ok mid asked answer is_applied renews applies

  plan_behind : (definitions : Result Definitions Refusal) → applied ≡ false → ReadsDefinitions request.arch dirs folders read definitions
      → PlansBehind request json definitions disk later sources drained out after status → All
  plan_behind (Err refusal) not_applied reads (same, same_sources, refuses) = by_reading refusal reads refuses
  plan_behind (Ok definitions) not_applied reads (answer, renews, tells) = plan_told definitions reads answer not_applied renews tells

  apply_behind : (definitions : Result Definitions Refusal) → applied ≡ true
      → ReadsDefinitions request.arch dirs folders read definitions
      → AppliesBehind request json disk later sources drained out after status definitions → All
  apply_behind (Err refusal) is_applied reads (same, same_sources, refuses) = by_reading refusal reads refuses
  apply_behind (Ok definitions) is_applied reads (opened, answer, opens, applies) =
      apply_opened definitions reads opened answer is_applied opens applies

pub plan_answers : (request : Request) (json : Bool) (dirs : List (List ℕ)) (folders read : Store Tree) (disk later : Device)
    (sources drained : Store (List Stored)) (out after : Output) (status : ℕ)
    → PlansReset request json dirs folders read disk later sources drained out after status
    → AnswersReset request json dirs folders disk later sources out after status false
plan_answers request json dirs folders read disk later sources drained out after status (definitions, reads, behind) =
    plan_behind request json dirs folders read disk later sources drained out after status false definitions refl reads behind

pub apply_answers : (request : Request) (json : Bool) (dirs : List (List ℕ)) (folders read : Store Tree) (disk later : Device)
    (sources drained : Store (List Stored)) (out after : Output) (status : ℕ)
    → AppliesReset request json dirs folders read disk later sources drained out after status
    → AnswersReset request json dirs folders disk later sources out after status true
apply_answers request json dirs folders read disk later sources drained out after status (definitions, reads, behind) =
    apply_behind request json dirs folders read disk later sources drained out after status true definitions refl reads behind
