-- How a run of `make` ends, by its stages.
use Rattle.std.proofs.Common.{ℕ, ◌≡◌, ◌⊎◌, List, false, Option, Some, None, Result, Ok, Err, refl, sym, ◌∙◌, ap, subst, inl, inr, arith}
use Rattle.std.specs.Prelude.{IfErr}
use Rattle.rp_apply_command.specs.Applies.{IsCommitRefusal, Opens, Outcome}
use Rattle.rp_base.specs.Faults.{Rose}
use Rattle.rp_base.specs.declared.faults.Failed.{Failed}
use Rattle.rp_base.specs.declared.guid.Guid.{Guid}
use Rattle.rp_check_command.specs.Checks.{Finds, check_request}
use Rattle.rp_defs.specs.declared.definition.Definitions.{Definitions}
use Rattle.rp_difference.specs.declared.difference.Difference.{Difference}
use Rattle.rp_io.specs.Files.{Tree}
use Rattle.rp_io.specs.declared.stored.Stored.{Stored}
use Rattle.rp_make_input.specs.MakeInput.{MakeInput, make_input}
use Rattle.rp_make_room.specs.Room.{Grows, IsRoomRefusal, Looks, room_in}
use Rattle.rp_outcome.specs.Causes.{HasCauses}
use Rattle.rp_outcome.specs.Device.{Device}
use Rattle.rp_outcome.specs.Output.{Output, Refuses}
use Rattle.rp_outcome.specs.Refusals.{Refusal, disk_refusal, memory_refusal}
use Rattle.rp_outcome.specs.Store.{Store}
use Rattle.rp_plan_command.specs.Plans.{Tells as TellsPlan}
use Rattle.rp_plan_command.specs.Statuses.{IsRefused}
use Rattle.rp_plan_command.proofs.Statuses.{by_status}
use Rattle.rp_planned.specs.Planning.{PlansImage}
use Rattle.rp_planned.specs.declared.planned.Planned.{Planned}
use Rattle.rp_planned.specs.declared.request.Request.{Request}
use Rattle.rp_reading.specs.Reading.{IsReadingRefusal, ReadsDefinitions}
use Rattle.rp_reading.specs.Stages.{HasStageCause}
use Rattle.rp_types.specs.declared.arch.Arch.TheVariants.{X86_64}
use Rattle.rp_make_command.specs.Ends.{MakeEnds}
use Rattle.rp_make_command.specs.Makes.{Makes, MakesChecked, MakesCheckedBehind, MakesCompared, MakesComparedBehind, MakesGrownBehind, MakesLookedBehind, MakesOpenedBehind, MakesPlannedBehind, MakesReadBehind, TellsFound, made_store, make_request}
use Rattle.rp_make_command.specs.Summary.{TellsMade, front_text}

-- no failed call was passed over by a stage that answered
kept_ok : {T : Type 0} (failure : Refusal) (was now : ℕ) (value : T) → HasStageCause failure was now (Ok value) → now ≡ was
kept_ok failure was now value cause = go cause.kept where
  go : {T : Type 0} {value : T} → (◌≡◌ {A = Result T Refusal} (Ok value) (Err failure)) ⊎ (now ≡ was) → now ≡ was
  go (inl e) = absurd (cc)
  go (inr same) = same

same_err : {T : Type 0} (a b : Refusal) → ◌≡◌ {A = Result T Refusal} (Err a) (Err b) → a.status ≡ b.status
same_err a b e = ap (λ (r : Refusal). r.status) (go e) where
  go : {T : Type 0} → ◌≡◌ {A = Result T Refusal} (Err a) (Err b) → a ≡ b
  go e = cc

-- an answer that isn't the object's failure came without one
kept_err : {T : Type 0} (failure refusal : Refusal) (was now : ℕ) → (refusal.status ≡ failure.status → ⊥)
    → HasStageCause {T = T} failure was now (Err refusal) → now ≡ was
kept_err {T} failure refusal was now other cause = go cause.kept where
  go : (◌≡◌ {A = Result T Refusal} (Err refusal) (Err failure)) ⊎ (now ≡ was) → now ≡ was
  go (inl e) = absurd (other (same_err {T = T} refusal failure e))
  go (inr same) = same

module _ (disk later : Device) (out after : Output) (status : ℕ) where
  abbrev Known : Type 0
  Known = MakeEnds disk later out after status

  -- it was refused
  refused_by : (refusal : Refusal) (n : ℕ) → Refuses out after refusal status → refusal.status ≡ n → (n ≡ 0 → ⊥) → (n ≡ 9 → ⊥) → (n ≡ 2 → ⊥)
      → (n ≡ 7 → Rose disk.faults later.faults) → (n ≡ 7) ⊎ (later.faults ≡ disk.faults) → Known
  refused_by refusal n refuses is not_0 not_9 not_2 rose kept = let e : status ≡ n = refuses.answers ∙ is in record {
    causes = record {
      disk_failed = λ f. rose (sym e ∙ f);
      disk_kept = by_kept e kept;
      sink_failed = λ f. absurd (not_9 (sym e ∙ f));
      sink_kept = λ f. absurd (not_0 (sym e ∙ f));
    };
    words = λ f. not_2 (sym e ∙ f);
  } where
    by_kept : status ≡ n → (n ≡ 7) ⊎ (later.faults ≡ disk.faults) → (status ≡ 7) ⊎ (later.faults ≡ disk.faults)
    by_kept e (inl seven) = inl (e ∙ seven)
    by_kept e (inr same) = inr same

  -- a refusal without a failure of the disk
  refused_without : (refusal : Refusal) (n : ℕ) → Refuses out after refusal status → refusal.status ≡ n → (n ≡ 0 → ⊥) → (n ≡ 9 → ⊥)
      → (n ≡ 2 → ⊥) → (n ≡ 7 → ⊥) → later.faults ≡ disk.faults → Known
  refused_without refusal n refuses is not_0 not_9 not_2 not_7 kept =
      refused_by refusal n refuses is not_0 not_9 not_2 (λ e. absurd (not_7 e)) (inr kept)

  want : Refuses out after memory_refusal status → later.faults ≡ disk.faults → Known
  want refuses kept =
      refused_without memory_refusal 10 refuses refl (λ e. omega (arith, e)) (λ e. omega (arith, e)) (λ e. omega (arith, e))
      (λ e. omega (arith, e)) kept

  failed : (refusal : Refusal) → refusal.status ≡ 7 → Refuses out after refusal status → Rose disk.faults later.faults → Known
  failed refusal is refuses rose =
      refused_by refusal 7 refuses is (λ e. omega (arith, e)) (λ e. omega (arith, e)) (λ e. omega (arith, e)) (λ e. rose) (inl refl)

  -- it was told
  told : (n : ℕ) → status ≡ n → (n ≡ 7 → ⊥) → (n ≡ 2 → ⊥) → (n ≡ 9 → Rose out.faults after.faults) → (n ≡ 0 → after.faults ≡ out.faults)
      → later.faults ≡ disk.faults → Known
  told n e not_7 not_2 rose same kept = record {
    causes = record {
      disk_failed = λ f. absurd (not_7 (sym e ∙ f));
      disk_kept = inr kept;
      sink_failed = λ f. rose (sym e ∙ f);
      sink_kept = λ f. same (sym e ∙ f);
    };
    words = λ f. not_2 (sym e ∙ f);
  }

  by_told : (front : List ℕ) (found : Option Difference) → TellsMade front out after status found → later.faults ≡ disk.faults → Known
  by_told front None (inl (e, printed)) kept =
      told 0 e (λ f. omega (arith, f)) (λ f. omega (arith, f)) (λ f. absurd (omega (arith, f))) (λ f. printed.kept) kept
  by_told front None (inr (e, part)) kept =
      told 9 e (λ f. omega (arith, f)) (λ f. omega (arith, f)) (λ f. part.rose) (λ f. absurd (omega (arith, f))) kept
  by_told front (Some d) (inl (e, printed)) kept =
      told 1 e (λ f. omega (arith, f)) (λ f. omega (arith, f)) (λ f. absurd (omega (arith, f))) (λ f. absurd (omega (arith, f))) kept
  by_told front (Some d) (inr (e, part)) kept =
      told 9 e (λ f. omega (arith, f)) (λ f. omega (arith, f)) (λ f. part.rose) (λ f. absurd (omega (arith, f))) kept

  by_found : (front : List ℕ) (planned : Planned) (mid : Device) → mid.faults ≡ disk.faults → MakesCompared front planned mid later out after status
      → Known
  by_found front planned mid same (answer, finds, tells) = by_answer answer finds tells where
    by_refusal : (refusal : Refusal) → Finds X86_64 planned mid later (Err refusal) → (refusal ≡ disk_refusal) ⊎ (refusal ≡ memory_refusal)
        → Refuses out after refusal status → Known
    by_refusal refusal finds (inl e) refuses =
        failed refusal (ap (λ (r : Refusal). r.status) e) refuses (subst (λ (n : ℕ). Rose n later.faults) same (finds.cause.failed (ap Err e)))
    by_refusal refusal finds (inr e) refuses =
        let is : refusal.status ≡ 10 = ap (λ (r : Refusal). r.status) e in
        want (subst (λ (r : Refusal). Refuses out after r status) e refuses)
        (kept_err {T = Option Difference} disk_refusal refusal mid.faults later.faults (λ f. omega (arith, f, is)) finds.cause ∙ same)

    by_answer : (answer : Result (Option Difference) Refusal) → Finds X86_64 planned mid later answer → TellsFound front out after status answer
        → Known
    by_answer (Ok found) finds tells =
        by_told front found tells (kept_ok {T = Option Difference} disk_refusal mid.faults later.faults found finds.cause ∙ same)
    by_answer (Err refusal) finds refuses = by_refusal refusal finds finds.refusal refuses

  -- where `plan` would have ended in the same way
  module _ (dirs : List (List ℕ)) (folders read : Store Tree) (definitions : Definitions) (request : Request)
      (reads : ReadsDefinitions request.arch dirs folders read (Ok definitions)) where
    not_two : IsRefused status ⊎ (status ≡ 0) ⊎ (status ≡ 7) ⊎ (status ≡ 8) ⊎ (status ≡ 9) ⊎ (status ≡ 10) → status ≡ 2 → ⊥
    not_two (inl (inl e)) f = omega (arith, e, f)
    not_two (inl (inr (inl e))) f = omega (arith, e, f)
    not_two (inl (inr (inr e))) f = omega (arith, e, f)
    not_two (inr (inl e)) f = omega (arith, e, f)
    not_two (inr (inr (inl e))) f = omega (arith, e, f)
    not_two (inr (inr (inr (inl e)))) f = omega (arith, e, f)
    not_two (inr (inr (inr (inr (inl e))))) f = omega (arith, e, f)
    not_two (inr (inr (inr (inr (inr e))))) f = omega (arith, e, f)

    moved : (mid : Device) → mid.faults ≡ disk.faults → HasCauses mid later out after status → HasCauses disk later out after status
    moved mid same causes = record {
      disk_failed = λ f. subst (λ (n : ℕ). Rose n later.faults) same (causes.disk_failed f);
      disk_kept = go causes.disk_kept;
      sink_failed = causes.sink_failed;
      sink_kept = causes.sink_kept;
    } where
      go : (status ≡ 7) ⊎ (later.faults ≡ mid.faults) → (status ≡ 7) ⊎ (later.faults ≡ disk.faults)
      go (inl e) = inl e
      go (inr e) = inr (e ∙ same)

    as_plan : (mid seen : Device) (sources asked : Store (List Stored)) (answer : Result Planned Refusal) → mid.faults ≡ disk.faults
        → later ≡ seen → PlansImage request definitions.list mid seen sources asked answer
        → TellsPlan false definitions out after status answer → Known
    as_plan mid seen sources asked answer same at plans tells =
        let is = by_status request false dirs folders read mid seen sources asked out after status (Ok definitions, reads, (answer, plans, tells)) in
        record {
          causes = moved mid same (subst (λ (d : Device). HasCauses mid d out after status) (sym at) is.causes);
          words = not_two is.one_of;
        }

    abbrev silent : Output
    silent = record { taken = None; faults = 0 }

    -- nothing failed till the plan was made
    kept_plan : (mid seen : Device) (sources asked : Store (List Stored)) (planned : Planned)
        → PlansImage request definitions.list mid seen sources asked (Ok planned) → seen.faults ≡ mid.faults
    kept_plan mid seen sources asked planned plans =
        go (by_status request false dirs folders read mid seen sources asked silent silent 0
        (Ok definitions, reads, (Ok planned, plans, inl (inl (refl, record { taken = tt; kept = refl }))))).causes.disk_kept where
          go : (◌≡◌ {A = ℕ} 0 7) ⊎ (seen.faults ≡ mid.faults) → seen.faults ≡ mid.faults
          go (inl e) = absurd (omega (arith, e))
          go (inr e) = e

  module _ (dirs : List (List ℕ)) (folders read : Store Tree) (definitions : Definitions) (number : ℕ) (seed : Guid)
      (reads : ReadsDefinitions X86_64 dirs folders read (Ok definitions)) where
    by_check : (mid : Device) (left drained : Store (List Stored)) (front : List ℕ) → mid.faults ≡ disk.faults
        → MakesChecked seed front definitions mid later left drained out after status → Known
    by_check mid left drained front same (seen, answer, plans, behind) = by_answer answer plans behind where
      by_answer : (answer : Result Planned Refusal)
          → PlansImage (check_request seed X86_64 512) definitions.list mid seen left drained answer
          → MakesComparedBehind front seen later out after status answer → Known
      by_answer (Err refusal) plans (at, refuses) =
          as_plan dirs folders read definitions (check_request seed X86_64 512) reads mid seen left drained (Err refusal) same at plans refuses
      by_answer (Ok planned) plans compared =
          by_found front planned seen
          (kept_plan dirs folders read definitions (check_request seed X86_64 512) reads mid seen left drained planned plans ∙ same) compared

    by_commit : (planned : Planned) (mid made : Device) (sources left drained : Store (List Stored)) (answer : Outcome) → mid.faults ≡ disk.faults
        → IfErr answer (IsCommitRefusal planned) → HasStageCause disk_refusal mid.faults made.faults answer
        → MakesCheckedBehind number seed definitions planned made later left drained out after status answer → Known
    by_commit planned mid made sources left drained (Ok done) same refusal cause checked =
        by_check made left drained (front_text number planned) (kept_ok disk_refusal mid.faults made.faults done cause ∙ same) checked
    by_commit planned mid made sources left drained (Err refusal) same (inl e) cause (at, none, refuses) =
        failed refusal (ap (λ (r : Refusal). r.status) e) refuses
        (subst (λ (d : Device). Rose disk.faults d.faults) (sym at) (subst (λ (n : ℕ). Rose n made.faults) same (cause.failed (ap Err e))))
    by_commit planned mid made sources left drained (Err refusal) same (inr (inl e)) cause (at, none, refuses) =
        let is : refusal.status ≡ 8 = ap (λ (r : Refusal). r.status) e in
        refused_without refusal 8 refuses is (λ f. omega (arith, f)) (λ f. omega (arith, f)) (λ f. omega (arith, f)) (λ f. omega (arith, f))
        (ap (λ (d : Device). d.faults) at
        ∙ (kept_err {T = Unit {0}} disk_refusal refusal mid.faults made.faults (λ f. omega (arith, f, is)) cause ∙ same))
    by_commit planned mid made sources left drained (Err refusal) same (inr (inr changed)) cause (at, none, refuses) =
        let is : refusal.status ≡ 11 = ap (λ (r : Refusal). r.status) changed.2 in
        refused_without refusal 11 refuses is (λ f. omega (arith, f)) (λ f. omega (arith, f)) (λ f. omega (arith, f)) (λ f. omega (arith, f))
        (ap (λ (d : Device). d.faults) at
        ∙ (kept_err {T = Unit {0}} disk_refusal refusal mid.faults made.faults (λ f. omega (arith, f, is)) cause ∙ same))

    by_plan : (mid seen : Device) (sources asked drained : Store (List Stored)) (answer : Result Planned Refusal) → mid.faults ≡ disk.faults
        → PlansImage (make_request seed) definitions.list mid seen sources asked answer
        → MakesPlannedBehind number seed definitions seen later asked drained out after status answer → Known
    by_plan mid seen sources asked drained (Err refusal) same plans (at, none, refuses) =
        as_plan dirs folders read definitions (make_request seed) reads mid seen sources asked (Err refusal) same at plans refuses
    by_plan mid seen sources asked drained (Ok planned) same plans (inl (at, none, refuses)) =
        as_plan dirs folders read definitions (make_request seed) reads mid seen sources asked (Ok planned) same at plans (inr refuses)
    by_plan mid seen sources asked drained (Ok planned) same plans (inr (made, left, answer, carries, stays, behind)) =
        by_commit planned seen made asked left drained answer
        (kept_plan dirs folders read definitions (make_request seed) reads mid seen sources asked planned plans ∙ same)
        carries.refusal carries.cause.of_disk behind

    by_growth : (len : ℕ) (mid grown : Device) (sources drained : Store (List Stored)) (answer : Result (Unit {0}) Failed)
        → mid.faults ≡ disk.faults → Grows len mid grown answer
        → MakesGrownBehind number seed definitions grown later sources drained out after status answer → Known
    by_growth len mid grown sources drained (Err e) same grows (at, none, refuses) =
        failed disk_refusal refl refuses
        (subst (λ (d : Device). Rose disk.faults d.faults) (sym at) (subst (λ (n : ℕ). Rose n grown.faults) same grows.cause.failed))
    by_growth len mid grown sources drained (Ok done) same grows (seen, asked, answer, plans, fits, behind) =
        by_plan grown seen sources asked drained answer (grows.cause.kept ∙ same) plans behind

    by_room : (refusal : Refusal) (mid : Device) → IsRoomRefusal refusal → mid.faults ≡ disk.faults → (looked : Device)
        → HasStageCause {T = ℕ} disk_refusal mid.faults looked.faults (Err refusal) → later ≡ looked → Refuses out after refusal status → Known
    by_room refusal mid (inl is) same looked cause at refuses =
        refused_without refusal 4 refuses is (λ f. omega (arith, f)) (λ f. omega (arith, f)) (λ f. omega (arith, f)) (λ f. omega (arith, f))
        (ap (λ (d : Device). d.faults) at
        ∙ (kept_err {T = ℕ} disk_refusal refusal mid.faults looked.faults (λ f. omega (arith, f, is)) cause ∙ same))
    by_room refusal mid (inr (inl e)) same looked cause at refuses =
        failed refusal (ap (λ (r : Refusal). r.status) e) refuses
        (subst (λ (d : Device). Rose disk.faults d.faults) (sym at) (subst (λ (n : ℕ). Rose n looked.faults) same (cause.failed (ap Err e))))
    by_room refusal mid (inr (inr e)) same looked cause at refuses =
        let is : refusal.status ≡ 10 = ap (λ (r : Refusal). r.status) e in
        refused_without refusal 10 refuses is (λ f. omega (arith, f)) (λ f. omega (arith, f)) (λ f. omega (arith, f)) (λ f. omega (arith, f))
        (ap (λ (d : Device). d.faults) at
        ∙ (kept_err {T = ℕ} disk_refusal refusal mid.faults looked.faults (λ f. omega (arith, f, is)) cause ∙ same))

    by_look : (mid looked : Device) (sources drained : Store (List Stored)) (answer : Result ℕ Refusal) → mid.faults ≡ disk.faults
        → Looks room_in mid looked answer → MakesLookedBehind number seed definitions looked later sources drained out after status answer → Known
    by_look mid looked sources drained (Err refusal) same looks (at, none, refuses) =
        by_room refusal mid looks.refusal same looked looks.cause at refuses
    by_look mid looked sources drained (Ok len) same looks (grown, answer, grows, behind) =
        by_growth len looked grown sources drained answer (kept_ok disk_refusal mid.faults looked.faults len looks.cause ∙ same) grows behind

    by_opening : (opened : Device) (sources drained : Store (List Stored)) (answer : Outcome) → Opens disk opened answer
        → MakesOpenedBehind number seed definitions opened later sources drained out after status answer → Known
    by_opening opened sources drained (Err refusal) opens (at, none, refuses) =
        failed refusal (ap (λ (r : Refusal). r.status) opens.refusal) refuses
        (subst (λ (d : Device). Rose disk.faults d.faults) (sym at) (opens.cause.failed (ap Err opens.refusal)))
    by_opening opened sources drained (Ok done) opens (looked, answer, looks, behind) =
        by_look opened looked sources drained answer (kept_ok disk_refusal disk.faults opened.faults done opens.cause) looks behind

  by_reading : (refusal : Refusal) → IsReadingRefusal refusal → later ≡ disk → Refuses out after refusal status → Known
  by_reading refusal (inl is) at refuses =
      refused_without refusal 3 refuses is (λ f. omega (arith, f)) (λ f. omega (arith, f)) (λ f. omega (arith, f)) (λ f. omega (arith, f))
      (ap (λ (d : Device). d.faults) at)
  by_reading refusal (inr (inl e)) at refuses =
      refused_without refusal 8 refuses (ap (λ (r : Refusal). r.status) e) (λ f. omega (arith, f)) (λ f. omega (arith, f)) (λ f. omega (arith, f))
      (λ f. omega (arith, f)) (ap (λ (d : Device). d.faults) at)
  by_reading refusal (inr (inr e)) at refuses =
      refused_without refusal 10 refuses (ap (λ (r : Refusal). r.status) e) (λ f. omega (arith, f)) (λ f. omega (arith, f)) (λ f. omega (arith, f))
      (λ f. omega (arith, f)) (ap (λ (d : Device). d.faults) at)

  by_definitions : (number : ℕ) (input : MakeInput) (read : Store Tree) (answer : Result Definitions Refusal)
      → ReadsDefinitions X86_64 input.dirs (made_store input.tree) read answer → MakesReadBehind number input disk later out after status answer
      → Known
  by_definitions number input read (Err refusal) reads (at, refuses) = by_reading refusal reads.refusal at refuses
  by_definitions number input read (Ok definitions) reads (drained, astray, (opened, answer, opens, behind)) =
      by_opening input.dirs (made_store input.tree) read definitions number input.seed reads opened (made_store input.files) drained answer opens behind

  -- by what it made
  pub ends_so : (number : ℕ) → Makes number disk later out after status → Known
  ends_so number (inl (at, refuses)) = want refuses (ap (λ (d : Device). d.faults) at)
  ends_so number (inr (read, answer, reads, astray, behind)) = by_definitions number (make_input number) read answer reads behind
