-- No run of `make` on a disk that can have a past ends with a status but these.
use Rattle.std.proofs.Common.{ℕ, ◌≡◌, ◌⊎◌, ◌≤◌, ◌∙◌, Bool, true, false, List, Option, Some, None, Result, Ok, Err, refl, sym, ap, subst, inl, inr}
use Rattle.std.specs.Prelude.{IfSome}
use Rattle.rp_apply_command.specs.Applies.{CarriesOut, IsCommitRefusal, Opens, Outcome}
use Rattle.rp_apply_command.specs.Ends.{Given}
use Rattle.rp_apply_command.proofs.Goals.{told_same}
use Rattle.rp_base.specs.declared.faults.Failed.{Failed}
use Rattle.rp_base.specs.declared.plan.Plan.{Plan}
use Rattle.rp_base.specs.declared.seen.Seen.{Seen}
use Rattle.rp_check_command.specs.Checks.{Finds, check_request}
use Rattle.rp_defs.specs.declared.definition.Definition.{Definition}
use Rattle.rp_defs.specs.declared.definition.Definitions.{Definitions}
use Rattle.rp_demand.specs.declared.demand.Demand.{Demand}
use Rattle.rp_demand.specs.declared.demand.Demand.TheVariants as demands
use Rattle.rp_difference.specs.declared.difference.Difference.{Difference}
use Rattle.rp_disk.specs.Device.{CanHave}
use Rattle.rp_disk.specs.Made.{Past}
use Rattle.rp_io.specs.Files.{Tree}
use Rattle.rp_io.specs.declared.stored.Stored.{Stored}
use Rattle.rp_make_command.specs.Ends.{MakeEnds}
use Rattle.rp_make_command.specs.Makes.{Makes, MakesCheckedBehind, MakesComparedBehind, MakesGrownBehind, MakesLookedBehind, MakesOpenedBehind, MakesPlannedBehind, MakesReadBehind, TellsFound, made_store, make_request}
use Rattle.rp_make_command.specs.Summary.{TellsMade, front_text}
use Rattle.rp_make_command.proofs.Ended.{ends_so}
use Rattle.rp_make_command.proofs.Unfailed.{never_files}
use Rattle.rp_make_definitions.proofs.Known.{has_definitions}
use Rattle.rp_make_input.specs.MakeInput.{folders_of, make_input, seed_of, source_files, tree_for}
use Rattle.rp_make_room.specs.Room.{Grows, IsRoomRefusal, Looks, room_in}
use Rattle.rp_outcome.specs.Demands.{demand_refusal}
use Rattle.rp_outcome.specs.Device.{Device}
use Rattle.rp_outcome.specs.Output.{Output, Refuses}
use Rattle.rp_outcome.specs.Refusals.{Refusal, disk_refusal, folder_refusal, memory_refusal, repair_refusal, source_refusal}
use Rattle.rp_outcome.specs.Statuses as exit
use Rattle.rp_outcome.specs.Store.{Store}
use Rattle.rp_plan.specs.Goal.{goal}
use Rattle.rp_planned.specs.Planning.{AsksSources, IsImageRefusal, PlansBy, PlansImage, PlansSeen, PlansUnless, ReadsImage, must_repair, target_of, with_seen}
use Rattle.rp_planned.specs.declared.planned.Planned.{Planned}
use Rattle.rp_planned.specs.declared.request.Request.{Request}
use Rattle.rp_reading.specs.Reading.{ReadsDefinitions, definitions_in}
use Rattle.rp_reading.specs.Stages.{Settles, and_then, refused}
use Rattle.rp_sizes.specs.declared.need.Fact.{Fact}
use Rattle.rp_steps.specs.Calls.{calls as calls_for}
use Rattle.rp_types.specs.declared.arch.Arch.TheVariants.{X86_64}
use Rattle.rp_make_promise.specs.Complete.{HasReason}

-- the status of a refusal of what is planned, or of another stage
abbrev pub IsNone : ℕ → Type 0
IsNone n = (n ≡ 4) ⊎ (n ≡ 5) ⊎ (n ≡ 7) ⊎ (n ≡ 8) ⊎ (n ≡ 10)

status_of : (refusal other : Refusal) → refusal ≡ other → refusal.status ≡ other.status
status_of refusal other e = ap (λ (r : Refusal). r.status) e

same_err : {T : Type 0} (a b : Refusal) → ◌≡◌ {A = Result T Refusal} (Err a) (Err b) → a ≡ b
same_err a b e = cc

none_disk : (refusal : Refusal) → refusal ≡ disk_refusal → IsNone refusal.status
none_disk refusal e = inr (inr (inl (status_of refusal disk_refusal e)))

none_source : (refusal : Refusal) → refusal ≡ source_refusal → IsNone refusal.status
none_source refusal e = inr (inr (inr (inl (status_of refusal source_refusal e))))

none_memory : (refusal : Refusal) → refusal ≡ memory_refusal → IsNone refusal.status
none_memory refusal e = inr (inr (inr (inr (status_of refusal memory_refusal e))))

none_demand : (list : List Definition) (demand : Demand) → IsNone (demand_refusal list demand).status
none_demand list (demands.ResetMix file) = inr (inl refl)
none_demand list (demands.VerityHalf file) = inr (inl refl)
none_demand list (demands.SourceTooLarge file need max) = inr (inl refl)
none_demand list (demands.Existing file need have) = inr (inl refl)
none_demand list (demands.Room file need largest) = inr (inl refl)
none_demand list (demands.Slot file) = inr (inl refl)
none_demand list (demands.TakenIdentifier file) = inr (inl refl)
none_demand list (demands.NoIdentifier file) = inr (inl refl)
none_demand list demands.Memory = inr (inr (inr (inr refl)))

none_image : (refusal : Refusal) → IsImageRefusal refusal → IsNone refusal.status
none_image refusal (inl four) = inl four
none_image refusal (inr (inl failed)) = none_disk refusal failed
none_image refusal (inr (inr want)) = none_memory refusal want

none_goal : (list : List Definition) (seen : Seen) (refusal : Refusal) (r : Result Plan Demand)
    → Err refusal ≡ and_then (refused (demand_refusal list) r) (λ plan. Ok (with_seen seen plan)) → IsNone refusal.status
none_goal list seen refusal (Ok plan) e = absurd (cc)
none_goal list seen refusal (Err demand) e =
    subst (λ (r : Refusal). IsNone r.status) (sym (same_err {T = Planned} refusal (demand_refusal list demand) e)) (none_demand list demand)

module _ (request : Request) (list : List Definition) (disk later : Device) (sources drained : Store (List Stored)) (refusal : Refusal) where
  none_by : (seen : Seen) (known : Result (List Fact) Refusal) → AsksSources request.seed seen.shown list sources drained known
      → PlansBy request list seen known (Err refusal) → IsNone refusal.status
  none_by seen (Err other) asks e =
      let same = same_err {T = Planned} refusal other e in
      elim asks.refusal [ inl failed ↦ none_source refusal (same ∙ failed) | inr want ↦ none_memory refusal (same ∙ want) ]
  none_by seen (Ok facts) asks (inl e) = none_goal list seen refusal (goal seen (target_of request.size seen) list facts request.seed) e
  none_by seen (Ok facts) asks (inr e) = none_memory refusal (same_err {T = Planned} refusal memory_refusal e)

  none_unless : (seen : Seen) (b : Bool) → PlansUnless b request list seen sources drained (Err refusal) → IsNone refusal.status
  none_unless seen true e = inl (status_of refusal repair_refusal (same_err {T = Planned} refusal repair_refusal e.0))
  none_unless seen false plans = none_by seen plans.0 plans.1 plans.2

  none_seen : (answer : Result Seen Refusal) → ReadsImage request.sector request.empty disk later answer
      → PlansSeen request list answer sources drained (Err refusal) → IsNone refusal.status
  none_seen (Err other) reads e =
      subst (λ (r : Refusal). IsNone r.status) (sym (same_err {T = Planned} refusal other e.0)) (none_image other reads.refusal)
  none_seen (Ok seen) reads plans = none_unless seen (must_repair request.size seen) plans

  -- where nothing is planned
  pub none_planned : PlansImage request list disk later sources drained (Err refusal) → IsNone refusal.status
  none_planned plans = none_seen plans.0 plans.1 plans.2

module _ (number : ℕ) (disk later : Device) (out after : Output) (status : ℕ) (past : Past) (can : CanHave past later) where
  -- a status that may come
  abbrev One : Type 0
  One = (status ≡ 0) ⊎ (status ≡ 1) ⊎ (status ≡ 9) ⊎ IsNone status

  abbrev files : List Stored
  files = source_files number

  refused_so : (refusal : Refusal) → IsNone refusal.status → Refuses out after refusal status → One
  refused_so refusal is refuses = inr (inr (inr (subst IsNone (sym refuses.answers) is)))

  either : (refusal : Refusal) → (refusal ≡ disk_refusal) ⊎ (refusal ≡ memory_refusal) → IsNone refusal.status
  either refusal (inl e) = none_disk refusal e
  either refusal (inr e) = none_memory refusal e

  told : (front : List ℕ) (found : Option Difference) → TellsMade front out after status found → One
  told front None (inl (e, printed)) = inl e
  told front None (inr (e, part)) = inr (inr (inl e))
  told front (Some d) (inl (e, printed)) = inr (inl e)
  told front (Some d) (inr (e, part)) = inr (inr (inl e))

  compared : (front : List ℕ) (planned : Planned) (mid : Device) (answer : Result (Option Difference) Refusal)
      → Finds X86_64 planned mid later answer → TellsFound front out after status answer → One
  compared front planned mid (Ok found) finds tells = told front found tells
  compared front planned mid (Err refusal) finds refuses = refused_so refusal (either refusal finds.refusal) refuses

  checked : (definitions : Definitions) (front : List ℕ) (mid seen : Device) (left drained : Store (List Stored))
      (answer : Result Planned Refusal) → PlansImage (check_request (seed_of number) X86_64 512) definitions.list mid seen left drained answer
      → MakesComparedBehind front seen later out after status answer → One
  checked definitions front mid seen left drained (Err refusal) plans (at, refuses) =
      refused_so refusal
      (none_planned (check_request (seed_of number) X86_64 512) definitions.list mid seen left drained refusal plans) refuses
  checked definitions front mid seen left drained (Ok planned) plans (answer, finds, tells) = compared front planned seen answer finds tells

  module _ (definitions : Definitions) (grown : Device) (drained : Store (List Stored)) where
    -- no source has changed
    pub unchanged : (seen made : Device) (asked left : Store (List Stored)) (planned : Planned) (refusal : Refusal)
        → PlansImage (make_request (seed_of number)) definitions.list grown seen (made_store (source_files number)) asked (Ok planned)
        → CarriesOut definitions planned seen made asked left (Err refusal) → CanHave past made → refusal.status ≡ exit.changed → ⊥
    unchanged seen made asked left planned refusal plans carries now =
        let runs = carries.runs (Some past) now in
        let P : List Stored → Type 0 = λ stored.
        (runs.0 ≡ calls_for planned.plan planned.seen (Given definitions.list stored)) × (refusal.status ≡ exit.changed → ⊥) in
        (subst (λ (o : Option (List Stored)). IfSome o P)
        (told_same (make_request (seed_of number)) definitions.list grown seen (made_store files) asked planned plans) runs.1.exact).1

    carried : (seen made : Device) (asked left : Store (List Stored)) (planned : Planned) (answer : Outcome)
        → PlansImage (make_request (seed_of number)) definitions.list grown seen (made_store (source_files number)) asked (Ok planned)
        → CarriesOut definitions planned seen made asked left answer
        → MakesCheckedBehind number (seed_of number) definitions planned made later left drained out after status answer → One
    carried seen made asked left planned (Ok done) plans carries (mid, answer, again, behind) =
        checked definitions (front_text number planned) made mid left drained answer again behind
    carried seen made asked left planned (Err refusal) plans carries (at, same, refuses) = by carries.refusal where
      by : IsCommitRefusal planned refusal → One
      by (inl failed) = refused_so refusal (none_disk refusal failed) refuses
      by (inr (inl failed)) = refused_so refusal (none_source refusal failed) refuses
      by (inr (inr changed)) =
          absurd (unchanged seen made asked left planned refusal plans carries (subst (CanHave past) at can) (ap (λ (r : Refusal). r.status) changed.2))

    by_plan : (seen : Device) (asked : Store (List Stored)) (answer : Result Planned Refusal)
        → PlansImage (make_request (seed_of number)) definitions.list grown seen (made_store (source_files number)) asked answer
        → MakesPlannedBehind number (seed_of number) definitions seen later asked drained out after status answer → One
    by_plan seen asked (Err refusal) plans (at, same, refuses) =
        refused_so refusal
        (none_planned (make_request (seed_of number)) definitions.list grown seen (made_store files) asked refusal plans) refuses
    by_plan seen asked (Ok planned) plans (inl (at, same, refuses)) = refused_so memory_refusal (none_memory memory_refusal refl) refuses
    by_plan seen asked (Ok planned) plans (inr (made, left, answer, carries, stays, behind)) =
        carried seen made asked left planned answer plans carries behind

  by_growth : (definitions : Definitions) (looked grown : Device) (len : ℕ) (drained : Store (List Stored)) (answer : Result (Unit {0}) Failed)
      → Grows len looked grown answer
      → MakesGrownBehind number (seed_of number) definitions grown later (made_store (source_files number)) drained out after status answer
      → One
  by_growth definitions looked grown len drained (Err e) grows (at, same, refuses) =
      refused_so disk_refusal (none_disk disk_refusal refl) refuses
  by_growth definitions looked grown len drained (Ok done) grows (seen, asked, answer, plans, fits, behind) =
      by_plan definitions grown drained seen asked answer plans behind

  pub by_room : (refusal : Refusal) → IsRoomRefusal refusal → IsNone refusal.status
  by_room refusal (inl four) = inl four
  by_room refusal (inr two) = either refusal two

  by_look : (definitions : Definitions) (opened looked : Device) (drained : Store (List Stored)) (answer : Result ℕ Refusal)
      → Looks room_in opened looked answer
      → MakesLookedBehind number (seed_of number) definitions looked later (made_store (source_files number)) drained out after status answer
      → One
  by_look definitions opened looked drained (Err refusal) looks (at, same, refuses) =
      refused_so refusal (by_room refusal looks.refusal) refuses
  by_look definitions opened looked drained (Ok len) looks (grown, answer, grows, behind) =
      by_growth definitions looked grown len drained answer grows behind

  by_opening : (definitions : Definitions) (opened : Device) (drained : Store (List Stored)) (answer : Outcome) → Opens disk opened answer
      → MakesOpenedBehind number (seed_of number) definitions opened later (made_store (source_files number)) drained out after status answer
      → One
  by_opening definitions opened drained (Err refusal) opens (at, same, refuses) = refused_so refusal (none_disk refusal opens.refusal) refuses
  by_opening definitions opened drained (Ok done) opens (looked, answer, looks, behind) =
      by_look definitions opened looked drained answer looks behind

  module _ (high : number ≤ 100) where
    -- the definitions are there
    pub unread : (refusal : Refusal) → Settles folder_refusal (definitions_in X86_64 (tree_for number) folders_of) (Err refusal)
        → IsNone refusal.status
    unread refusal (inl same) =
        let is : ◌≡◌ {A = Result Definitions Refusal} (Err refusal) (Ok (has_definitions number high).definitions) =
        same ∙ (has_definitions number high).are in absurd (cc)
    unread refusal (inr (inl failed)) =
        inr (inr (inr (inl (status_of refusal folder_refusal (same_err {T = Definitions} refusal folder_refusal failed)))))
    unread refusal (inr (inr want)) = none_memory refusal (same_err {T = Definitions} refusal memory_refusal want)

    by_reading : (read : Store Tree) (answer : Result Definitions Refusal)
        → ReadsDefinitions X86_64 folders_of (made_store (tree_for number)) read answer
        → MakesReadBehind number (make_input number) disk later out after status answer → One
    by_reading read (Err refusal) reads (at, refuses) = refused_so refusal (unread refusal reads.settled) refuses
    by_reading read (Ok definitions) reads (drained, astray, (opened, answer, opens, behind)) =
        by_opening definitions opened drained answer opens behind

    one_of : Makes number disk later out after status → One
    one_of (inl (at, refuses)) = refused_so memory_refusal (none_memory memory_refusal refl) refuses
    one_of (inr (read, answer, reads, astray, behind)) = by_reading read answer reads behind

    -- why it ends so, where it tells no difference
    reason : MakeEnds disk later out after status → (status ≡ 8 → ⊥) → (status ≡ 1 → ⊥) → One → HasReason disk later out after status
    reason ends never same (inl e) = inl (inl e)
    reason ends never same (inr (inl e)) = absurd (same e)
    reason ends never same (inr (inr (inl e))) = inr (inr (e, ends.causes.sink_failed e))
    reason ends never same (inr (inr (inr (inl e)))) = inl (inr (inl e))
    reason ends never same (inr (inr (inr (inr (inl e))))) = inl (inr (inr (inl e)))
    reason ends never same (inr (inr (inr (inr (inr (inl e)))))) = inr (inl (e, ends.causes.disk_failed e))
    reason ends never same (inr (inr (inr (inr (inr (inr (inl e))))))) = absurd (never e)
    reason ends never same (inr (inr (inr (inr (inr (inr (inr e))))))) = inl (inr (inr (inr e)))

    pub has_reason : Makes number disk later out after status → (status ≡ 1 → ⊥) → HasReason disk later out after status
    has_reason makes same =
        reason (ends_so disk later out after status number makes) (never_files number disk later out after status high makes) same
        (one_of makes)
