-- No run of `make` ends with the status of folders or sources that failed.
use Rattle.std.proofs.Common.{ℕ, ◌≡◌, ◌⊎◌, ◌≤◌, ◌∙◌, List, false, Option, Some, None, Result, Ok, Err, refl, sym, ap, subst, inl, inr, arith, All, IfSome}
use Rattle.std.specs.Prelude.{IfErr, codes}
use Rattle.rp_apply.specs.Sourced.{paths_of}
use Rattle.rp_apply_command.specs.Applies.{IsCommitRefusal, Opens, Outcome}
use Rattle.rp_apply_command.proofs.Goals.{settled_ok, told_same}
use Rattle.rp_base.specs.Faults.{Rose}
use Rattle.rp_base.specs.declared.faults.Failed.{Failed}
use Rattle.rp_base.specs.declared.guid.Guid.{Guid}
use Rattle.rp_check_command.specs.Checks.{Finds, check_request}
use Rattle.rp_defs.specs.WellFormed.{IsWellFormed}
use Rattle.rp_defs.specs.declared.definition.Definitions.{Definitions}
use Rattle.rp_difference.specs.declared.difference.Difference.{Difference}
use Rattle.rp_io.specs.Files.{Tree, content}
use Rattle.rp_io.specs.declared.stored.Stored.{Stored}
use Rattle.rp_make_input.specs.Bytes.{source_bytes}
use Rattle.rp_make_input.specs.MakeInput.{make_input, seed_of, source_files, tree_for, folders_of}
use Rattle.rp_make_room.specs.Room.{IsRoomRefusal, Looks, room_in}
use Rattle.rp_outcome.specs.Device.{Device}
use Rattle.rp_outcome.specs.Output.{Output, Refuses}
use Rattle.rp_outcome.specs.Refusals.{Refusal, disk_refusal, folder_refusal, memory_refusal, source_refusal}
use Rattle.rp_outcome.specs.Store.{Store}
use Rattle.rp_plan_command.specs.Plans.{Tells as TellsPlan}
use Rattle.rp_plan_command.proofs.Statuses.{by_status}
use Rattle.rp_planned.specs.Files.{TellsFailure}
use Rattle.rp_planned.specs.Planning.{PlansImage}
use Rattle.rp_planned.specs.declared.planned.Planned.{Planned}
use Rattle.rp_planned.specs.declared.request.Request.{Request}
use Rattle.rp_reading.specs.Reading.{IsReadingRefusal, ReadsDefinitions, definitions_in}
use Rattle.rp_reading.specs.Stages.{HasStageCause}
use Rattle.rp_step.specs.Found.{HasFile}
use Rattle.rp_steps.specs.Steps.{steps}
use Rattle.rp_types.specs.declared.arch.Arch.TheVariants.{X86_64}
use Rattle.rp_make_definitions.specs.Made.{HasDefinitions, IsMade}
use Rattle.rp_make_definitions.proofs.Known.{has_definitions}
use Rattle.rp_make_command.specs.Makes.{FailsAstray, Makes, MakesChecked, MakesCheckedBehind, MakesCompared, MakesComparedBehind, MakesGrownBehind, MakesLookedBehind, MakesOpenedBehind, MakesPlannedBehind, MakesReadBehind, SourcesStay, TellsFound, made_store, make_request}
use Rattle.rp_make_command.specs.Summary.{TellsMade, front_text}
use Rattle.rp_make_command.proofs.Asked.{files_there, stays_asked}

-- a count that is 0 didn't rise
no_rise : (before now : ℕ) → now ≡ 0 → Rose before now → ⊥
no_rise before now none rose = omega (arith, none, rose)

same_definitions : (a b : Definitions) → ◌≡◌ {A = Result Definitions Refusal} (Ok a) (Ok b) → a ≡ b
same_definitions a b e = cc

module _ (number : ℕ) (disk later : Device) (out after : Output) (status : ℕ) where
  abbrev Not : Type 0
  Not = status ≡ 8 → ⊥

  abbrev files : List Stored
  files = source_files number

  there : content files (codes "make.raw") ≡ Some (source_bytes number)
  there = refl

  other : (n : ℕ) → status ≡ n → (n ≡ 8 → ⊥) → Not
  other n e apart eight = apart (sym e ∙ eight)

  refused_by : (refusal : Refusal) (n : ℕ) → Refuses out after refusal status → refusal.status ≡ n → (n ≡ 8 → ⊥) → Not
  refused_by refusal n refuses is apart = other n (refuses.answers ∙ is) apart

  by_told : (front : List ℕ) (found : Option Difference) → TellsMade front out after status found → Not
  by_told front None (inl (e, printed)) = other 0 e (λ f. omega (arith, f))
  by_told front None (inr (e, part)) = other 9 e (λ f. omega (arith, f))
  by_told front (Some d) (inl (e, printed)) = other 1 e (λ f. omega (arith, f))
  by_told front (Some d) (inr (e, part)) = other 9 e (λ f. omega (arith, f))

  by_two : (refusal : Refusal) → (refusal ≡ disk_refusal) ⊎ (refusal ≡ memory_refusal) → Refuses out after refusal status → Not
  by_two refusal (inl e) refuses = refused_by refusal 7 refuses (ap (λ (r : Refusal). r.status) e) (λ f. omega (arith, f))
  by_two refusal (inr e) refuses = refused_by refusal 10 refuses (ap (λ (r : Refusal). r.status) e) (λ f. omega (arith, f))

  by_found : (front : List ℕ) (planned : Planned) (mid : Device) → MakesCompared front planned mid later out after status → Not
  by_found front planned mid (answer, finds, tells) = go answer finds tells where
    go : (answer : Result (Option Difference) Refusal) → Finds X86_64 planned mid later answer → TellsFound front out after status answer → Not
    go (Ok found) finds tells = by_told front found tells
    go (Err refusal) finds refuses = by_two refusal finds.refusal refuses

  module _ (folders read : Store Tree) (definitions : Definitions) (seed : Guid) (dirs : List (List ℕ)) (read_none : read.faults ≡ 0)
      (reads : ReadsDefinitions X86_64 dirs folders read (Ok definitions)) (each : All IsMade definitions.list)
      (wf : IsWellFormed definitions.list) where
    as_plan : (request : Request) → ReadsDefinitions request.arch dirs folders read (Ok definitions) → (mid seen : Device)
        (sources asked : Store (List Stored)) (answer : Result Planned Refusal) → asked.faults ≡ 0
        → PlansImage request definitions.list mid seen sources asked answer → TellsPlan false definitions out after status answer → Not
    as_plan request reads mid seen sources asked answer none plans tells eight =
        go ((by_status request false dirs folders read mid seen sources asked out after status
        (Ok definitions, reads, (answer, plans, tells))).files.failed eight) where
          go : TellsFailure folders read sources asked out after → ⊥
          go (inl rose) = no_rise folders.faults read.faults read_none rose.0
          go (inr rose) = no_rise sources.faults asked.faults none rose.0

    by_check : (mid : Device) (left drained : Store (List Stored)) (front : List ℕ) → left.told ≡ Some files → left.strays ≡ 0
        → FailsAstray drained → MakesChecked seed front definitions mid later left drained out after status → Not
    by_check mid left drained front told none astray (seen, answer, plans, behind) = go answer plans behind where
      go : (answer : Result Planned Refusal)
          → PlansImage (check_request seed X86_64 512) definitions.list mid seen left drained answer
          → MakesComparedBehind front seen later out after status answer → Not
      go (Err refusal) plans (at, refuses) =
          as_plan (check_request seed X86_64 512) reads mid seen left drained (Err refusal)
          (astray (stays_asked (check_request seed X86_64 512) definitions.list files each (source_bytes number) there mid seen left drained told
          (Err refusal) plans ∙ none)) plans refuses
      go (Ok planned) plans compared = by_found front planned seen compared

    by_commit : (planned : Planned) (made : Device) (asked left drained : Store (List Stored)) (answer : Outcome) → left.told ≡ Some files
        → left.strays ≡ 0 → FailsAstray drained → IfErr answer (IsCommitRefusal planned)
        → HasStageCause source_refusal asked.faults left.faults answer
        → MakesCheckedBehind number seed definitions planned made later left drained out after status answer → Not
    by_commit planned made asked left drained (Ok done) told none astray refusal cause checked =
        by_check made left drained (front_text number planned) told none astray checked
    by_commit planned made asked left drained (Err refusal) told none astray (inl e) cause (at, same, refuses) =
        refused_by refusal 7 refuses (ap (λ (r : Refusal). r.status) e) (λ f. omega (arith, f))
    by_commit planned made asked left drained (Err refusal) told none astray (inr (inl e)) cause (at, same, refuses) =
        let quiet : left.strays ≡ 0 → left.faults ≡ 0 = subst FailsAstray same astray in
        λ eight. no_rise asked.faults left.faults (quiet none) (cause.failed (ap Err e))
    by_commit planned made asked left drained (Err refusal) told none astray (inr (inr changed)) cause (at, same, refuses) =
        refused_by refusal 11 refuses (ap (λ (r : Refusal). r.status) changed.2) (λ f. omega (arith, f))

    stays_carried : (planned : Planned) (mid seen : Device) (asked left : Store (List Stored))
        → PlansImage (make_request seed) definitions.list mid seen (made_store files) asked (Ok planned) → asked.told ≡ Some files
        → SourcesStay definitions planned asked left → left.strays ≡ asked.strays
    stays_carried planned mid seen asked left plans told stays =
        subst (λ (o : Option (List Stored)). IfSome o (λ files.
        All (HasFile files (paths_of definitions.list)) (steps planned.plan planned.seen) → left.strays ≡ asked.strays)) told stays
        (files_there (make_request seed) definitions.list files each (source_bytes number) there mid seen (made_store files) asked refl planned
        (inl refl) refl (omega arith) wf plans)

    by_plan : (mid seen : Device) (asked drained : Store (List Stored)) (answer : Result Planned Refusal) → FailsAstray drained
        → PlansImage (make_request seed) definitions.list mid seen (made_store files) asked answer
        → MakesPlannedBehind number seed definitions seen later asked drained out after status answer → Not
    by_plan mid seen asked drained (Err refusal) astray plans (at, same, refuses) =
        let none = stays_asked (make_request seed) definitions.list files each (source_bytes number) there mid seen (made_store files) asked refl
        (Err refusal) plans in
        let quiet : asked.strays ≡ 0 → asked.faults ≡ 0 = subst FailsAstray same astray in
        as_plan (make_request seed) reads mid seen (made_store files) asked (Err refusal) (quiet none) plans refuses
    by_plan mid seen asked drained (Ok planned) astray plans (inl (at, same, refuses)) = refused_by memory_refusal 10 refuses refl (λ f. omega (arith, f))
    by_plan mid seen asked drained (Ok planned) astray plans (inr (made, left, answer, carries, stays, behind)) =
        let none = stays_asked (make_request seed) definitions.list files each (source_bytes number) there mid seen (made_store files) asked refl
        (Ok planned) plans in
        let told : asked.told ≡ Some files = told_same (make_request seed) definitions.list mid seen (made_store files) asked planned plans in
        by_commit planned made asked left drained answer (carries.told ∙ told)
        (stays_carried planned mid seen asked left plans told stays ∙ none) astray carries.refusal carries.cause.of_sources behind

    by_growth : (grown : Device) (drained : Store (List Stored)) (answer : Result (Unit {0}) Failed) → FailsAstray drained
        → MakesGrownBehind number seed definitions grown later (made_store files) drained out after status answer → Not
    by_growth grown drained (Err e) astray (at, same, refuses) = refused_by disk_refusal 7 refuses refl (λ f. omega (arith, f))
    by_growth grown drained (Ok done) astray (seen, asked, answer, plans, fits, behind) = by_plan grown seen asked drained answer astray plans behind

    by_room : (refusal : Refusal) → IsRoomRefusal refusal → Refuses out after refusal status → Not
    by_room refusal (inl is) refuses = refused_by refusal 4 refuses is (λ f. omega (arith, f))
    by_room refusal (inr two) refuses = by_two refusal two refuses

    by_look : (mid looked : Device) (drained : Store (List Stored)) (answer : Result ℕ Refusal) → FailsAstray drained
        → Looks room_in mid looked answer
        → MakesLookedBehind number seed definitions looked later (made_store files) drained out after status answer → Not
    by_look mid looked drained (Err refusal) astray looks (at, same, refuses) = by_room refusal looks.refusal refuses
    by_look mid looked drained (Ok len) astray looks (grown, answer, grows, behind) = by_growth grown drained answer astray behind

    by_opening : (opened : Device) (drained : Store (List Stored)) (answer : Outcome) → FailsAstray drained → Opens disk opened answer
        → MakesOpenedBehind number seed definitions opened later (made_store files) drained out after status answer → Not
    by_opening opened drained (Err refusal) astray opens (at, same, refuses) =
        refused_by refusal 7 refuses (ap (λ (r : Refusal). r.status) opens.refusal) (λ f. omega (arith, f))
    by_opening opened drained (Ok done) astray opens (looked, answer, looks, behind) = by_look opened looked drained answer astray looks behind

  by_reading : (read : Store Tree) (refusal : Refusal) → read.faults ≡ 0
      → HasStageCause {T = Definitions} folder_refusal 0 read.faults (Err refusal) → IsReadingRefusal refusal → Refuses out after refusal status → Not
  by_reading read refusal none cause (inl is) refuses = refused_by refusal 3 refuses is (λ f. omega (arith, f))
  by_reading read refusal none cause (inr (inl e)) refuses = λ eight. no_rise 0 read.faults none (cause.failed (ap Err e))
  by_reading read refusal none cause (inr (inr e)) refuses =
      refused_by refusal 10 refuses (ap (λ (r : Refusal). r.status) e) (λ f. omega (arith, f))

  module _ (high : number ≤ 100) where
    has : HasDefinitions number
    has = has_definitions number high

    by_definitions : (read : Store Tree) (answer : Result Definitions Refusal)
        → ReadsDefinitions X86_64 folders_of (made_store (tree_for number)) read answer → FailsAstray read
        → MakesReadBehind number (make_input number) disk later out after status answer → Not
    by_definitions read (Err refusal) reads astray (at, refuses) =
        by_reading read refusal (astray reads.strays) reads.cause reads.refusal refuses
    by_definitions read (Ok definitions) reads astray (drained, sources_astray, (opened, answer, opens, behind)) =
        let found = settled_ok folder_refusal (definitions_in X86_64 (tree_for number) folders_of) definitions reads.settled in
        let same = same_definitions has.definitions definitions (sym has.are ∙ found) in
        by_opening (made_store (tree_for number)) read definitions (seed_of number) folders_of (astray reads.strays) reads
        (subst (λ (d : Definitions). All IsMade d.list) same has.each) reads.well_formed opened drained answer sources_astray opens behind

    -- whatever it made
    pub never_files : Makes number disk later out after status → Not
    never_files (inl (at, refuses)) = refused_by memory_refusal 10 refuses refl (λ f. omega (arith, f))
    never_files (inr (read, answer, reads, astray, behind)) = by_definitions read answer reads astray behind
