-- How far a run of `make` came on a disk that can have a past.
use Rattle.std.proofs.Common.{ℕ, ◌≡◌, ◌⊎◌, ◌≤◌, ◌∙◌, ◌++◌, List, [], ◌∷◌, Option, Some, Result, Ok, Err, refl, sym, ap, subst, inl, inr, arith}
use Rattle.std.specs.Prelude.{IfErr, IfOk, IfSome}
use Rattle.rp_apply_command.specs.Applies.{CarriesOut, Opens, Outcome, PlanFits}
use Rattle.rp_apply_command.specs.Ends.{Given, IsGoalOf}
use Rattle.rp_apply_command.proofs.Goals.{is_goal, is_told, settled_ok, told_same}
use Rattle.rp_apply_command.proofs.Runs.{made_none, made_sync, same_shown}
use Rattle.rp_base.specs.declared.faults.Failed.{Failed}
use Rattle.rp_check_command.specs.Checks.{check_request}
use Rattle.rp_defs.specs.WellFormed.{IsWellFormed}
use Rattle.rp_defs.specs.declared.definition.Definitions.{Definitions}
use Rattle.rp_disk.specs.Device.{CanHave}
use Rattle.rp_disk.specs.History.{held}
use Rattle.rp_disk.specs.Made.{Made, Past, dones, history_of}
use Rattle.rp_disk.specs.Runs.{MadeFirst}
use Rattle.rp_disk.specs.declared.call.Call.{Call}
use Rattle.rp_disk.specs.declared.call.Call.TheVariants.{Sync}
use Rattle.rp_disk.proofs.Noting.{can_before}
use Rattle.rp_disk.proofs.Runs.{made_first, more}
use Rattle.rp_io.specs.Files.{Tree}
use Rattle.rp_io.specs.declared.stored.Stored.{Stored}
use Rattle.rp_make_command.specs.Makes.{Makes, MakesChecked, MakesCheckedBehind, MakesCompared, MakesComparedBehind, MakesGrownBehind, MakesLookedBehind, MakesOpenedBehind, MakesPlannedBehind, MakesReadBehind, made_store, make_request}
use Rattle.rp_make_command.specs.Summary.{front_text}
use Rattle.rp_make_input.specs.MakeInput.{folders_of, make_input, seed_of, source_files, tree_for}
use Rattle.rp_make_room.specs.Room.{Grows, Looks, growth_calls, length_made, room_in}
use Rattle.rp_outcome.specs.Device.{Device}
use Rattle.rp_outcome.specs.Output.{Output}
use Rattle.rp_outcome.specs.Refusals.{Refusal, disk_refusal, folder_refusal}
use Rattle.rp_outcome.specs.Statuses as exit
use Rattle.rp_outcome.specs.Store.{Store}
use Rattle.rp_planned.specs.Planning.{PlansImage, planned_of}
use Rattle.rp_planned.specs.declared.planned.Planned.{Planned}
use Rattle.rp_reading.specs.Reading.{ReadsDefinitions, definitions_in}
use Rattle.rp_reading.specs.Stages.{Settles, and_then}
use Rattle.rp_steps.specs.Calls.{calls as calls_for}
use Rattle.rp_types.specs.declared.arch.Arch.TheVariants.{X86_64}
use Rattle.rp_make_promise.specs.Leaves.{grown_image, planned_for}
use Rattle.rp_make_promise.proofs.Room.{behind_all, held_grown, made_whole, room_length}
use Rattle.rp_make_promise.proofs.Since.{since_looked, since_made}

-- a plan was carried out, or the first of its calls
pub record Carried (number : ℕ) (old : List ℕ) (before now : List Made) : Type 0 where
  pub len : ℕ
  pub room : room_in old ≡ Ok len
  pub short : len ≤ length_made
  pub definitions : Definitions
  pub planned : Planned
  pub goal : planned_for number (grown_image old) ≡ Ok (definitions, planned)
  pub known : IsGoalOf (make_request (seed_of number)) definitions.list (grown_image old) planned
  pub fits : PlanFits planned
  pub made : MadeFirst before
      ((Sync ∷ growth_calls len) ++ calls_for planned.plan planned.seen (Given definitions.list (source_files number))) now

-- a sync alone was made, or the growth too, or a plan was carried out
abbrev pub Reached : ℕ → List ℕ → List Made → List Made → Type 0
Reached number old before now =
    MadeFirst before (Sync ∷ []) now
    ⊎ ((len : ℕ) × (room_in old ≡ Ok len) × MadeFirst before (Sync ∷ growth_calls len) now)
    ⊎ Carried number old before now

module _ (number : ℕ) (disk later : Device) (out after : Output) (status : ℕ) (past : Past) (can : CanHave past later) where
  abbrev old : List ℕ
  old = held (history_of past disk.calls)

  abbrev files : List Stored
  files = source_files number

  abbrev All : Type 0
  All = Reached number (held (history_of past disk.calls)) disk.calls later.calls

  -- nothing is asked of the disk behind the plan but to read
  compared : (front : List ℕ) (planned : Planned) (mid : Device) → MakesCompared front planned mid later out after status
      → later.calls ≡ mid.calls
  compared front planned mid (answer, finds, tells) = finds.only_read.calls

  compared_behind : (front : List ℕ) (mid : Device) (answer : Result Planned Refusal)
      → MakesComparedBehind front mid later out after status answer → later.calls ≡ mid.calls
  compared_behind front mid (Err refusal) (at, refuses) = ap (λ (d : Device). d.calls) at
  compared_behind front mid (Ok planned) made = compared front planned mid made

  module _ (definitions : Definitions) (are : definitions_in X86_64 (tree_for number) folders_of ≡ Ok definitions)
      (formed : IsWellFormed definitions.list) where
    checked : (front : List ℕ) (mid : Device) (left drained : Store (List Stored))
        → MakesChecked (seed_of number) front definitions mid later left drained out after status → later.calls ≡ mid.calls
    checked front mid left drained (seen, answer, plans, behind) =
        compared_behind front seen answer behind
        ∙ plans.1.only_read.calls

    checked_behind : (planned : Planned) (mid : Device) (left drained : Store (List Stored)) (answer : Outcome)
        → MakesCheckedBehind number (seed_of number) definitions planned mid later left drained out after status answer
        → later.calls ≡ mid.calls
    checked_behind planned mid left drained (Err refusal) (at, same, refuses) = ap (λ (d : Device). d.calls) at
    checked_behind planned mid left drained (Ok done) made = checked (front_text number planned) mid left drained made

    module _ (len : ℕ) (room : room_in (held (history_of past disk.calls)) ≡ Ok len) (short : len ≤ length_made) (grown : Device)
        (behind : grown.calls ≡ disk.calls ++ dones (Sync ∷ growth_calls len))
        (drained : Store (List Stored)) where
      pub image : held (history_of past grown.calls) ≡ grown_image old
      image = held_grown past disk.calls grown.calls len behind (room_length old len room) short

      -- the growth was made
      grown_alone : later.calls ≡ grown.calls → All
      grown_alone same = inr (inl (len, room, made_whole disk.calls later.calls (Sync ∷ growth_calls len) (same ∙ behind)))

      module _ (seen made : Device) (asked left : Store (List Stored)) (planned : Planned) (answer : Outcome)
          (plans : PlansImage (make_request (seed_of number)) definitions.list grown seen (made_store (source_files number)) asked (Ok planned))
          (fits : PlanFits planned) (carries : CarriesOut definitions planned seen made asked left answer) (now : CanHave past made) where
        -- the calls that were made, or the first of them
        abbrev pub calls : List Call
        calls = (carries.runs (Some past) now).0

        pub exact : calls ≡ calls_for planned.plan planned.seen (Given definitions.list files)
        exact =
            let P : List Stored → Type 0 = λ stored. (calls ≡ calls_for planned.plan planned.seen (Given definitions.list stored))
            × IfErr answer (λ refusal. refusal.status ≡ exit.changed → ⊥) in
            (subst (λ (o : Option (List Stored)). IfSome o P)
            (told_same (make_request (seed_of number)) definitions.list grown seen (made_store files) asked planned plans)
            (carries.runs (Some past) now).1.exact).0

        pub told : planned_of (make_request (seed_of number)) definitions.list (grown_image old) files ≡ Ok planned
        told =
            subst (λ (i : List ℕ). planned_of (make_request (seed_of number)) definitions.list i (source_files number) ≡ Ok planned) image
            (is_told (make_request (seed_of number)) definitions.list grown seen (made_store files) asked planned plans past
            (can_before carries.earlier now))

        pub planned_so : planned_for number (grown_image old) ≡ Ok (definitions, planned)
        planned_so =
            ap (λ (d : Result Definitions Refusal). and_then d (λ definitions.
            and_then (planned_of (make_request (seed_of number)) definitions.list (grown_image old) (source_files number))
            (λ planned. Ok (definitions, planned)))) are
            ∙ ap (λ (p : Result Planned Refusal). and_then p (λ planned. Ok (definitions, planned))) told

        known : IsGoalOf (make_request (seed_of number)) definitions.list (grown_image old) planned
        known =
            subst (λ (i : List ℕ). IsGoalOf (make_request (seed_of number)) definitions.list i planned) image
            (is_goal (make_request (seed_of number)) definitions.list grown seen (made_store files) asked planned (inl refl) refl (omega arith)
            formed fits plans past (can_before carries.earlier now))

        pub carried : later.calls ≡ made.calls → Carried number (held (history_of past disk.calls)) disk.calls later.calls
        carried same = record {
          len = len;
          room = room;
          short = short;
          definitions = definitions;
          planned = planned;
          goal = planned_so;
          known = known;
          fits = fits;
          made = subst (λ (l : List Call). MadeFirst disk.calls ((Sync ∷ growth_calls len) ++ l) later.calls) exact
              (behind_all disk.calls seen.calls later.calls (Sync ∷ growth_calls len) calls (plans.1.only_read.calls ∙ behind)
              (subst (λ (l : List Made). MadeFirst seen.calls calls l) (sym same)
              (made_first answer seen.calls made.calls calls (carries.runs (Some past) now).1.ran)));
        }

      by_plan : (seen : Device) (asked : Store (List Stored)) (answer : Result Planned Refusal)
          → PlansImage (make_request (seed_of number)) definitions.list grown seen (made_store files) asked answer → IfOk answer PlanFits
          → MakesPlannedBehind number (seed_of number) definitions seen later asked drained out after status answer → All
      by_plan seen asked (Err refusal) plans fits (at, same, refuses) =
          grown_alone (ap (λ (d : Device). d.calls) at ∙ plans.1.only_read.calls)
      by_plan seen asked (Ok planned) plans fits (inl (at, same, refuses)) =
          grown_alone (ap (λ (d : Device). d.calls) at ∙ plans.1.only_read.calls)
      by_plan seen asked (Ok planned) plans fits (inr (made, left, answer, carries, stays, checked)) =
          inr (inr (carried seen made asked left planned answer plans fits carries
          (can_before (since_made number (seed_of number) definitions later out after status planned made left drained answer checked) can)
          (checked_behind planned made left drained answer checked)))

    module _ (opened : Device) (opens : Opens disk opened (Ok tt)) where
      synced : opened.calls ≡ disk.calls ++ dones (Sync ∷ [])
      synced = opens.ran.ok

      sync_alone : later.calls ≡ opened.calls → All
      sync_alone same = inl (made_sync disk.calls later.calls (same ∙ synced))

      -- the image may be grown
      pub room_told : (looked : Device) (len : ℕ) → Looks room_in opened looked (Ok len) → CanHave past looked → room_in (held (history_of past disk.calls)) ≡ Ok len
      room_told looked len looks now =
          settled_ok disk_refusal (room_in old) len
          (subst (λ (i : List ℕ). Settles disk_refusal (room_in i) (Ok len))
          (ap (λ (l : List Made). held (history_of past l)) synced ∙ same_shown past disk.calls) (looks.settled past now))

      by_growth : (looked grown : Device) (len : ℕ) (drained : Store (List Stored)) (answer : Result (Unit {0}) Failed)
          → Looks room_in opened looked (Ok len) → CanHave past looked → Grows len looked grown answer
          → MakesGrownBehind number (seed_of number) definitions grown later (made_store files) drained out after status answer → All
      by_growth looked grown len drained (Err e) looks now grows (at, same, refuses) =
          inr (inl (
            len,
            room_told looked len looks now,
            behind_all disk.calls looked.calls later.calls (Sync ∷ []) (growth_calls len) (looks.only_read.calls ∙ synced)
                (subst (λ (d : Device). MadeFirst looked.calls (growth_calls len) d.calls) (sym at)
                (made_first {T = Unit {0}} {E = Failed} (Err e) looked.calls grown.calls (growth_calls len) grows.ran)),
          ))
      by_growth looked grown len drained (Ok done) looks now grows (seen, asked, answer, plans, fits, behind) =
          by_plan len (room_told looked len looks now) looks.short grown
          (more disk.calls looked.calls grown.calls (Sync ∷ []) (growth_calls len) (looks.only_read.calls ∙ synced) grows.ran.ok)
          drained seen asked answer plans fits behind

      by_look : (looked : Device) (drained : Store (List Stored)) (answer : Result ℕ Refusal) → Looks room_in opened looked answer
          → MakesLookedBehind number (seed_of number) definitions looked later (made_store files) drained out after status answer → All
      by_look looked drained (Err refusal) looks (at, same, refuses) =
          sync_alone (ap (λ (d : Device). d.calls) at ∙ looks.only_read.calls)
      by_look looked drained (Ok len) looks (grown, answer, grows, behind) =
          by_growth looked grown len drained answer looks
          (can_before (since_looked number (seed_of number) definitions later out after status looked (made_store files) drained (Ok len)
          (grown, answer, grows, behind)) can) grows behind

    by_opening : (opened : Device) (drained : Store (List Stored)) (answer : Outcome) → Opens disk opened answer
        → MakesOpenedBehind number (seed_of number) definitions opened later (made_store files) drained out after status answer → All
    by_opening opened drained (Err refusal) opens (at, same, refuses) =
        inl (subst (λ (d : Device). MadeFirst disk.calls (Sync ∷ []) d.calls) (sym at)
        (made_first {T = Unit {0}} {E = Refusal} (Err refusal) disk.calls opened.calls (Sync ∷ []) opens.ran))
    by_opening opened drained (Ok tt) opens (looked, answer, looks, behind) = by_look opened opens looked drained answer looks behind

  untouched : later ≡ disk → All
  untouched at = inl (subst (λ (d : Device). MadeFirst disk.calls (Sync ∷ []) d.calls) (sym at) (made_none disk.calls (Sync ∷ [])))

  by_reading : (read : Store Tree) (answer : Result Definitions Refusal)
      → ReadsDefinitions X86_64 folders_of (made_store (tree_for number)) read answer
      → MakesReadBehind number (make_input number) disk later out after status answer → All
  by_reading read (Err refusal) reads (at, refuses) = untouched at
  by_reading read (Ok definitions) reads (drained, astray, (opened, answer, opens, behind)) =
      by_opening definitions (settled_ok folder_refusal (definitions_in X86_64 (tree_for number) folders_of) definitions reads.settled)
      reads.well_formed opened drained answer opens behind

  -- at every status
  pub reached : Makes number disk later out after status → All
  reached (inl (at, refuses)) = untouched at
  reached (inr (read, answer, reads, astray, behind)) = by_reading read answer reads behind
