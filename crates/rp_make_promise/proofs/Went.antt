-- A run of `make` that is done went through each of its stages.
use Rattle.std.proofs.Common.{ℕ, ◌≡◌, ◌⊎◌, ◌∙◌, ◌++◌, List, Option, Some, None, Result, Ok, Err, refl, sym, ap, subst, inl, inr, arith}
use Rattle.std.specs.Prelude.{IfOk}
use Rattle.rp_apply_command.specs.Applies.{CarriesOut, Opens, Outcome, PlanFits}
use Rattle.rp_apply_command.specs.Ends.{IsBefore, IsBetween}
use Rattle.rp_apply_command.proofs.Ended.{is_commit, not_before, not_between}
use Rattle.rp_apply_command.proofs.Goals.{IsRefused, none_planned, settled_ok}
use Rattle.rp_base.specs.declared.faults.Failed.{Failed}
use Rattle.rp_check_command.specs.Checks.{Finds, check_request}
use Rattle.rp_check_command.specs.Reports.{same_line}
use Rattle.rp_defs.specs.WellFormed.{IsWellFormed}
use Rattle.rp_defs.specs.declared.definition.Definitions.{Definitions}
use Rattle.rp_difference.specs.declared.difference.Difference.{Difference}
use Rattle.rp_disk.specs.Device.{Earlier}
use Rattle.rp_io.specs.Files.{Tree}
use Rattle.rp_io.specs.declared.stored.Stored.{Stored}
use Rattle.rp_make_input.specs.MakeInput.{folders_of, make_input, seed_of, source_files, tree_for}
use Rattle.rp_make_room.specs.Room.{Grows, IsRoomRefusal, Looks, room_in}
use Rattle.rp_outcome.specs.Device.{Device}
use Rattle.rp_outcome.specs.Output.{Output, PrintsAll, Refuses}
use Rattle.rp_outcome.specs.Refusals.{Refusal, disk_refusal, folder_refusal, memory_refusal}
use Rattle.rp_outcome.specs.Store.{Store}
use Rattle.rp_planned.specs.Planning.{PlansImage}
use Rattle.rp_planned.specs.declared.planned.Planned.{Planned}
use Rattle.rp_reading.specs.Reading.{IsReadingRefusal, ReadsDefinitions, definitions_in}
use Rattle.rp_types.specs.declared.arch.Arch.TheVariants.{X86_64}
use Rattle.rp_make_command.specs.Makes.{Makes, MakesChecked, MakesCheckedBehind, MakesCompared, MakesComparedBehind, MakesGrownBehind, MakesLookedBehind, MakesOpenedBehind, MakesPlannedBehind, MakesReadBehind, TellsFound, made_store, make_request}
use Rattle.rp_make_command.specs.Summary.{TellsMade, front_text}
use Rattle.rp_make_promise.proofs.Since.{since_made}

-- what was done, stage by stage
pub record Went (number : ℕ) (disk later : Device) (out after : Output) : Type 0 where
  pub definitions : Definitions
  pub are : definitions_in X86_64 (tree_for number) folders_of ≡ Ok definitions
  pub formed : IsWellFormed definitions.list
  pub opened : Device
  pub looked : Device
  pub grown : Device
  pub seen : Device
  pub made : Device
  pub len : ℕ
  pub planned : Planned
  pub asked : Store (List Stored)
  pub left : Store (List Stored)
  pub opens : Opens disk opened (Ok tt)
  pub looks : Looks room_in opened looked (Ok len)
  pub grows : Grows {T = Unit {0}} {E = Failed} len looked grown (Ok tt)
  pub plans : PlansImage (make_request (seed_of number)) definitions.list grown seen (made_store (source_files number)) asked (Ok planned)
  pub fits : PlanFits planned
  pub carries : CarriesOut definitions planned seen made asked left (Ok tt)
  pub since : Earlier made later
  pub same : later.calls ≡ made.calls
  pub printed : PrintsAll out after (front_text number planned ++ same_line)

module _ (number : ℕ) (disk later : Device) (out after : Output) (status : ℕ) (done : status ≡ 0) where
  abbrev All : Type 0
  All = Went number disk later out after

  refused : {P : Type 0} (refusal : Refusal) → IsRefused refusal → Refuses out after refusal status → P
  refused refusal (inl is) refuses = not_before status (subst IsBefore (sym refuses.answers) is) done
  refused refusal (inr is) refuses = not_between status (subst IsBetween (sym refuses.answers) is) done

  is_memory : IsRefused memory_refusal
  is_memory = inl (inr (inr (inr refl)))

  is_disk : IsRefused disk_refusal
  is_disk = inr (inl refl)

  is_either : (refusal : Refusal) → (refusal ≡ disk_refusal) ⊎ (refusal ≡ memory_refusal) → IsRefused refusal
  is_either refusal (inl e) = subst IsRefused (sym e) is_disk
  is_either refusal (inr e) = subst IsRefused (sym e) is_memory

  is_room : (refusal : Refusal) → IsRoomRefusal refusal → IsRefused refusal
  is_room refusal (inl four) = inl (inr (inl four))
  is_room refusal (inr two) = is_either refusal two

  is_reading : (refusal : Refusal) → IsReadingRefusal refusal → IsRefused refusal
  is_reading refusal (inl three) = inl (inl three)
  is_reading refusal (inr (inl failed)) = inr (inr (inl (ap (λ (r : Refusal). r.status) failed)))
  is_reading refusal (inr (inr want)) = is_either refusal (inr want)

  -- what differs in nothing was told
  told : (front : List ℕ) (found : Option Difference) → TellsMade front out after status found → PrintsAll out after (front ++ same_line)
  told front None (inl (e, printed)) = printed
  told front None (inr (e, part)) = absurd (omega (arith, e, done))
  told front (Some d) (inl (e, printed)) = absurd (omega (arith, e, done))
  told front (Some d) (inr (e, part)) = absurd (omega (arith, e, done))

  -- the image was compared, and no call was made
  abbrev Compared : List ℕ → Device → Type 0
  Compared front mid = (later.calls ≡ mid.calls) × PrintsAll out after (front ++ same_line)

  found_so : (front : List ℕ) (planned : Planned) (mid : Device) → MakesCompared front planned mid later out after status → Compared front mid
  found_so front planned mid (answer, finds, tells) = by_answer answer finds tells where
    by_answer : (answer : Result (Option Difference) Refusal) → Finds X86_64 planned mid later answer
        → TellsFound front out after status answer → Compared front mid
    by_answer (Ok found) finds tells = (finds.only_read.calls, told front found tells)
    by_answer (Err refusal) finds refuses = refused refusal (is_either refusal finds.refusal) refuses

  module _ (definitions : Definitions) (are : definitions_in X86_64 (tree_for number) folders_of ≡ Ok definitions)
      (formed : IsWellFormed definitions.list) where
    checked_so : (front : List ℕ) (mid : Device) (left drained : Store (List Stored))
        → MakesChecked (seed_of number) front definitions mid later left drained out after status → Compared front mid
    checked_so front mid left drained (seen, answer, plans, behind) = by_answer answer plans behind where
      by_answer : (answer : Result Planned Refusal)
          → PlansImage (check_request (seed_of number) X86_64 512) definitions.list mid seen left drained answer
          → MakesComparedBehind front seen later out after status answer → Compared front mid
      by_answer (Err refusal) plans (at, refuses) =
          refused refusal (none_planned (check_request (seed_of number) X86_64 512) definitions.list mid seen left drained refusal plans) refuses
      by_answer (Ok planned) plans compared =
          let more = found_so front planned seen compared in (more.0 ∙ plans.1.only_read.calls, more.1)

    module _ (opened looked grown : Device) (len : ℕ) (drained : Store (List Stored)) (opens : Opens disk opened (Ok tt))
        (looks : Looks room_in opened looked (Ok len)) (grows : Grows {T = Unit {0}} {E = Failed} len looked grown (Ok tt)) where
      carried_so : (seen made : Device) (asked left : Store (List Stored)) (planned : Planned) (answer : Outcome)
          → PlansImage (make_request (seed_of number)) definitions.list grown seen (made_store (source_files number)) asked (Ok planned)
          → PlanFits planned → CarriesOut definitions planned seen made asked left answer
          → MakesCheckedBehind number (seed_of number) definitions planned made later left drained out after status answer → All
      carried_so seen made asked left planned (Err refusal) plans fits carries (at, same, refuses) =
          refused refusal (inr (is_commit planned refusal carries.refusal)) refuses
      carried_so seen made asked left planned (Ok value) plans fits carries checked =
          let end = checked_so (front_text number planned) made left drained checked in record {
            definitions = definitions;
            are = are;
            formed = formed;
            opened = opened;
            looked = looked;
            grown = grown;
            seen = seen;
            made = made;
            len = len;
            planned = planned;
            asked = asked;
            left = left;
            opens = opens;
            looks = looks;
            grows = grows;
            plans = plans;
            fits = fits;
            carries = carries;
            since = since_made number (seed_of number) definitions later out after status planned made left drained (Ok value) checked;
            same = end.0;
            printed = end.1;
          }

      planned_so : (seen : Device) (asked : Store (List Stored)) (answer : Result Planned Refusal)
          → PlansImage (make_request (seed_of number)) definitions.list grown seen (made_store (source_files number)) asked answer
          → IfOk answer PlanFits
          → MakesPlannedBehind number (seed_of number) definitions seen later asked drained out after status answer → All
      planned_so seen asked (Err refusal) plans fits (at, same, refuses) =
          refused refusal (none_planned (make_request (seed_of number)) definitions.list grown seen (made_store (source_files number)) asked
          refusal plans) refuses
      planned_so seen asked (Ok planned) plans fits (inl (at, same, refuses)) = refused memory_refusal is_memory refuses
      planned_so seen asked (Ok planned) plans fits (inr (made, left, answer, carries, stays, behind)) =
          carried_so seen made asked left planned answer plans fits carries behind

    grown_so : (opened looked grown : Device) (len : ℕ) (drained : Store (List Stored)) (answer : Result (Unit {0}) Failed)
        → Opens disk opened (Ok tt) → Looks room_in opened looked (Ok len) → Grows len looked grown answer
        → MakesGrownBehind number (seed_of number) definitions grown later (made_store (source_files number)) drained out after status answer
        → All
    grown_so opened looked grown len drained (Err e) opens looks grows (at, same, refuses) = refused disk_refusal is_disk refuses
    grown_so opened looked grown len drained (Ok value) opens looks grows (seen, asked, answer, plans, fits, behind) =
        planned_so opened looked grown len drained opens looks grows seen asked answer plans fits behind

    looked_so : (opened looked : Device) (drained : Store (List Stored)) (answer : Result ℕ Refusal) → Opens disk opened (Ok tt)
        → Looks room_in opened looked answer
        → MakesLookedBehind number (seed_of number) definitions looked later (made_store (source_files number)) drained out after status answer
        → All
    looked_so opened looked drained (Err refusal) opens looks (at, same, refuses) = refused refusal (is_room refusal looks.refusal) refuses
    looked_so opened looked drained (Ok len) opens looks (grown, answer, grows, behind) =
        grown_so opened looked grown len drained answer opens looks grows behind

    opened_so : (opened : Device) (drained : Store (List Stored)) (answer : Outcome) → Opens disk opened answer
        → MakesOpenedBehind number (seed_of number) definitions opened later (made_store (source_files number)) drained out after status answer
        → All
    opened_so opened drained (Err refusal) opens (at, same, refuses) =
        refused refusal (subst IsRefused (sym opens.refusal) is_disk) refuses
    opened_so opened drained (Ok value) opens (looked, answer, looks, behind) = looked_so opened looked drained answer opens looks behind

  read_so : (read : Store Tree) (answer : Result Definitions Refusal)
      → ReadsDefinitions X86_64 folders_of (made_store (tree_for number)) read answer
      → MakesReadBehind number (make_input number) disk later out after status answer → All
  read_so read (Err refusal) reads (at, refuses) = refused refusal (is_reading refusal reads.refusal) refuses
  read_so read (Ok definitions) reads (drained, astray, (opened, answer, opens, behind)) =
      opened_so definitions (settled_ok folder_refusal (definitions_in X86_64 (tree_for number) folders_of) definitions reads.settled)
      reads.well_formed opened drained answer opens behind

  -- a run that is done
  pub went : Makes number disk later out after status → All
  went (inl (at, refuses)) = refused memory_refusal is_memory refuses
  went (inr (read, answer, reads, astray, behind)) = read_so read answer reads behind
