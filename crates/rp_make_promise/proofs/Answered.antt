-- The answer of a run of `make` in which no call failed.
use Rattle.std.proofs.Common.{ℕ, ◌≡◌, ◌⊎◌, ◌≤◌, ◌∙◌, ◌++◌, List, [], ◌∷◌, Option, Some, None, Result, Ok, Err, All, refl, sym, ap, subst, inl, inr, arith}
use Rattle.std.specs.Prelude.{IfOk, IfSome}
use Rattle.rp_apply_command.specs.Applies.{CarriesOut, Opens, Outcome, PlanFits}
use Rattle.rp_apply_command.proofs.Goals.{is_told, settled_ok, told_same}
use Rattle.rp_apply_command.proofs.Runs.{same_shown}
use Rattle.rp_base.specs.Faults.{Rose}
use Rattle.rp_base.specs.declared.faults.Failed.{Failed}
use Rattle.rp_check_command.specs.Checks.{Finds, check_request}
use Rattle.rp_defs.specs.WellFormed.{IsWellFormed}
use Rattle.rp_defs.specs.declared.definition.Definitions.{Definitions}
use Rattle.rp_difference.specs.Difference.{difference}
use Rattle.rp_difference.specs.declared.difference.Difference.{Difference}
use Rattle.rp_disk.specs.Device.{CanHave}
use Rattle.rp_disk.specs.History.{held}
use Rattle.rp_disk.specs.Made.{Made, Past, dones, history_of}
use Rattle.rp_disk.specs.declared.call.Call.TheVariants.{Sync}
use Rattle.rp_disk.proofs.Noting.{can_before, earlier_same}
use Rattle.rp_disk.proofs.Runs.{more}
use Rattle.rp_io.specs.Files.{Tree}
use Rattle.rp_io.specs.declared.stored.Stored.{Stored}
use Rattle.rp_make_command.specs.Makes.{Makes, MakesCheckedBehind, MakesComparedBehind, MakesGrownBehind, MakesLookedBehind, MakesOpenedBehind, MakesPlannedBehind, MakesReadBehind, TellsFound, made_store, make_request}
use Rattle.rp_make_command.specs.Summary.{front_text}
use Rattle.rp_make_command.proofs.Ended.{ends_so}
use Rattle.rp_make_command.proofs.Unfailed.{never_files}
use Rattle.rp_make_definitions.specs.Made.{HasDefinitions, HasPair, IsMade}
use Rattle.rp_make_definitions.proofs.Known.{has_definitions}
use Rattle.rp_make_input.specs.MakeInput.{folders_of, make_input, seed_of, source_files, tree_for}
use Rattle.rp_make_room.specs.Room.{Grows, Looks, growth_calls, room_in}
use Rattle.rp_outcome.specs.Device.{Device}
use Rattle.rp_outcome.specs.Output.{Output, Refuses}
use Rattle.rp_outcome.specs.Refusals.{Refusal, disk_refusal, folder_refusal, memory_refusal, source_refusal}
use Rattle.rp_outcome.specs.Store.{Store}
use Rattle.rp_planned.specs.Planning.{PlansImage, planned_of, target_of}
use Rattle.rp_planned.specs.declared.planned.Planned.{Planned}
use Rattle.rp_reading.specs.Reading.{ReadsDefinitions, definitions_in}
use Rattle.rp_reading.specs.Stages.{Settles, and_then}
use Rattle.rp_types.specs.declared.arch.Arch.TheVariants.{X86_64}
use Rattle.rp_make_promise.specs.Complete.{AnswersImage, AnswersPlanned, AnswersRoom, HasReason}
use Rattle.rp_make_promise.specs.Leaves.{grown_image, planned_for}
use Rattle.rp_make_promise.proofs.Complete.{IsNone, by_room, has_reason, none_planned, unchanged}
use Rattle.rp_make_promise.proofs.Leaving.{final_end}
use Rattle.rp_make_promise.proofs.Planned.{is_planned}
use Rattle.rp_make_promise.proofs.Reached.{image, planned_so, room_told, told}
use Rattle.rp_make_promise.proofs.Since.{since_grown, since_made}
use Rattle.rp_make_promise.proofs.Unchanged.{planned_again, untold}
use Rattle.rp_make_promise.proofs.Went.{Went}
use Rattle.rp_unchanged.specs.Defined.{AreSteady}
use Rattle.rp_unchanged.specs.Unchanged.{IsUnchanged}
use Rattle.rp_unchanged.proofs.Nothing.{made_unchanged}

same_definitions : (a b : Definitions) → ◌≡◌ {A = Result Definitions Refusal} (Ok a) (Ok b) → a ≡ b
same_definitions a b e = cc

same_planned : (a b : Planned) → ◌≡◌ {A = Result Planned Refusal} (Ok a) (Ok b) → a ≡ b
same_planned a b e = cc

-- a refusal is no difference
not_one : (n : ℕ) → IsNone n → n ≡ 1 → ⊥
not_one n (inl a) one = omega (arith, a, one)
not_one n (inr (inl a)) one = omega (arith, a, one)
not_one n (inr (inr (inl a))) one = omega (arith, a, one)
not_one n (inr (inr (inr (inl a)))) one = omega (arith, a, one)
not_one n (inr (inr (inr (inr a)))) one = omega (arith, a, one)

same_err : {T : Type 0} (a b : Refusal) → ◌≡◌ {A = Result T Refusal} (Err a) (Err b) → a ≡ b
same_err a b e = cc

as_planned : (status : ℕ) (r : Result (Definitions × Planned) Refusal) → status ≡ 10 → AnswersPlanned status r
as_planned status (Ok both) want = inr want
as_planned status (Err refusal) want = inr want

as_room : (number status : ℕ) (old : List ℕ) (r : Result ℕ Refusal) → status ≡ 10 → AnswersRoom number status old r
as_room number status old (Ok len) want = as_planned status (planned_for number (grown_image old)) want
as_room number status old (Err refusal) want = inr want

abbrev silent : Output
silent = record { taken = None; faults = 0 }

module _ (number : ℕ) (disk later : Device) (out after : Output) (status : ℕ) (past : Past) (can : CanHave past later)
    (high : number ≤ 100) where
  abbrev old : List ℕ
  old = held (history_of past disk.calls)

  abbrev files : List Stored
  files = source_files number

  -- the answer, which is no difference, or an object failed
  abbrev End : Type 0
  End = (AnswersImage number status (held (history_of past disk.calls)) × (status ≡ 1 → ⊥))
      ⊎ (status ≡ 7) ⊎ (status ≡ 8) ⊎ (status ≡ 9)

  no_difference : (refusal : Refusal) → Refuses out after refusal status → IsNone refusal.status → status ≡ 1 → ⊥
  no_difference refusal refuses none one = not_one refusal.status none (sym refuses.answers ∙ one)

  by_status : (refusal other : Refusal) → Refuses out after refusal status → refusal ≡ other → status ≡ other.status
  by_status refusal other refuses e = refuses.answers ∙ ap (λ (r : Refusal). r.status) e

  wanting : status ≡ 10 → End
  wanting want = inl (as_room number status old (room_in old) want, λ one. omega (arith, want, one))

  by_memory : (refusal : Refusal) → Refuses out after refusal status → refusal ≡ memory_refusal → End
  by_memory refusal refuses e = wanting (by_status refusal memory_refusal refuses e)

  by_disk : (refusal : Refusal) → Refuses out after refusal status → refusal ≡ disk_refusal → End
  by_disk refusal refuses e = inr (inl (by_status refusal disk_refusal refuses e))

  by_source : (refusal : Refusal) → Refuses out after refusal status → refusal ≡ source_refusal → End
  by_source refusal refuses e = inr (inr (inl (by_status refusal source_refusal refuses e)))

  by_either : (refusal : Refusal) → Refuses out after refusal status → (refusal ≡ disk_refusal) ⊎ (refusal ≡ memory_refusal) → End
  by_either refusal refuses (inl e) = by_disk refusal refuses e
  by_either refusal refuses (inr e) = by_memory refusal refuses e

  module _ (definitions : Definitions) (are : definitions_in X86_64 (tree_for number) folders_of ≡ Ok definitions)
      (formed : IsWellFormed definitions.list) where
    has : HasDefinitions number
    has = has_definitions number high

    same : has.definitions ≡ definitions
    same = same_definitions has.definitions definitions (sym has.are ∙ are)

    each : All IsMade definitions.list
    each = subst (λ (d : Definitions). All IsMade d.list) same has.each

    pair : HasPair number definitions.list
    pair = subst (λ (d : Definitions). HasPair number d.list) same has.pair

    steady : AreSteady X86_64 definitions.list
    steady = subst (λ (d : Definitions). AreSteady X86_64 d.list) same has.steady

    module _ (opened looked grown : Device) (len : ℕ) (drained : Store (List Stored)) (opens : Opens disk opened (Ok tt))
        (looks : Looks room_in opened looked (Ok len)) (grows : Grows {T = Unit {0}} {E = Failed} len looked grown (Ok tt))
        (since : CanHave past grown) where
      room : room_in old ≡ Ok len
      room = room_told number disk later out after status past can definitions are formed opened opens looked len looks
          (can_before grows.earlier since)

      behind : grown.calls ≡ disk.calls ++ dones (Sync ∷ growth_calls len)
      behind = more disk.calls looked.calls grown.calls (Sync ∷ []) (growth_calls len) (looks.only_read.calls ∙ opens.ran.ok) grows.ran.ok

      by_plan_of : (status ≡ 1 → ⊥) → AnswersPlanned status (planned_for number (grown_image old)) → End
      by_plan_of none answers = inl (subst (AnswersRoom number status old) (sym room) answers, none)

      -- it is refused as is told
      refused_so : (refusal : Refusal) → Refuses out after refusal status → IsNone refusal.status
          → planned_of (make_request (seed_of number)) definitions.list (held (history_of past grown.calls)) files ≡ Err refusal → End
      refused_so refusal refuses fault is =
          let there : planned_of (make_request (seed_of number)) definitions.list (grown_image old) files ≡ Err refusal =
          subst (λ (i : List ℕ). planned_of (make_request (seed_of number)) definitions.list i (source_files number) ≡ Err refusal)
          (image number disk later out after status past can definitions are formed len room looks.short grown behind drained) is in
          let none : planned_for number (grown_image old) ≡ Err refusal =
          ap (λ (d : Result Definitions Refusal). and_then d (λ definitions.
          and_then (planned_of (make_request (seed_of number)) definitions.list (grown_image old) (source_files number))
          (λ planned. Ok (definitions, planned)))) are
          ∙ ap (λ (p : Result Planned Refusal). and_then p (λ planned. Ok (definitions, planned))) there in
          by_plan_of (no_difference refusal refuses fault) (subst (AnswersPlanned status) (sym none) (inl refuses.answers))

      module _ (seen : Device) (asked : Store (List Stored)) (planned : Planned)
          (plans : PlansImage (make_request (seed_of number)) definitions.list grown seen (made_store (source_files number)) asked (Ok planned))
          (fits : PlanFits planned) (made : Device) (left : Store (List Stored)) where
        module _ (carries : CarriesOut definitions planned seen made asked left (Ok tt)) (now : CanHave past made) where
          goal : planned_for number (grown_image old) ≡ Ok (definitions, planned)
          goal = planned_so number disk later out after status past can definitions are formed len room looks.short grown behind
              drained seen made asked left planned (Ok tt) plans fits carries now

          done : status ≡ 0 → End
          done is = by_plan_of (λ one. omega (arith, is, one)) (subst (AnswersPlanned status) (sym goal) (inl is))

          -- the run so far
          so_far : Went number disk made silent silent
          so_far = record {
            definitions = definitions;
            are = are;
            formed = formed;
            opened = opened;
            looked = looked;
            grown = grown;
            seen = seen;
            made = made;
            len = len;
            planned = planned;
            asked = asked;
            left = left;
            opens = opens;
            looks = looks;
            grows = grows;
            plans = plans;
            fits = fits;
            carries = carries;
            since = earlier_same made;
            same = refl;
            printed = record { taken = tt; kept = refl };
          }

          -- the image that was made differs in nothing from what is planned for it again
          same_image : IsUnchanged 512 (held (history_of past made.calls)) X86_64 planned.seen planned.plan definitions.list (seed_of number)
          unfolding so_far
          same_image =
              (made_unchanged 512 (grown_image old) planned.seen (target_of 0 planned.seen) definitions.list (source_files number)
              (seed_of number) planned.plan (held (history_of past made.calls)) X86_64
              (is_planned number definitions.list (grown_image old) planned formed each pair high
              (told number disk later out after status past can definitions are formed len room looks.short grown behind drained
              seen made asked left planned (Ok tt) plans fits carries now) fits.table)
              fits.notes steady (final_end number disk made silent silent 0 past now so_far)).1

          again : (again : Planned)
              × (planned_of (check_request (seed_of number) X86_64 512) definitions.list (held (history_of past made.calls)) files ≡ Ok again)
              × (difference (held (history_of past made.calls)) X86_64 again.seen again.plan ≡ None)
          again = planned_again (seed_of number) definitions.list (held (history_of past made.calls)) files planned.seen planned.plan same_image

          left_told : left.told ≡ Some files
          left_told = carries.told
              ∙ told_same (make_request (seed_of number)) definitions.list grown seen (made_store files) asked planned plans

          -- there is a plan for the image that was made
          none_refused : (refusal : Refusal)
              → planned_of (check_request (seed_of number) X86_64 512) definitions.list (held (history_of past made.calls)) files ≡ Err refusal → ⊥
          none_refused refusal is =
              let clash : ◌≡◌ {A = Result Planned Refusal} (Ok again.0) (Err refusal) = sym again.1 ∙ is in absurd (cc)

          module _ (mid : Device) (second : Planned)
              (plans_again : PlansImage (check_request (seed_of number) X86_64 512) definitions.list made mid left drained (Ok second))
              (can_mid : CanHave past mid) where
            second_told : planned_of (check_request (seed_of number) X86_64 512) definitions.list (held (history_of past made.calls)) files
                ≡ Ok second
            second_told =
                subst (λ (o : Option (List Stored)). IfSome o (λ files. planned_of (check_request (seed_of number) X86_64 512)
                definitions.list (held (history_of past made.calls)) files ≡ Ok second)) left_told
                (is_told (check_request (seed_of number) X86_64 512) definitions.list made mid left drained second plans_again past can_mid)

            none_differs : difference (held (history_of past made.calls)) X86_64 second.seen second.plan ≡ None
            none_differs =
                subst (λ (p : Planned). difference (held (history_of past made.calls)) X86_64 p.seen p.plan ≡ None)
                (same_planned again.0 second (sym again.1 ∙ second_told)) again.2

            settles : (answer : Result (Option Difference) Refusal) → Finds X86_64 second mid later answer
                → Settles disk_refusal (Ok None) answer
            settles answer finds =
                let there : Settles disk_refusal (Ok (difference (held (history_of past made.calls)) X86_64 second.seen second.plan)) answer =
                subst (λ (l : List Made). Settles disk_refusal
                (Ok (difference (held (history_of past l)) X86_64 second.seen second.plan)) answer) plans_again.1.only_read.calls
                (finds.settled past can) in
                subst (λ (found : Option Difference). Settles disk_refusal (Ok found) answer) none_differs there

            found : (answer : Result (Option Difference) Refusal) → Finds X86_64 second mid later answer
                → (front : List ℕ) → TellsFound front out after status answer → End
            found (Ok None) finds front (inl (e, printed)) = done e
            found (Ok None) finds front (inr (e, part)) = inr (inr (inr e))
            found (Ok (Some d)) finds front tells_it =
                let clash : ◌≡◌ {A = Result (Option Difference) Refusal} (Ok None) (Ok (Some d)) =
                settled_ok disk_refusal (Ok None) (Some d) (settles (Ok (Some d)) finds) in absurd (cc)
            found (Err refusal) finds front refuses = by_either refusal refuses finds.refusal

          checked : (mid : Device) (answer : Result Planned Refusal)
              → PlansImage (check_request (seed_of number) X86_64 512) definitions.list made mid left drained answer
              → MakesComparedBehind (front_text number planned) mid later out after status answer → End
          checked mid (Ok second) plans_again (answer, finds, tells_it) =
              found mid second plans_again (can_before finds.only_read.earlier can) answer finds (front_text number planned) tells_it
          checked mid (Err refusal) plans_again (at, refuses) =
              elim (untold (check_request (seed_of number) X86_64 512) definitions.list made mid left drained refusal past files
              (subst (CanHave past) at can) left_told plans_again) [
                | inl is ↦ absurd (none_refused refusal is)
                | inr (inl e) ↦ by_disk refusal refuses e
                | inr (inr (inl e)) ↦ by_source refusal refuses e
                | inr (inr (inr e)) ↦ by_memory refusal refuses e
              ]

        carried : (answer : Outcome) → CarriesOut definitions planned seen made asked left answer
            → MakesCheckedBehind number (seed_of number) definitions planned made later left drained out after status answer → End
        carried (Ok tt) carries (mid, answer, plans_again, compared) =
            checked carries
            (can_before (since_made number (seed_of number) definitions later out after status planned made left drained (Ok tt)
            (mid, answer, plans_again, compared)) can) mid answer plans_again compared
        carried (Err refusal) carries (at, none, refuses) =
            elim carries.refusal [
              | inl e ↦ by_disk refusal refuses e
              | inr (inl e) ↦ by_source refusal refuses e
              | inr (inr changed) ↦
                  absurd (unchanged number disk later out after status past can definitions grown drained seen made asked left planned
                  refusal plans carries (subst (CanHave past) at can) (ap (λ (r : Refusal). r.status) changed.2))
            ]

      by_plan : (seen : Device) (asked : Store (List Stored)) (answer : Result Planned Refusal)
          → PlansImage (make_request (seed_of number)) definitions.list grown seen (made_store (source_files number)) asked answer
          → IfOk answer PlanFits
          → MakesPlannedBehind number (seed_of number) definitions seen later asked drained out after status answer → End
      by_plan seen asked (Err refusal) plans fits (at, none, refuses) =
          elim (untold (make_request (seed_of number)) definitions.list grown seen (made_store files) asked refusal past files
          (subst (CanHave past) at can) refl plans) [
            | inl is ↦
                refused_so refusal refuses
                (none_planned (make_request (seed_of number)) definitions.list grown seen (made_store files) asked refusal plans) is
            | inr (inl e) ↦ by_disk refusal refuses e
            | inr (inr (inl e)) ↦ by_source refusal refuses e
            | inr (inr (inr e)) ↦ by_memory refusal refuses e
          ]
      by_plan seen asked (Ok planned) plans fits (inl (at, none, refuses)) = by_memory memory_refusal refuses refl
      by_plan seen asked (Ok planned) plans fits (inr (made, left, answer, carries, stays, checked)) =
          carried seen asked planned plans fits made left answer carries checked

    by_growth : (opened looked grown : Device) (len : ℕ) (drained : Store (List Stored)) (answer : Result (Unit {0}) Failed)
        → Opens disk opened (Ok tt) → Looks room_in opened looked (Ok len) → Grows len looked grown answer
        → MakesGrownBehind number (seed_of number) definitions grown later (made_store (source_files number)) drained out after status answer
        → End
    by_growth opened looked grown len drained (Err e) opens looks grows (at, none, refuses) = by_disk disk_refusal refuses refl
    by_growth opened looked grown len drained (Ok tt) opens looks grows (seen, asked, answer, plans, fits, behind) =
        by_plan opened looked grown len drained opens looks grows
        (can_before (since_grown number (seed_of number) definitions later out after status grown (made_store files) drained (Ok tt)
        (seen, asked, answer, plans, fits, behind)) can) seen asked answer plans fits behind

    by_look : (opened looked : Device) (drained : Store (List Stored)) (answer : Result ℕ Refusal) → Opens disk opened (Ok tt)
        → Looks room_in opened looked answer
        → MakesLookedBehind number (seed_of number) definitions looked later (made_store (source_files number)) drained out after status answer
        → End
    by_look opened looked drained (Ok len) opens looks (grown, answer, grows, behind) =
        by_growth opened looked grown len drained answer opens looks grows behind
    by_look opened looked drained (Err refusal) opens looks (at, none, refuses) = by_settled settles where
      settles : Settles disk_refusal (room_in old) (Err refusal)
      settles =
          subst (λ (i : List ℕ). Settles disk_refusal (room_in i) (Err refusal))
          (ap (λ (l : List Made). held (history_of past l)) opens.ran.ok ∙ same_shown past disk.calls)
          (looks.settled past (subst (CanHave past) at can))

      by_settled : Settles disk_refusal (room_in old) (Err refusal) → End
      by_settled (inl is) = inl (
        subst (AnswersRoom number status old) is (inl refuses.answers),
        no_difference refusal refuses (by_room number disk later out after status past can refusal looks.refusal),
      )
      by_settled (inr (inl e)) = by_disk refusal refuses (same_err {T = ℕ} refusal disk_refusal e)
      by_settled (inr (inr e)) = by_memory refusal refuses (same_err {T = ℕ} refusal memory_refusal e)

    by_opening : (opened : Device) (drained : Store (List Stored)) (answer : Outcome) → Opens disk opened answer
        → MakesOpenedBehind number (seed_of number) definitions opened later (made_store (source_files number)) drained out after status answer
        → End
    by_opening opened drained (Err refusal) opens (at, none, refuses) = by_disk refusal refuses opens.refusal
    by_opening opened drained (Ok tt) opens (looked, answer, looks, behind) = by_look opened looked drained answer opens looks behind

  by_reading : (read : Store Tree) (answer : Result Definitions Refusal)
      → ReadsDefinitions X86_64 folders_of (made_store (tree_for number)) read answer
      → MakesReadBehind number (make_input number) disk later out after status answer → End
  by_reading read (Ok definitions) reads (drained, astray, (opened, answer, opens, behind)) =
      by_opening definitions (settled_ok folder_refusal (definitions_in X86_64 (tree_for number) folders_of) definitions reads.settled)
      reads.well_formed opened drained answer opens behind
  by_reading read (Err refusal) reads (at, refuses) = by_settled reads.settled where
    by_settled : Settles folder_refusal (definitions_in X86_64 (tree_for number) folders_of) (Err refusal) → End
    by_settled (inl is) =
        let clash : ◌≡◌ {A = Result Definitions Refusal} (Err refusal) (Ok (has_definitions number high).definitions) =
        is ∙ (has_definitions number high).are in absurd (cc)
    by_settled (inr (inl e)) = inr (inr (inl (by_status refusal folder_refusal refuses (same_err {T = Definitions} refusal folder_refusal e))))
    by_settled (inr (inr e)) = by_memory refusal refuses (same_err {T = Definitions} refusal memory_refusal e)

  ended : Makes number disk later out after status → End
  ended (inl (at, refuses)) = by_memory memory_refusal refuses refl
  ended (inr (read, answer, reads, astray, behind)) = by_reading read answer reads behind

-- where no call failed
pub answers_so : (number : ℕ) (disk later : Device) (out after : Output) (status : ℕ) → number ≤ 100 → Makes number disk later out after status
    → (past : Past) → CanHave past later → ¬ Rose disk.faults later.faults → ¬ Rose out.faults after.faults
    → AnswersImage number status (held (history_of past disk.calls))
answers_so number disk later out after status high makes past can disk_kept sink_kept =
    let ends = ends_so disk later out after status number makes in
    elim (ended number disk later out after status past can high makes) [
      | inl answers ↦ answers.0
      | inr (inl e) ↦ absurd (disk_kept (ends.causes.disk_failed e))
      | inr (inr (inl e)) ↦ absurd (never_files number disk later out after status high makes e)
      | inr (inr (inr e)) ↦ absurd (sink_kept (ends.causes.sink_failed e))
    ]

-- why it ends so
pub reason_so : (number : ℕ) (disk later : Device) (out after : Output) (status : ℕ) → number ≤ 100 → Makes number disk later out after status
    → (past : Past) → CanHave past later → HasReason disk later out after status
reason_so number disk later out after status high makes past can =
    has_reason number disk later out after status past can high makes
    (elim (ended number disk later out after status past can high makes) [
      | inl answers ↦ answers.1
      | inr (inl e) ↦ λ one. omega (arith, e, one)
      | inr (inr (inl e)) ↦ λ one. omega (arith, e, one)
      | inr (inr (inr e)) ↦ λ one. omega (arith, e, one)
    ])
