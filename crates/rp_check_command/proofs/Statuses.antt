-- What `check` promises, by its exit status.
use Rattle.std.proofs.Common.{ℕ, ◌≡◌, ◌⊎◌, ◌≤◌, List, Option, Some, None, false, Result, Ok, Err, IfSome, refl, sym, ◌∙◌, ap, subst, inl, inr, arith}
use Rattle.rp_base.specs.declared.guid.Guid.{Guid}
use Rattle.rp_check_command.proofs.Ended.{by_difference, by_disk, by_memory, by_plan, by_same, nothing_printed, read_twice}
use Rattle.rp_check_command.proofs.Planned.{IsFrom, IsNone, kept_ok, none_planned, planned_from, planned_told, same_err}
use Rattle.rp_check_command.proofs.Sighted.{settled_ok, told_before}
use Rattle.rp_check_command.specs.Checks.{Checks, ChecksBehind, ChecksPlanned, Finds, Tells, check_request}
use Rattle.rp_check_command.specs.Statuses.{CheckByStatus, told_difference}
use Rattle.rp_defs.specs.declared.definition.Definitions.{Definitions}
use Rattle.rp_difference.specs.Difference.{difference}
use Rattle.rp_difference.specs.declared.difference.Difference.{Difference}
use Rattle.rp_disk.specs.History.{History, held}
use Rattle.rp_disk.specs.Made.{history_told}
use Rattle.rp_disk.proofs.Noting.{known_told, possible_before}
use Rattle.rp_io.specs.Files.{Tree}
use Rattle.rp_io.specs.declared.stored.Stored.{Stored}
use Rattle.rp_outcome.specs.Device.{Device, IsOnlyRead}
use Rattle.rp_outcome.specs.Output.{Output, Prints, Refuses}
use Rattle.rp_outcome.specs.Refusals.{Refusal, disk_refusal, folder_refusal, memory_refusal, source_refusal}
use Rattle.rp_outcome.specs.Store.{Store}
use Rattle.rp_plan_command.proofs.Statuses.{by_status as plan_by_status}
use Rattle.rp_plan_command.specs.Statuses.{ByStatus, IsRefused, WhereTold}
use Rattle.rp_planned.specs.Planning.{PlansImage, planned_of}
use Rattle.rp_planned.specs.declared.planned.Planned.{Planned}
use Rattle.rp_reading.specs.Reading.{IsReadingRefusal, ReadsDefinitions, definitions_in}
use Rattle.rp_reading.specs.Stages.{HasStageCause, Settles, and_then}
use Rattle.rp_types.specs.declared.arch.Arch.{Arch}

-- what is refused has none of these statuses
is_none : {P : Type 0} (n m : ℕ) → IsNone n → n ≡ m → (m ≡ 0) ⊎ (m ≡ 1) ⊎ (m ≡ 9) → P
is_none n m is e other = absurd (apart is other) where
  apart : IsNone n → (m ≡ 0) ⊎ (m ≡ 1) ⊎ (m ≡ 9) → ⊥
  apart (inl (inl a)) (inl b) = omega (arith, a, b, e)
  apart (inl (inl a)) (inr (inl b)) = omega (arith, a, b, e)
  apart (inl (inl a)) (inr (inr b)) = omega (arith, a, b, e)
  apart (inl (inr (inl a))) (inl b) = omega (arith, a, b, e)
  apart (inl (inr (inl a))) (inr (inl b)) = omega (arith, a, b, e)
  apart (inl (inr (inl a))) (inr (inr b)) = omega (arith, a, b, e)
  apart (inl (inr (inr a))) (inl b) = omega (arith, a, b, e)
  apart (inl (inr (inr a))) (inr (inl b)) = omega (arith, a, b, e)
  apart (inl (inr (inr a))) (inr (inr b)) = omega (arith, a, b, e)
  apart (inr (inl a)) (inl b) = omega (arith, a, b, e)
  apart (inr (inl a)) (inr (inl b)) = omega (arith, a, b, e)
  apart (inr (inl a)) (inr (inr b)) = omega (arith, a, b, e)
  apart (inr (inr (inl a))) (inl b) = omega (arith, a, b, e)
  apart (inr (inr (inl a))) (inr (inl b)) = omega (arith, a, b, e)
  apart (inr (inr (inl a))) (inr (inr b)) = omega (arith, a, b, e)
  apart (inr (inr (inr a))) (inl b) = omega (arith, a, b, e)
  apart (inr (inr (inr a))) (inr (inl b)) = omega (arith, a, b, e)
  apart (inr (inr (inr a))) (inr (inr b)) = omega (arith, a, b, e)

-- neither have refusals of definitions
none_read : (refusal : Refusal) → IsReadingRefusal refusal → IsNone refusal.status
none_read refusal (inl e) = inl (inl e)
none_read refusal (inr (inl e)) = inr (inr (inl (ap (λ (r : Refusal). r.status) e)))
none_read refusal (inr (inr e)) = inr (inr (inr (ap (λ (r : Refusal). r.status) e)))

module _ (seed : Guid) (arch : Arch) (sector : ℕ) (dirs : List (List ℕ)) (folders read : Store Tree) (disk later : Device)
    (sources drained : Store (List Stored)) (out after : Output) (status : ℕ) where
  abbrev Known : Type 0
  Known = CheckByStatus seed arch sector dirs folders read disk later sources drained out after status

  -- nothing is planned
  refused_so : (refusal : Refusal) → IsNone refusal.status → Refuses out after refusal status
      → ByStatus (check_request seed arch sector) false dirs folders read disk later sources drained out after status → Known
  refused_so refusal is refuses known =
      let e : status ≡ refusal.status = refuses.answers in
      by_plan seed arch sector dirs folders read disk later sources drained out after status known
      (λ f. is_none refusal.status 0 is (sym e ∙ f) (inl refl))
      (λ f. is_none refusal.status 1 is (sym e ∙ f) (inr (inl refl)))
      (λ f. is_none refusal.status 9 is (sym e ∙ f) (inr (inr refl)))
      (λ f. nothing_printed out after refusal status refuses f)

  module _ (definitions : Definitions) (reads : ReadsDefinitions arch dirs folders read (Ok definitions)) (seen : Device) (planned : Planned)
      (from : IsFrom (check_request seed arch sector) definitions.list disk seen sources drained planned) where
    -- what is told, by what is told of definitions, image and sources
    all_told : (found : Option Difference) (o : Option Tree) (p : Option History) (q : Option (List Stored))
        → IfSome o (λ tree. Settles folder_refusal (definitions_in arch tree dirs) (Ok definitions))
        → IfSome p (λ h. IfSome q (λ files. planned_of (check_request seed arch sector) definitions.list (held h) files ≡ Ok planned))
        → IfSome p (λ h. Settles disk_refusal (Ok (difference (held h) arch planned.seen planned.plan)) (Ok found))
        → IfSome o (λ tree. IfSome p (λ h. IfSome q (λ files. told_difference seed arch sector dirs tree (held h) files ≡ Ok found)))
    all_told found None p q listed told compared = tt
    all_told found (Some tree) None q listed told compared = tt
    all_told found (Some tree) (Some h) None listed told compared = tt
    all_told found (Some tree) (Some h) (Some files) listed told compared =
        ap (λ (d : Result Definitions Refusal). and_then {T = Definitions × Planned} (and_then d (λ definitions.
        and_then (planned_of (check_request seed arch sector) definitions.list (held h) files) (λ planned. Ok (definitions, planned))))
        (λ told. Ok (difference (held h) arch told.1.seen told.1.plan)))
        (settled_ok folder_refusal (definitions_in arch tree dirs) definitions listed)
        ∙ ap (λ (p : Result Planned Refusal). and_then {T = Definitions × Planned} (and_then p (λ planned. Ok (definitions, planned)))
        (λ told. Ok (difference (held h) arch told.1.seen told.1.plan))) told
        ∙ settled_ok disk_refusal (Ok (difference (held h) arch planned.seen planned.plan)) found compared

    says : (found : Option Difference) → Finds arch planned seen later (Ok found)
        → WhereTold folders disk later sources (λ tree image files. told_difference seed arch sector dirs tree image files ≡ Ok found)
    says found finds = λ o can.
        let P : History → Type 0 = λ h. Settles disk_refusal (Ok (difference (held h) arch planned.seen planned.plan)) (Ok found) in
        all_told found folders.told (history_told o disk.calls) sources.told reads.settled
        (known_told o disk seen _ (planned_told (check_request seed arch sector) definitions.list disk seen sources drained planned from)
        (possible_before o finds.only_read.earlier can))
        (told_before P o disk seen from.reads.only_read (known_told o seen later P finds.settled can))

    -- the disk's count as it was before, where it is as it was in between
    kept_twice : later.faults ≡ seen.faults → later.faults ≡ disk.faults
    kept_twice same = same ∙ kept_ok disk_refusal disk.faults seen.faults planned.seen from.reads.cause

    by_refusal : (refusal : Refusal) → Finds arch planned seen later (Err refusal) → (refusal ≡ disk_refusal) ⊎ (refusal ≡ memory_refusal)
        → Refuses out after refusal status → Known
    by_refusal refusal finds (inl failed) refuses =
        by_disk seed arch sector dirs folders read disk later sources drained out after status
        (read_twice disk seen later from.reads.only_read finds.only_read)
        (rw (sym (kept_ok disk_refusal disk.faults seen.faults planned.seen from.reads.cause)) (finds.cause.failed (ap Err failed)))
        (subst (λ (r : Refusal). Refuses out after r status) failed refuses)
    by_refusal refusal finds (inr want) refuses =
        by_memory seed arch sector dirs folders read disk later sources drained out after status
        (read_twice disk seen later from.reads.only_read finds.only_read)
        (kept_twice (go finds.cause.kept))
        (subst (λ (r : Refusal). Refuses out after r status) want refuses) where
          go : (◌≡◌ {A = Result (Option Difference) Refusal} (Err refusal) (Err disk_refusal)) ⊎ (later.faults ≡ seen.faults)
              → later.faults ≡ seen.faults
          go (inr same) = same
          go (inl e) =
              let a : refusal.status ≡ 7 = ap (λ (r : Refusal). r.status) (same_err {T = Option Difference} refusal disk_refusal e) in
              let b : refusal.status ≡ 10 = ap (λ (r : Refusal). r.status) want in
              absurd (omega (arith, a, b))

    by_answer : (answer : Result (Option Difference) Refusal) → Finds arch planned seen later answer → Tells out after status answer → Known
    by_answer (Err refusal) finds refuses = by_refusal refusal finds finds.refusal refuses
    by_answer (Ok None) finds finishes =
        by_same seed arch sector dirs folders read disk later sources drained out after status
        (read_twice disk seen later from.reads.only_read finds.only_read)
        (kept_twice (kept_ok {T = Option Difference} disk_refusal seen.faults later.faults None finds.cause))
        (kept_ok folder_refusal folders.faults read.faults definitions reads.cause)
        (kept_ok source_refusal sources.faults drained.faults from.known from.asks.cause)
        (says None finds) finishes
    by_answer (Ok (Some found)) finds differs =
        by_difference seed arch sector dirs folders read disk later sources drained out after status
        (read_twice disk seen later from.reads.only_read finds.only_read)
        (kept_twice (kept_ok {T = Option Difference} disk_refusal seen.faults later.faults (Some found) finds.cause))
        (kept_ok folder_refusal folders.faults read.faults definitions reads.cause)
        (kept_ok source_refusal sources.faults drained.faults from.known from.asks.cause)
        found (says (Some found) finds) differs

  by_planned : (definitions : Definitions) → ReadsDefinitions arch dirs folders read (Ok definitions) → (seen : Device)
      (planned : Result Planned Refusal) → PlansImage (check_request seed arch sector) definitions.list disk seen sources drained planned
      → ChecksPlanned arch seen later out after status planned → Known
  by_planned definitions reads seen (Err refusal) plans (same, refuses) =
      refused_so refusal (none_planned (check_request seed arch sector) definitions.list disk seen sources drained refusal plans) refuses
      (subst (λ (d : Device). ByStatus (check_request seed arch sector) false dirs folders read disk d sources drained out after status) (sym same)
      (plan_by_status (check_request seed arch sector) false dirs folders read disk seen sources drained out after status
      (Ok definitions, reads, (Err refusal, plans, refuses))))
  by_planned definitions reads seen (Ok planned) plans (answer, finds, tells) =
      by_answer definitions reads seen planned
      (planned_from (check_request seed arch sector) definitions.list disk seen sources drained planned plans) answer finds tells

  by_definitions : (definitions : Result Definitions Refusal) → ReadsDefinitions arch dirs folders read definitions
      → ChecksBehind (check_request seed arch sector) definitions disk later sources drained out after status → Known
  by_definitions (Err refusal) reads (same, unasked, refuses) =
      refused_so refusal (none_read refusal reads.refusal) refuses
      (plan_by_status (check_request seed arch sector) false dirs folders read disk later sources drained out after status
      (Err refusal, reads, (same, unasked, refuses)))
  by_definitions (Ok definitions) reads (seen, planned, plans, checks) = by_planned definitions reads seen planned plans checks

  pub by_status : Checks seed arch sector dirs folders read disk later sources drained out after status → Known
  by_status (definitions, reads, behind) = by_definitions definitions reads behind
