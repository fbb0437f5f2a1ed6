-- The image was compared with what is planned for it, by how that ended.
use Rattle.std.proofs.Common.{ℕ, ◌≡◌, ◌⊎◌, ◌*◌, ◌≤◌, List, length, Option, Result, Ok, Err, refl, sym, ap, subst, inl, inr, arith}
use Rattle.rp_base.specs.Faults.{Rose}
use Rattle.rp_base.specs.Geometry.{IsSector}
use Rattle.rp_base.specs.declared.seen.Seen.{Seen}
use Rattle.rp_check_command.proofs.Planned.{planned_from, same_err}
use Rattle.rp_check_command.proofs.Sighted.{image_len, still_known}
use Rattle.rp_check_command.specs.Checks.{ChecksPlanned, Tells}
use Rattle.rp_defs.specs.declared.definition.Definition.{Definition}
use Rattle.rp_difference.specs.Difference.{BeginsWith, difference, table_difference}
use Rattle.rp_difference.specs.declared.difference.Difference.{Difference}
use Rattle.rp_disk.specs.Device.{Earlier, StaysInsideWhere}
use Rattle.rp_disk.specs.History.{held}
use Rattle.rp_disk.proofs.Noting.{can_before, earlier_same}
use Rattle.rp_gpt.specs.Accepted.{IsSeen}
use Rattle.rp_io.specs.declared.stored.Stored.{Stored}
use Rattle.rp_outcome.specs.Device.{Device, IsOnlyRead, Known}
use Rattle.rp_outcome.specs.Output.{Output, Refuses}
use Rattle.rp_outcome.specs.Refusals.{Refusal, disk_refusal, memory_refusal}
use Rattle.rp_outcome.specs.Store.{Store}
use Rattle.rp_planned.specs.Planning.{PlansImage}
use Rattle.rp_planned.specs.declared.planned.Planned.{Planned}
use Rattle.rp_planned.specs.declared.request.Request.{Request}
use Rattle.rp_reading.specs.Stages.{Settles}
use Rattle.rp_types.specs.declared.arch.Arch.{Arch}

-- what was seen of the image for which something is planned
pub seen_of_plan : (request : Request) (list : List Definition) (disk later : Device) (sources drained : Store (List Stored)) (planned : Planned)
    → PlansImage request list disk later sources drained (Ok planned) → IsSeen planned.seen.shown.sector planned.seen
seen_of_plan request list disk later sources drained planned plans =
    let from = planned_from request list disk later sources drained planned plans in
    let is : IsSeen request.sector planned.seen = from.reads.seen in
    subst (λ (sector : ℕ). IsSeen sector planned.seen) (sym is.of_sector) is

-- and its length, as it still is
pub len_of_plan : (request : Request) (list : List Definition) (disk later : Device) (sources drained : Store (List Stored)) (planned : Planned)
    → IsSector request.sector → PlansImage request list disk later sources drained (Ok planned)
    → Known later later (λ h. length (held h) ≡ 512 * planned.seen.sectors)
len_of_plan request list disk later sources drained planned is plans =
    let from = planned_from request list disk later sources drained planned plans in
    still_known (λ h. length (held h) ≡ 512 * planned.seen.sectors) disk later from.reads.only_read
    (image_len request.sector request.empty disk later planned.seen is from.reads)

module _ (arch : Arch) (planned : Planned) (disk : Device) (out after : Output) (status : ℕ) where
  -- there was no memory for the room
  pub without_memory : (refusal : Refusal) → refusal ≡ memory_refusal → Refuses out after refusal status
      → ChecksPlanned arch disk disk out after status (Ok planned)
  without_memory refusal is refuses = (
    Err memory_refusal,
    record {
      only_read = record { calls = refl; earlier = earlier_same disk; inside = λ past can. refl };
      settled = λ past can. inr (inr refl);
      begins = tt;
      refusal = inr refl;
      cause = record { failed = λ e. absurd (apart e); kept = inr refl };
    },
    subst (λ (r : Refusal). Refuses out after r status) is refuses,
  ) where
    apart : ◌≡◌ {A = Result (Option Difference) Refusal} (Err memory_refusal) (Err disk_refusal) → ⊥
    apart e = let h : ◌≡◌ {A = ℕ} 10 7 = ap (λ (r : Refusal). r.status) (same_err {T = Option Difference} memory_refusal disk_refusal e) in omega arith

  module _ (later : Device) (earlier : Earlier disk later) (calls : later.calls ≡ disk.calls)
      (inside : StaysInsideWhere disk later (λ h. 512 * planned.seen.sectors ≤ length (held h)))
      (len : Known disk disk (λ h. length (held h) ≡ 512 * planned.seen.sectors)) where
    only_read : IsOnlyRead disk later
    only_read = record {
      calls = calls;
      earlier = earlier;
      inside = λ past can. let is = len past (can_before earlier can) in inside past (omega (arith, is));
    }

    -- the disk failed
    pub without_disk : (refusal : Refusal) → refusal ≡ disk_refusal → Rose disk.faults later.faults → Refuses out after refusal status
        → ChecksPlanned arch disk later out after status (Ok planned)
    without_disk refusal is rose refuses = (
      Err disk_refusal,
      record {
        only_read = only_read;
        settled = λ past can. inr (inl refl);
        begins = tt;
        refusal = inl refl;
        cause = record { failed = λ e. rose; kept = inl refl };
      },
      subst (λ (r : Refusal). Refuses out after r status) is refuses,
    )

    -- what differs is known
    pub with_found : (found : Option Difference) → Known disk later (λ h. found ≡ difference (held h) arch planned.seen planned.plan)
        → BeginsWith (table_difference planned.seen planned.plan) found
        → later.faults ≡ disk.faults → Tells out after status (Ok found) → ChecksPlanned arch disk later out after status (Ok planned)
    with_found found is begins kept tells = (
      Ok found,
      record {
        only_read = only_read;
        settled = λ past can. inl (ap Ok (is past can));
        begins = begins;
        refusal = tt;
        cause = record { failed = λ e. absurd (no_err e); kept = inr kept };
      },
      tells,
    ) where
      no_err : ◌≡◌ {A = Result (Option Difference) Refusal} (Ok found) (Err disk_refusal) → ⊥
      no_err e = absurd (cc)
