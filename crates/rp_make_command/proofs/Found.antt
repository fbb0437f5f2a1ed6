-- What the image differs in was looked for, by how that ended.
use Rattle.std.proofs.Common.{ℕ, ◌≡◌, ◌*◌, ◌≤◌, length, Option, Result, Ok, Err, refl, ap, inl, inr, arith}
use Rattle.rp_base.specs.Faults.{Rose}
use Rattle.rp_check_command.specs.Checks.{Finds}
use Rattle.rp_difference.specs.Difference.{BeginsWith, difference, table_difference}
use Rattle.rp_difference.specs.declared.difference.Difference.{Difference}
use Rattle.rp_disk.specs.Device.{Earlier, StaysInsideWhere}
use Rattle.rp_disk.specs.History.{held}
use Rattle.rp_disk.proofs.Noting.{can_before, earlier_same}
use Rattle.rp_outcome.specs.Device.{Device, IsOnlyRead, Known}
use Rattle.rp_outcome.specs.Refusals.{Refusal, disk_refusal, memory_refusal}
use Rattle.rp_planned.specs.declared.planned.Planned.{Planned}
use Rattle.rp_types.specs.declared.arch.Arch.{Arch}

-- there was no memory for the room
pub without_memory : (arch : Arch) (planned : Planned) (disk : Device) → Finds arch planned disk disk (Err memory_refusal)
without_memory arch planned disk = record {
  only_read = record { calls = refl; earlier = earlier_same disk; inside = λ past can. refl };
  settled = λ past can. inr (inr refl);
  begins = tt;
  refusal = inr refl;
  cause = record { failed = λ e. absurd (apart e); kept = inr refl };
} where
  apart : ◌≡◌ {A = Result (Option Difference) Refusal} (Err memory_refusal) (Err disk_refusal) → ⊥
  apart e = let h : ◌≡◌ {A = ℕ} 10 7 = ap status_of e in omega arith where
    status_of : Result (Option Difference) Refusal → ℕ
    status_of (Ok found) = 0
    status_of (Err refusal) = refusal.status

module _ (arch : Arch) (planned : Planned) (disk later : Device) (earlier : Earlier disk later) (calls : later.calls ≡ disk.calls)
    (inside : StaysInsideWhere disk later (λ h. 512 * planned.seen.sectors ≤ length (held h)))
    (len : Known disk disk (λ h. length (held h) ≡ 512 * planned.seen.sectors)) where
  only_read : IsOnlyRead disk later
  only_read = record {
    calls = calls;
    earlier = earlier;
    inside = λ past can. let is = len past (can_before earlier can) in inside past (omega (arith, is));
  }

  -- the disk failed
  pub without_disk : Rose disk.faults later.faults → Finds arch planned disk later (Err disk_refusal)
  without_disk rose = record {
    only_read = only_read;
    settled = λ past can. inr (inl refl);
    begins = tt;
    refusal = inl refl;
    cause = record { failed = λ e. rose; kept = inl refl };
  }

  -- what differs is known
  pub with_found : (found : Option Difference) → Known disk later (λ h. found ≡ difference (held h) arch planned.seen planned.plan)
      → BeginsWith (table_difference planned.seen planned.plan) found → later.faults ≡ disk.faults → Finds arch planned disk later (Ok found)
  with_found found is begins kept = record {
    only_read = only_read;
    settled = λ past can. inl (ap Ok (is past can));
    begins = begins;
    refusal = tt;
    cause = record { failed = λ e. absurd (no_err e); kept = inr kept };
  } where
    no_err : ◌≡◌ {A = Result (Option Difference) Refusal} (Ok found) (Err disk_refusal) → ⊥
    no_err e = absurd (cc)
