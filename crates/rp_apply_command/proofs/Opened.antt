-- The sync with which a run opens.
use Rattle.std.proofs.Common.{◌≡◌, List, [], ◌∷◌, ◌++◌, Result, Ok, Err, refl, sym, ap, subst, inl, inr, append-nil}
use Rattle.rp_base.specs.Faults.{HasCause}
use Rattle.rp_base.specs.declared.faults.Failed.{Failed}
use Rattle.rp_disk.specs.Device.{Earlier}
use Rattle.rp_disk.specs.Made.{Makes}
use Rattle.rp_disk.specs.declared.call.Call.TheVariants.{Sync}
use Rattle.rp_disk.proofs.Runs.{broke_off_at}
use Rattle.rp_outcome.specs.Device.{Device}
use Rattle.rp_outcome.specs.Refusals.{Refusal, disk_refusal}
use Rattle.rp_apply_command.specs.Applies.{Opens, Outcome}

-- the answer with the refusal of its fault
abbrev pub opened_as : Result (Unit {0}) Failed → Outcome
opened_as (Ok done) = Ok tt
opened_as (Err failed) = Err disk_refusal

not_done : (refusal : Refusal) → ◌≡◌ {A = Outcome} (Ok tt) (Err refusal) → ⊥
not_done refusal e = absurd (cc)

opens_as : (disk now : Device) (result : Result (Unit {0}) Failed) → Earlier disk now → Makes disk.calls Sync now.calls result
    → now.answers ≡ disk.answers → HasCause disk.faults now.faults result → Opens disk now (opened_as result)
opens_as disk now (Ok done) earlier makes answers cause = record {
  earlier = earlier;
  ran = record { ok = makes.ok; err = tt };
  answers = answers;
  refusal = tt;
  cause = record { failed = λ e. absurd (not_done disk_refusal e); kept = inr cause.kept };
}
opens_as disk now (Err failed) earlier makes answers cause = record {
  earlier = earlier;
  ran = record { ok = tt; err = broke_off_at disk.calls disk.calls now.calls [] Sync [] (sym (append-nil disk.calls)) makes.err };
  answers = answers;
  refusal = refl;
  cause = record { failed = λ e. cause.failed; kept = inl refl };
}

-- a disk was synced, or the sync failed
pub opens : (disk now : Device) (result : Result (Unit {0}) Failed) (answer : Outcome) → opened_as result ≡ answer → Earlier disk now
    → Makes disk.calls Sync now.calls result → now.answers ≡ disk.answers
    → HasCause disk.faults now.faults result → Opens disk now answer
opens disk now result answer is earlier makes answers cause = subst (Opens disk now) is (opens_as disk now result earlier makes answers cause)
