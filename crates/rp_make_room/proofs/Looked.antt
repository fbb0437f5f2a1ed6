-- An image was looked at, or grown, by what was asked of the disk.
use Rattle.std.proofs.Common.{ℕ, ◌≡◌, ◌∙◌, ◌<◌, ◌≤◌, ◌++◌, true, false, List, [], ◌∷◌, Result, Ok, Err, length, refl, sym, ap, subst, inl, inr, arith, append-nil}
use Rattle.std.specs.Prelude.{nat_lt}
use Rattle.std.proofs.lemmas.Bool.Decides.{nat_tests}
use Rattle.rp_base.specs.Faults.{HasCause}
use Rattle.rp_base.specs.declared.faults.Failed.{Failed}
use Rattle.rp_disk.specs.Device.{Earlier, Known, StaysInside}
use Rattle.rp_disk.specs.History.{held}
use Rattle.rp_disk.specs.Made.{Done, Makes, history_of}
use Rattle.rp_disk.specs.Runs.{Runs}
use Rattle.rp_disk.specs.declared.call.Call.TheVariants.{SetLen, Sync}
use Rattle.rp_disk.proofs.Noting.{can_before, earlier_same, earlier_then}
use Rattle.rp_disk.proofs.Runs.{broke_off_at, one_more}
use Rattle.rp_outcome.specs.Device.{Device, IsOnlyRead}
use Rattle.rp_outcome.specs.Refusals.{Refusal, disk_refusal}
use Rattle.rp_reading.specs.Stages.{HasStageCause, Settles}
use Rattle.rp_make_room.specs.Room.{Grows, Looks, is_looked_at, length_made, length_refusal, room_for, room_in}

same_err : (a b : Refusal) → ◌≡◌ {A = Result ℕ Refusal} (Err a) (Err b) → a ≡ b
same_err a b e = cc

-- an image's own refusal is none of the disk's
own_apart : (refusal : Refusal) → refusal.status ≡ 4 → ◌≡◌ {A = Result ℕ Refusal} (Err refusal) (Err disk_refusal) → ⊥
own_apart refusal four e = let h = ap (λ (r : Refusal). r.status) (same_err refusal disk_refusal e) in omega (arith, h, four)

ok_apart : (len : ℕ) → ◌≡◌ {A = Result ℕ Refusal} (Ok len) (Err disk_refusal) → ⊥
ok_apart len e = absurd (cc)

-- nothing was asked
still : (disk : Device) → IsOnlyRead disk disk
still disk = record { calls = refl; earlier = earlier_same disk; inside = λ past can. refl }

-- it is too long
pub too_long : (len : ℕ) (disk : Device) → length_made < len → Looks (room_for len) disk disk (Err (length_refusal len))
too_long len disk long =
    let e : nat_lt length_made len ≡ true = grind (arith, nat_tests) in record {
      only_read = still disk;
      settled = λ past can. inl (rw e refl);
      short = tt;
      refusal = inl refl;
      cause = record { failed = λ f. absurd (own_apart (length_refusal len) refl f); kept = inr refl };
    }

-- it holds no table
pub unseen : (len : ℕ) (disk : Device) → len ≤ length_made → is_looked_at len ≡ false → Looks (room_for len) disk disk (Ok len)
unseen len disk short none =
    let e : nat_lt length_made len ≡ false = grind (arith, nat_tests) in record {
      only_read = still disk;
      settled = λ past can. inl (rw e (rw none refl));
      short = short;
      refusal = tt;
      cause = record { failed = λ f. absurd (ok_apart len f); kept = inr refl };
    }

-- what is said of an image of so many bytes is said of the image
pub measured : (len : ℕ) (disk mid later : Device) (result : Result ℕ Refusal) → mid.calls ≡ disk.calls → Earlier disk mid
    → StaysInside disk mid → Known disk mid (λ h. len ≡ length (held h)) → mid.faults ≡ disk.faults
    → Looks (room_for len) mid later result → Looks room_in disk later result
measured len disk mid later result calls earlier inside long kept looks = record {
  only_read = record {
    calls = looks.only_read.calls ∙ calls;
    earlier = earlier_then earlier looks.only_read.earlier;
    inside = λ past can. looks.only_read.inside past can ∙ inside past (can_before looks.only_read.earlier can);
  };
  settled = λ past can.
      let image = held (history_of past disk.calls) in
      subst (λ n. Settles disk_refusal (room_for n image) result) (long past (can_before looks.only_read.earlier can))
      (subst (λ l. Settles disk_refusal (room_for len (held (history_of past l))) result) calls (looks.settled past can));
  short = looks.short;
  refusal = looks.refusal;
  cause = subst (λ n. HasStageCause disk_refusal n later.faults result) kept looks.cause;
}

-- an image that is long enough isn't grown
pub long_enough : (len : ℕ) (disk : Device) → length_made ≤ len → Grows {T = Unit {0}} {E = Failed} len disk disk (Ok tt)
long_enough len disk long =
    let none : nat_lt len length_made ≡ false = grind (arith, nat_tests) in record {
      earlier = earlier_same disk;
      ran = record { ok = rw none (sym (append-nil disk.calls)); err = tt };
      answers = refl;
      cause = record { later = omega arith; failed = tt; kept = refl };
    }

-- a shorter one was, and the sync behind it was asked for
pub lengthened : (len : ℕ) (disk mid now : Device) (result : Result (Unit {0}) Failed) → len < length_made
    → mid.calls ≡ disk.calls ++ Done (SetLen length_made) ∷ [] → mid.answers ≡ disk.answers → Earlier disk mid → mid.faults ≡ disk.faults
    → Makes mid.calls Sync now.calls result → now.answers ≡ mid.answers → Earlier mid now → HasCause mid.faults now.faults result
    → Grows len disk now result
lengthened len disk mid now result short set answers earlier kept makes still_answers then cause = record {
  earlier = earlier_then earlier then;
  ran = let less : nat_lt len length_made ≡ true = grind (arith, nat_tests) in rw less (by result makes);
  answers = still_answers ∙ answers;
  cause = subst (λ n. HasCause n now.faults result) kept cause;
} where
  by : (result : Result (Unit {0}) Failed) → Makes mid.calls Sync now.calls result
      → Runs disk.calls (SetLen length_made ∷ Sync ∷ []) now.calls result
  by (Ok done) makes = record { ok = one_more disk.calls mid.calls now.calls (SetLen length_made ∷ []) Sync set makes.ok; err = tt }
  by (Err failed) makes = record {
    ok = tt;
    err = broke_off_at disk.calls mid.calls now.calls (SetLen length_made ∷ []) Sync [] set makes.err;
  }
