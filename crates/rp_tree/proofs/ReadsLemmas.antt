-- Calls that only read, one behind another.
use Rattle.std.proofs.Common.{◌≡◌, ℕ, ◌≤◌, List, length, Result, Ok, Err, refl, sym, ◌∙◌, ap, subst, arith, true≢false}
use Rattle.std.specs.Prelude.{IfOk, IsErr}
use Rattle.rp_base.specs.declared.faults.Failed.{Failed}
use Rattle.rp_disk.specs.Device.{Device}
use Rattle.rp_disk.specs.History.{History, held}
use Rattle.rp_disk.specs.Made.{Made, Past, history_of}
use Rattle.rp_disk.proofs.Noting.{earlier_same, earlier_then}
use Rattle.rp_tree.specs.Reads.{Reads}

-- a disk that was only read holds what it held
pub as_before : (P : History → Type 0) (past : Past) (before now : Device) → now.calls ≡ before.calls
    → P (history_of past now.calls) → P (history_of past before.calls)
as_before P past before now same = subst P (ap (history_of past) same)

-- to an end that is farther
pub reads-farther : {T : Type 0} {before now : Device} (near far : ℕ) (result : Result T Failed) → near ≤ far → Reads near before now result
    → Reads far before now result
reads-farther near far result less reads = record {
  calls = reads.calls;
  earlier = reads.earlier;
  inside = λ past within. reads.inside past (omega (arith, less, within));
  cause = reads.cause;
}

-- another value, or the same fault of another type
pub reads-value : {T U : Type 0} {before now : Device} (end : ℕ) (value : T) (other : U) → Reads end before now (Ok value)
    → Reads end before now (Ok other)
reads-value end value other reads = record {
  calls = reads.calls;
  earlier = reads.earlier;
  inside = reads.inside;
  cause = record { later = reads.cause.later; failed = tt; kept = reads.cause.kept };
}

pub reads-fault : {T U : Type 0} {before now : Device} (end : ℕ) (fault : Failed) (result : Result U Failed) → IsErr result
    → Reads {T = T} end before now (Err fault) → Reads end before now result
reads-fault end fault (Ok value) is reads = absurd (true≢false (sym is))
reads-fault end fault (Err other) is reads = record {
  calls = reads.calls;
  earlier = reads.earlier;
  inside = reads.inside;
  cause = record { later = reads.cause.later; failed = reads.cause.failed; kept = tt };
}

-- one that was done, and another behind it
pub reads-then : {T U : Type 0} (end : ℕ) {before mid now : Device} (value : T) (result : Result U Failed) → Reads end before mid (Ok value)
    → Reads end mid now result → Reads end before now result
reads-then end {before} {mid} {now} value result one two = record {
  calls = two.calls ∙ one.calls;
  earlier = earlier_then one.earlier two.earlier;
  inside = λ past within.
      two.inside past (subst (λ (l : List Made). end ≤ length (held (history_of past l))) (sym one.calls) within) ∙ one.inside past within;
  cause = rw one.cause.kept at two.cause;
}

-- nothing was done
pub reads-none : {T : Type 0} (end : ℕ) (before : Device) (value : T) → Reads end before before (Ok value)
reads-none end before value = record {
  calls = refl;
  earlier = earlier_same before;
  inside = λ past within. refl;
  cause = record { later = omega arith; failed = tt; kept = refl };
}

-- a fact on each value, from another
pub ok-map : {T : Type 0} {P Q : T → Type 0} (result : Result T Failed) → ((value : T) → P value → Q value) → IfOk result P → IfOk result Q
ok-map (Ok value) f p = f value p
ok-map (Err fault) f p = tt
