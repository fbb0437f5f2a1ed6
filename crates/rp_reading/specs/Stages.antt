-- The stages of a command: each gives an answer, or the refusal with which the command ends.
use Rattle.std.specs.Prelude.{ℕ, ◌≡◌, ◌⊎◌, Result, Ok, Err}
use Rattle.rp_base.specs.Faults.{Rose}
use Rattle.rp_outcome.specs.Refusals.{Refusal, memory_refusal}

-- an answer whose fault is told as a refusal
abbrev pub refused : {T E : Type 0} → (E → Refusal) → Result T E → Result T Refusal
refused refusal (Ok value) = Ok value
refused refusal (Err fault) = Err (refusal fault)

-- a stage behind one that answered
abbrev pub and_then : {T U : Type 0} → Result T Refusal → (T → Result U Refusal) → Result U Refusal
and_then (Ok value) next = next value
and_then (Err refusal) next = Err refusal

-- the answer is the definition's, but for a failure of the object that was asked, and want of memory
abbrev pub Settles : {T : Type 0} → Refusal → Result T Refusal → Result T Refusal → Type 0
Settles failure ideal answer = (answer ≡ ideal) ⊎ (answer ≡ Err failure) ⊎ (answer ≡ Err memory_refusal)

-- the object's failure comes only where its count rose, and no failed call is passed over
pub record HasStageCause {T : Type 0} (failure : Refusal) (before now : ℕ) (answer : Result T Refusal) : Type 0 where
  pub failed : answer ≡ Err failure → Rose before now
  pub kept : (answer ≡ Err failure) ⊎ (now ≡ before)
