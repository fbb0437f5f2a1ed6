-- What a command prints to a sink, and the status with which it ends.
use Rattle.std.specs.Prelude.{ℕ, List, ◌++◌, ◌≡◌, ◌⊎◌, Option, Some, IfSome}
use Rattle.rp_base.specs.Faults.{Rose}
use Rattle.rp_io.specs.Sink.{TookPart}
use Rattle.rp_outcome.specs.Refusals.{Refusal, line_of}
use Rattle.rp_outcome.specs.Statuses as exit

-- a sink at a moment: the bytes that it has taken, where it tells them, and how many of its calls have failed
pub record Output : Type 0 where
  pub taken : Option (List ℕ)
  pub faults : ℕ

-- a sink at a moment, by the two ghost members of its type
abbrev pub output : {K : Type 0} → (K → Option (List ℕ)) → (K → ℕ) → K → Output
output taken faults sink = record { taken = taken sink; faults = faults sink }

-- all these bytes were printed, and no call failed
pub record PrintsAll (before now : Output) (bytes : List ℕ) : Type 0 where
  pub taken : IfSome before.taken (λ taken. now.taken ≡ Some (taken ++ bytes))
  pub kept : now.faults ≡ before.faults

-- a first part of these bytes was printed, and a call failed
pub record PrintsPart (before now : Output) (bytes : List ℕ) : Type 0 where
  pub taken : IfSome before.taken (λ taken. TookPart taken bytes now.taken)
  pub rose : Rose before.faults now.faults

-- these bytes were printed as far as the sink took them
abbrev pub Prints : Output → Output → List ℕ → Type 0
Prints before now bytes = PrintsAll before now bytes ⊎ PrintsPart before now bytes

-- a command that is done ends with its text: all of it, or a first part where the sink failed
abbrev pub Finishes : Output → Output → List ℕ → ℕ → Type 0
Finishes before now text status = ((status ≡ exit.done) × PrintsAll before now text) ⊎ ((status ≡ exit.sink) × PrintsPart before now text)

-- and one that tells a difference
abbrev pub Differs : Output → Output → List ℕ → ℕ → Type 0
Differs before now text status = ((status ≡ exit.differs) × PrintsAll before now text) ⊎ ((status ≡ exit.sink) × PrintsPart before now text)

-- a command that isn't done ends with the status of a refusal, and with its line as far as the sink took it
pub record Refuses (before now : Output) (refusal : Refusal) (status : ℕ) : Type 0 where
  pub answers : status ≡ refusal.status
  pub printed : Prints before now (line_of refusal)
