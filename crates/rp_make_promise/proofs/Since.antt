-- What was noted of a disk at a stage of a run of `make` is noted at its end too.
use Rattle.std.proofs.Common.{ℕ, ◌≡◌, List, Result, Ok, Err, sym, subst, inl, inr}
use Rattle.rp_apply_command.specs.Applies.{Outcome}
use Rattle.rp_base.specs.declared.faults.Failed.{Failed}
use Rattle.rp_base.specs.declared.guid.Guid.{Guid}
use Rattle.rp_defs.specs.declared.definition.Definitions.{Definitions}
use Rattle.rp_disk.specs.Device.{Earlier}
use Rattle.rp_disk.proofs.Noting.{earlier_same, earlier_then}
use Rattle.rp_io.specs.declared.stored.Stored.{Stored}
use Rattle.rp_make_command.specs.Makes.{MakesCheckedBehind, MakesComparedBehind, MakesGrownBehind, MakesLookedBehind, MakesPlannedBehind}
use Rattle.rp_make_command.specs.Summary.{front_text}
use Rattle.rp_outcome.specs.Device.{Device}
use Rattle.rp_outcome.specs.Output.{Output}
use Rattle.rp_outcome.specs.Refusals.{Refusal}
use Rattle.rp_outcome.specs.Store.{Store}
use Rattle.rp_planned.specs.declared.planned.Planned.{Planned}

module _ (number : ℕ) (seed : Guid) (definitions : Definitions) (later : Device) (out after : Output) (status : ℕ) where
  since_same : (mid : Device) → later ≡ mid → Earlier mid later
  since_same mid at = subst (Earlier mid) (sym at) (earlier_same mid)

  since_compared : (front : List ℕ) (mid : Device) (answer : Result Planned Refusal) → MakesComparedBehind front mid later out after status answer
      → Earlier mid later
  since_compared front mid (Err refusal) (at, refuses) = since_same mid at
  since_compared front mid (Ok planned) (answer, finds, tells) = finds.only_read.earlier

  -- since the plan was carried out
  pub since_made : (planned : Planned) (made : Device) (left drained : Store (List Stored)) (answer : Outcome)
      → MakesCheckedBehind number seed definitions planned made later left drained out after status answer → Earlier made later
  since_made planned made left drained (Err refusal) (at, none, refuses) = since_same made at
  since_made planned made left drained (Ok done) (seen, answer, plans, behind) =
      earlier_then plans.1.only_read.earlier (since_compared (front_text number planned) seen answer behind)

  since_seen : (seen : Device) (asked drained : Store (List Stored)) (answer : Result Planned Refusal)
      → MakesPlannedBehind number seed definitions seen later asked drained out after status answer → Earlier seen later
  since_seen seen asked drained (Err refusal) (at, none, refuses) = since_same seen at
  since_seen seen asked drained (Ok planned) (inl (at, none, refuses)) = since_same seen at
  since_seen seen asked drained (Ok planned) (inr (made, left, answer, carries, stays, behind)) =
      earlier_then carries.earlier (since_made planned made left drained answer behind)

  -- since the image was grown
  pub since_grown : (grown : Device) (sources drained : Store (List Stored)) (answer : Result (Unit {0}) Failed)
      → MakesGrownBehind number seed definitions grown later sources drained out after status answer → Earlier grown later
  since_grown grown sources drained (Err failed) (at, none, refuses) = since_same grown at
  since_grown grown sources drained (Ok done) (seen, asked, answer, plans, fits, behind) =
      earlier_then plans.1.only_read.earlier (since_seen seen asked drained answer behind)

  -- since it was looked at
  pub since_looked : (looked : Device) (sources drained : Store (List Stored)) (answer : Result ℕ Refusal)
      → MakesLookedBehind number seed definitions looked later sources drained out after status answer → Earlier looked later
  since_looked looked sources drained (Err refusal) (at, none, refuses) = since_same looked at
  since_looked looked sources drained (Ok len) (grown, answer, grows, behind) =
      earlier_then grows.earlier (since_grown grown sources drained answer behind)
