use Rattle.std.proofs.Common.{◌≡◌, ◌-◌, ◌^◌, min, take}
use Rattle.rp_steps.specs.Writes.{writes}
use Rattle.rp_steps.proofs.writes.writes_of.Given as goal

abbrev pub invariant-loop-step : goal.invariant-loop-step
invariant-loop-step l = l.count ≡ min (writes (take l.step-index l.steps)) (2 ^ 64 - 1)
