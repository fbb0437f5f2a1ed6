use Rattle.std.proofs.Common.{ℤ, pos, ◌≤ℤ◌, ◌<ℤ◌, ◌-◌, ◌^◌}
use Rattle.std.specs.Prelude.{IsErr, unsigned_abs}
use Rattle.rp_place.specs.Placing.{tried}
use Rattle.rp_place.proofs.threshold.settle.Given as goal

abbrev pub invariant-loop-areas : goal.invariant-loop-areas
invariant-loop-areas l = (pos 0 ≤ℤ l.threshold) × (l.threshold ≤ℤ pos (2 ^ 31 - 1))
    × ((other : ℤ) → l.threshold <ℤ other → other ≤ℤ pos (2 ^ 31 - 1) → IsErr (tried l.areas l.news l.free_slots other))

abbrev pub decreases-loop-areas : goal.decreases-loop-areas
decreases-loop-areas l = unsigned_abs l.threshold
