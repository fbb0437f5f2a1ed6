use Rattle.std.proofs.Common.{◌≡◌, ◌≢◌, ◌<◌, ◌≤◌, ◌-◌, ◌/◌, ◌^◌, ℕ}
use Rattle.rp_verity.proofs.shape.levels.Given as goal

abbrev pub invariant-loop-rest : goal.invariant-loop-rest
invariant-loop-rest l =
    (l.level ≤ 5) × (l.rest ≡ (l.blocks - 1) / 128 ^ l.level) × ((k : ℕ) → k < l.level → (l.blocks - 1) / 128 ^ k ≢ 0)

abbrev pub decreases-loop-rest : goal.decreases-loop-rest
decreases-loop-rest l = l.rest
