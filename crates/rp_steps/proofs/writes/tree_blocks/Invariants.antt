use Rattle.std.proofs.Common.{◌≡◌, ◌≢◌, ℕ, ◌+◌, ◌-◌, ◌*◌, ◌/◌, ◌^◌, ◌<◌, ◌≤◌}
use Rattle.rp_steps.proofs.Sized.{lowest}
use Rattle.rp_steps.proofs.writes.tree_blocks.Given as goal

abbrev pub invariant-loop-rest : goal.invariant-loop-rest
invariant-loop-rest l =
    (l.level ≤ 5) × (l.rest ≡ (l.blocks - 1) / 128 ^ l.level) × ((k : ℕ) → k < l.level → (l.blocks - 1) / 128 ^ k ≢ 0)
    × (l.count ≡ 1 + lowest l.blocks l.level) × (l.count ≤ 1 + 144115188075855872 * l.level)

abbrev pub decreases-loop-rest : goal.decreases-loop-rest
decreases-loop-rest l = l.rest
