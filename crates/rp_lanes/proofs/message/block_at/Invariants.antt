use Rattle.std.proofs.Common.{◌≡◌, ℕ, ◌<◌, ◌+◌, ◌*◌, ◌++◌, length, slice_index}
use Rattle.sha2.specs.Sha256.{padded_message}
use Rattle.rp_lanes.proofs.message.block_at.Given as goal

abbrev pub invariant-loop-k : goal.invariant-loop-k
invariant-loop-k l = (length l.bytes ≡ 64)
    × ((p : ℕ) → p < l.k → slice_index l.bytes p ≡ slice_index (padded_message (l.salt ++ l.block)) (l.i * 64 + p))
