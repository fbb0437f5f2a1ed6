use Rattle.std.proofs.Common.{◌≡◌, ℕ, ◌<◌, ◌*◌, ◌++◌, [], length, slice_index_or}
use Rattle.sha2.specs.Sha256.{sha256}
use Rattle.rp_lanes.specs.Blocks.{block_of}
use Rattle.rp_lanes.proofs.digest.digest_blocks.Given as goal

abbrev pub invariant-fours : goal.invariant-fours
invariant-fours l = (length l.out ≡ length l.fn.out)
    × ((k : ℕ) → k < 4 * l.turn → slice_index_or l.out k [] ≡ sha256 (l.salt ++ block_of l.bytes l.len k))

abbrev pub invariant-rest : goal.invariant-rest
invariant-rest l = (length l.out ≡ length l.fn.out)
    × ((k : ℕ) → k < l.k → slice_index_or l.out k [] ≡ sha256 (l.salt ++ block_of l.bytes l.len k))
