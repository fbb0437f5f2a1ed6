use Rattle.std.proofs.Common.{◌≡◌, ℕ, ◌<◌, ◌*◌, [], length, slice_index, slice_index_or}
use Rattle.sha2.specs.Sha256.{word_at}
use Rattle.rp_lanes.specs.Lanes.{pick}
use Rattle.rp_lanes.proofs.rounds.load.Given as goal

abbrev pub invariant-loop-i : goal.invariant-loop-i
invariant-loop-i l = (length l.w ≡ 16)
    × ((j k : ℕ) → j < 4 → k < l.i → slice_index (slice_index_or l.w k []) j ≡ word_at (pick j l.a l.b l.c l.d) (4 * k))
