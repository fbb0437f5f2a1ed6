use Rattle.std.proofs.Common.{◌≡◌, ℕ, ◌<◌, ◌++◌}
use Rattle.sha2.specs.Sha256.{hash_after, initial_hash_256, padded_message}
use Rattle.rp_lanes.specs.Lanes.{lane, pick}
use Rattle.rp_lanes.proofs.digest.hash.Given as goal

abbrev pub invariant-loop-i : goal.invariant-loop-i
invariant-loop-i l = (j : ℕ) → j < 4
    → lane j l.state ≡ hash_after initial_hash_256 (padded_message (l.salt ++ pick j l.a l.b l.c l.d)) l.i
