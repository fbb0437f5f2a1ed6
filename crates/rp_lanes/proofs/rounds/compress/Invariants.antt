use Rattle.std.proofs.Common.{ℕ, ◌<◌, ◌*◌}
use Rattle.sha2.specs.Sha256.{IsRoundsAt}
use Rattle.rp_lanes.specs.Lanes.{lane, pick, window_lane}
use Rattle.rp_lanes.proofs.rounds.compress.Given as goal

abbrev pub invariant-schedule : goal.invariant-schedule
invariant-schedule l = (j : ℕ) → j < 4
    → IsRoundsAt (pick j l.a l.b l.c l.d) (lane j l.state) (window_lane j l.w) (lane j l.v) (16 * l.turn)
