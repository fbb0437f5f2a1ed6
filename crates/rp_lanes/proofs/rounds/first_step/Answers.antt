use Rattle.std.proofs.Common.{refl, sym, arith}
use Rattle.sha2.proofs.Schedule256.{rounds_first}
use Rattle.rp_lanes.specs.Lanes.{lane, window_lane}
use Rattle.rp_lanes.proofs.LaneLemmas.{window_at}
use Rattle.rp_lanes.proofs.rounds.first_step.Goals as goal

pub returns : goal.returns
returns c = λ b h j below window held.
    rounds_first b h (window_lane j c.args.w.now) (lane j c.args.v) c.args.t _ _ _ c.requires window held refl
    (sym (window_at c.args.w.now j c.args.t (omega arith))) (c.round.ensures j below)
