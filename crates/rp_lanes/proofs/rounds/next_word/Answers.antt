use Rattle.std.proofs.Common.{◌≡◌, ◌+◌, ◌%◌, length, arith, refl}
use Rattle.rp_lanes.proofs.LaneLemmas.{window_at}
use Rattle.rp_lanes.proofs.rounds.next_word.Goals as goal

pub returns-clause-value : goal.returns-clause-value
returns-clause-value c j h =
    let w = c.args.w.now in
    let p = c.args.place in
    let at : p % 16 ≡ p = omega arith in
    rw (
      window_at w j ((p + 14) % 16) (omega arith),
      window_at w j ((p + 9) % 16) (omega arith),
      window_at w j ((p + 1) % 16) (omega arith),
      at,
      window_at w j p (omega arith),
      c.add-word.ensures j h,
      c.add-with_early.ensures j h,
      c.lower_sigma0-early.ensures j h,
      c.add-with_late.ensures j h,
      c.lower_sigma1-late.ensures j h,
    ) refl
