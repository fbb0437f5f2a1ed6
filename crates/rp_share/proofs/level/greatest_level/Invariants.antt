use Rattle.std.proofs.Common.{◌≡◌, ◌+◌, ◌-◌, ◌*◌, ◌<◌, ◌≤◌, ◌⊎◌, sum_by}
use Rattle.rp_share.specs.Level.{grains_at}
use Rattle.rp_share.specs.declared.TheConstants.{LEVEL_SCALE}
use Rattle.rp_share.proofs.level.greatest_level.Given as goal

abbrev pub invariant-loop-low : goal.invariant-loop-low
invariant-loop-low l = record {
  ordered : l.low < l.high;
  within : l.high ≤ l.span * LEVEL_SCALE + 1;
  low_fits : sum_by (grains_at l.low) l.items ≤ l.span;
  high_does_not : (l.high ≡ l.span * LEVEL_SCALE + 1) ⊎ (l.span < sum_by (grains_at l.high) l.items);
}

abbrev pub decreases-loop-low : goal.decreases-loop-low
decreases-loop-low l = l.high - l.low
