use Rattle.std.proofs.Common.{◌≡◌, ◌+◌, take, sum_by}
use Rattle.rp_share.specs.Level.{grains_at}
use Rattle.rp_share.proofs.level.fits.Given as goal

abbrev pub invariant-loop-item : goal.invariant-loop-item
invariant-loop-item l = sum_by (grains_at l.level) (take l.item-index l.items) + l.rest ≡ l.span
