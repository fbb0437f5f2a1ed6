use Rattle.std.proofs.Common.{◌≡◌, ◌+◌, map, take, sum_by}
use Rattle.rp_share.specs.Level.{grains_at}
use Rattle.rp_share.proofs.level.fill.Given as goal

abbrev pub invariant-loop-place : goal.invariant-loop-place
invariant-loop-place l = record {
  filled : take l.place l.shares ≡ map (grains_at l.level) (take l.place l.items);
  rest : sum_by (grains_at l.level) (take l.place l.items) + l.rest ≡ l.span;
}
