use Rattle.std.proofs.Common.{◌≡◌, ◌≤◌, ◌+◌, take, sum_by}
use Rattle.std.specs.List.{All}
use Rattle.rp_rows_places.proofs.share.is_ready.Given as goal

abbrev pub invariant-loop-item : goal.invariant-loop-item
invariant-loop-item l = record {
  limits : All (λ item. item.min ≤ item.max) (take l.item-index l.items);
  weights : All (λ item. item.weight ≤ 1000000) (take l.item-index l.items);
  minima : sum_by (λ item. item.min) (take l.item-index l.items) + l.rest ≡ l.span;
}
