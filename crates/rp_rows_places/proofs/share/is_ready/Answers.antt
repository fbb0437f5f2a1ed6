use Rattle.std.proofs.Common.{◌≤◌, arith}
use Rattle.std.proofs.lemmas.List.Elements.{All-more}
use Rattle.std.proofs.lemmas.List.Sums.{sum_by_more}
use Rattle.rp_share.specs.declared.item.Item.{Item}
use Rattle.rp_rows_places.proofs.share.is_ready.Goals as goal

pub loop-item-preserved : goal.loop-item-preserved
loop-item-preserved c =
    let items = c.args.items.now in
    let place = c.loop-item.item-index in
    let none : Item = record { min = 0; max = 0; weight = 0 } in
    record {
      limits = All-more (λ (item : Item). item.min ≤ item.max) items place none (omega arith) c.loop-item.invariant.limits c.if-item.false;
      weights = All-more (λ (item : Item). item.weight ≤ 1000000) items place none (omega arith) c.loop-item.invariant.weights
          c.if-item-gt1000000.false;
      minima = omega (arith, sum_by_more (λ (item : Item). item.min) items place none (omega arith));
    }
