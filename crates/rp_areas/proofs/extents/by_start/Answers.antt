use Rattle.std.proofs.Common.{◌≡◌, ◌≤◌, ◌∙◌, ap, length, arith}
use Rattle.std.specs.BTreeMap.{values}
use Rattle.std.proofs.Common.{rules}
use Rattle.std.proofs.lemmas.List.{take_all}
use Rattle.rp_areas.proofs.Order.{insert_more, values-keyed}
use Rattle.rp_areas.specs.Areas.{by_start}
use Rattle.rp_areas.proofs.extents.by_start.Goals as goal

pub loop-extent-preserved : goal.loop-extent-preserved
loop-extent-preserved c = insert_more _ _ c.args.extents.now c.loop-extent.extent-index _ c.requires c.loop-extent-test.true
    c.loop-extent.invariant c.in_ok-insert.ensures.entries

pub returns : goal.returns
returns c =
    let e : c.in_ok-collect.field-0.items ≡ values c.loop-extent.ordered = search rules in
    let all : length c.args.extents.now ≤ c.loop-extent.extent-index = omega arith in
    e ∙ rw c.loop-extent.invariant (rw values-keyed (ap by_start (take_all c.loop-extent.extent-index c.args.extents.now all)))
