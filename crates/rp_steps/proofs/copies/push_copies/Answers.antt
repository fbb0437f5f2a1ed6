use Rattle.std.proofs.Common.{◌∙◌, ◌++◌, ◌||◌, Bool, ap, filter, flat_map, not}
use Rattle.rp_steps.specs.Steps.{copy_order, copy_phases, is_same, synced, written_copies}
use Rattle.rp_steps.proofs.Copying.{copies_added}
use Rattle.rp_steps.proofs.copies.push_copies.Goals as goal

pub returns : goal.returns
unfolding written_copies
returns c =
    let order = copy_order c.args.seen.now.origin in
    copies_added (λ which. c.writes_both-both.result || not (is_same c.args.seen.now which)) order c.copy_order-first.result.0 c.copy_order-first.result.1
    c.args.steps.now c.push_unless_same.new.steps c.push_unless_same-2.new.steps c.copy_order-first.ensures
    (c.in_ok-push_unless_same.ensures {u = tt}) (c.in_ok-push_unless_same-2.ensures {u = tt})
    ∙ ap (λ (both : Bool). c.args.steps.now ++ synced (flat_map copy_phases (filter (λ which. both || not (is_same c.args.seen.now which)) order)))
    c.writes_both-both.ensures
