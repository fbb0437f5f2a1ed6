use Rattle.std.proofs.Common.{◌≤◌, ◌⊎◌, length, subst, sym}
use Rattle.rp_share.specs.Share.{IsFair, IsFull}
use Rattle.rp_share.proofs.LevelLemmas.{fair_at, few_left, share_of_span}
use Rattle.rp_share.proofs.ValueLemmas.{value_of_share}
use Rattle.rp_share.proofs.share.Goals as goal

pub hand_out-requires-clause-fair : goal.hand_out-requires-clause-fair
hand_out-requires-clause-fair c =
    subst (IsFair c.args.items.now) (sym c.fill-rest.ensures.filled) (fair_at c.greatest_level-level.result c.args.items.now
    c.requires.limits)

pub returns-clause-share : goal.returns-clause-share
returns-clause-share c =
    share_of_span c.args.span c.greatest_level-level.result c.fill-rest.result c.args.items.now c.fill-rest.new.shares _
    c.fill-rest.ensures.filled c.fill-rest.ensures.rest c.hand_out.ensures

pub returns-clause-value : goal.returns-clause-value
returns-clause-value c =
    value_of_share c.args.items.now c.requires.limits c.args.span c.requires.minima _
    (share_of_span c.args.span c.greatest_level-level.result c.fill-rest.result c.args.items.now c.fill-rest.new.shares _
    c.fill-rest.ensures.filled c.fill-rest.ensures.rest c.hand_out.ensures)

pub hand_out-requires-clause-few : goal.hand_out-requires-clause-few
hand_out-requires-clause-few c =
    let items = c.args.items.now in
    let level = c.greatest_level-level.result in
    let rest = c.fill-rest.result in
    subst (λ shares. (rest ≤ length items) ⊎ IsFull items shares) (sym c.fill-rest.ensures.filled)
    (few_left c.args.span level rest items c.requires.limits c.requires.weights c.greatest_level-level.ensures.greatest
    c.fill-rest.ensures.rest)
