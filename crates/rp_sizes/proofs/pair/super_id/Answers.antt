use Rattle.std.proofs.Common.{ap, ◌∙◌}
use Rattle.rp_hmac.specs.Derived.{derived}
use Rattle.rp_sizes.specs.Pairs.{super_id}
use Rattle.rp_sizes.proofs.pair.super_id.Goals as goal

pub returns : goal.returns
unfolding super_id
returns c = c.derive.ensures ∙ ap (λ text. derived c.args.seed text 0) c.text_of.ensures
