use Rattle.std.proofs.Common.{ap, ◌∙◌}
use Rattle.rp_hmac.specs.Hmac.{hmac}
use Rattle.rp_sizes.specs.Pairs.{salt_of}
use Rattle.rp_sizes.proofs.pair.salt_of.Goals as goal

pub returns : goal.returns
unfolding salt_of
returns c = c.hmac.ensures ∙ ap (hmac c.args.seed.0) c.text_of.ensures
