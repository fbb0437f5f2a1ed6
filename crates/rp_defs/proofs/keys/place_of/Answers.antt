use Rattle.std.proofs.Common.{◌∙◌}
use Rattle.rp_defs.proofs.KeyLemmas.{place_of-lent}
use Rattle.rp_defs.proofs.keys.place_of.Goals as goal

pub returns : goal.returns
returns c = c.place_in.ensures ∙ place_of-lent c.args.name.now c.keys.result.now c.keys.ensures
