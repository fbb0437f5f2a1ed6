use Rattle.rp_defs.proofs.KeyLemmas.{key_name-lent}
use Rattle.rp_defs.proofs.keys.key_name.Goals as goal

pub returns : goal.returns
returns c = rw c.from.ensures (key_name-lent c.args.key c.keys.result.now _ c.keys.ensures c.requires)
