use Rattle.rp_defs.proofs.KeyLemmas.{reader_of-lent}
use Rattle.rp_defs.proofs.keys.reader_of.Goals as goal

pub returns : goal.returns
returns c = rw c.from.ensures (reader_of-lent c.args.key c.keys.result.now _ c.keys.ensures c.requires)
