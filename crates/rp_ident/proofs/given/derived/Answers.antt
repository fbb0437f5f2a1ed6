-- A derived identifier isn't zero.
use Rattle.rp_ident.proofs.TriedLemmas.{derived-some}
use Rattle.rp_ident.proofs.given.derived.Goals as goal

pub returns-clause-some : goal.returns-clause-some
returns-clause-some c = rw c.derive.ensures (derived-some c.args.seed c.args.kind.0 c.args.number)
