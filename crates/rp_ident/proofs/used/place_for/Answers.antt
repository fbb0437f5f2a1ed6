-- Where a search that found nothing ended.
use Rattle.rp_ident.proofs.KeptLemmas.{place-missing}
use Rattle.rp_ident.proofs.used.place_for.Goals as goal

pub returns-in-Err-clause-place : goal.returns-in-Err-clause-place
returns-in-Err-clause-place c = place-missing c.args.numbers.now c.args.number c.in-Err.at c.in-Err.ensures.position
