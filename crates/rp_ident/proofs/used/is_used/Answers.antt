-- By a search among the numbers that are kept.
use Rattle.rp_ident.proofs.KeptLemmas.{used-found}
use Rattle.rp_ident.proofs.used.is_used.Goals as goal

pub returns-then-used : goal.returns-then-used
returns-then-used c =
    used-found c.args.rows.now c.args.used.now c.args.id c.number.result c.as_slice.result.now c.binary_search.result c.is_ok.result
    c.requires.kept c.if-used.true c.requires.some c.number.ensures.id c.number.ensures.value c.as_slice.ensures.value
    c.binary_search.ensures.position c.is_ok.ensures.value
