-- The identifier that is given is kept.
use Rattle.rp_ident.proofs.KeptLemmas.{kept-given}
use Rattle.rp_ident.proofs.used.give.Goals as goal

pub returns-clause-kept : goal.returns-clause-kept
returns-clause-kept c =
    rw c.give_id.ensures
    (kept-given c.args.rows.now c.args.place c.number.result c.args.id c.args.used.now c.keep.new.used c.requires.kept c.requires.waits
    c.number.ensures.id c.number.ensures.value c.keep.ensures.rising c.keep.ensures.found c.keep.ensures.whole)
