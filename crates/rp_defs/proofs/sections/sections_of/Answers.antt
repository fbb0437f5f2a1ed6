use Rattle.rp_defs.proofs.ParsedLemmas.{parsed_by}
use Rattle.rp_defs.proofs.sections.sections_of.Goals as goal

pub returns-in-Ok-clause-parsed : goal.returns-in-Ok-clause-parsed
returns-in-Ok-clause-parsed c =
    parsed_by c.args.piece.now.bytes c.as_slice.result.now c.in-Ok.file c.requires c.as_slice.ensures c.in-Ok.ensures
