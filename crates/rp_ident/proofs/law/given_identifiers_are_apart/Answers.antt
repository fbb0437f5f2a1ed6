-- An identifier that is given is no row's.
use Rattle.rp_ident.proofs.ApartLemmas.{named-apart}
use Rattle.rp_ident.proofs.LawLemmas.{named-rows}
use Rattle.rp_ident.proofs.law.given_identifiers_are_apart.Goals as goal

pub returns : goal.returns
returns c table after namings seed done =
    named-apart table.rows namings seed after.rows (named-rows table after namings seed done).0
