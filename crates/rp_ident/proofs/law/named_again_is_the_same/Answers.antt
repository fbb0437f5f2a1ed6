-- Nothing is left to name.
use Rattle.rp_ident.proofs.ApartLemmas.{named-same}
use Rattle.rp_ident.proofs.law.named_again_is_the_same.Goals as goal

pub returns : goal.returns
returns c = named-same
