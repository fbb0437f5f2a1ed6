use Rattle.rp_share.proofs.LawLemmas.{one_share}
use Rattle.rp_share.proofs.law.there_is_one_share.Goals as goal

pub returns : goal.returns
returns c span items = one_share span items
