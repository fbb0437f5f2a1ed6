use Rattle.rp_share.proofs.AgainLemmas.{rest_share}
use Rattle.rp_share.proofs.law.others_share_the_rest.Goals as goal

pub returns : goal.returns
returns c span first second items x y shares share = rest_share span first second items x y shares share
