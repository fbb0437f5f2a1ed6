use Rattle.rp_share.proofs.AgainLemmas.{shares_again}
use Rattle.rp_share.proofs.law.two_share_what_they_have.Goals as goal

pub returns : goal.returns
returns c span items shares at mine size share fits is spans = shares_again span items shares share at fits size is mine spans
