use Rattle.rp_share.proofs.ValueLemmas.{share_is}
use Rattle.rp_share.proofs.law.value_is_a_share.Goals as goal

pub returns : goal.returns
returns c span items limits fits = share_is items limits span fits
