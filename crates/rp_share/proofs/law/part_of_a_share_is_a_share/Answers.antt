use Rattle.rp_share.proofs.AgainLemmas.{share_part}
use Rattle.rp_share.proofs.law.part_of_a_share_is_a_share.Goals as goal

pub returns : goal.returns
returns c span items shares at again part fair is whole = share_part items shares fair at again part is span whole
