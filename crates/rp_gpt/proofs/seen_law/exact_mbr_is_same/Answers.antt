use Rattle.rp_gpt.proofs.MbrStates.{exact-same}
use Rattle.rp_gpt.proofs.seen_law.exact_mbr_is_same.Goals as goal

pub returns : goal.returns
returns c = exact-same
