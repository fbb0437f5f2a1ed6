use Rattle.rp_gpt.proofs.MbrStates.{foreign-alone}
use Rattle.rp_gpt.proofs.seen_law.foreign_has_no_size.Goals as goal

pub returns : goal.returns
returns c = foreign-alone
