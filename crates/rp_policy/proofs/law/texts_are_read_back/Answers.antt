use Rattle.rp_policy.proofs.Whole.{text_back}
use Rattle.rp_policy.proofs.law.texts_are_read_back.Goals as goal

pub returns : goal.returns
returns c policy size full = text_back policy size full
