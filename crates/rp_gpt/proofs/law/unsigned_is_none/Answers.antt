use Rattle.rp_gpt.proofs.Laws.{answer-unsigned}
use Rattle.rp_gpt.proofs.law.unsigned_is_none.Goals as goal

pub returns : goal.returns
returns c = answer-unsigned
