use Rattle.rp_gpt.proofs.Laws.{answer-primary}
use Rattle.rp_gpt.proofs.law.primary_has_no_size.Goals as goal

pub returns : goal.returns
returns c = answer-primary
