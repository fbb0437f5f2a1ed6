use Rattle.rp_gpt.proofs.Laws.{answer-parts}
use Rattle.rp_gpt.proofs.law.answers_read_header_and_entries.Goals as goal

pub returns : goal.returns
returns c = answer-parts
