use Rattle.rp_gpt.proofs.Writable.{answer-writable}
use Rattle.rp_gpt.proofs.law.tables_can_be_written.Goals as goal

pub returns : goal.returns
returns c = answer-writable
