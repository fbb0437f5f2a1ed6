use Rattle.rp_gpt.proofs.Writable.{answer-rows}
use Rattle.rp_gpt.proofs.law.rows_can_be_written.Goals as goal

pub returns : goal.returns
returns c = answer-rows
