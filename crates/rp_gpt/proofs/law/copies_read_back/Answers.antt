use Rattle.rp_gpt.proofs.ReadsBack.{reads_back}
use Rattle.rp_gpt.proofs.law.copies_read_back.Goals as goal

pub returns : goal.returns
returns c table writable fits = reads_back table writable fits
