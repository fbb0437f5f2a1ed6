use Rattle.rp_disk.proofs.Noting.{length_earlier, length_known, length_inside}
use Rattle.rp_disk.proofs.file.FileDiskDisk.len.Goals as goal

pub returns-clause-earlier : goal.returns-clause-earlier
returns-clause-earlier g c = length_earlier _ _ _ c.ask_len.ensures.noted

pub returns-clause-len : goal.returns-clause-len
returns-clause-len g c = length_known _ _ _ c.ask_len.ensures.noted

pub returns-clause-inside : goal.returns-clause-inside
returns-clause-inside g c = length_inside _ _ _ c.ask_len.ensures.noted
