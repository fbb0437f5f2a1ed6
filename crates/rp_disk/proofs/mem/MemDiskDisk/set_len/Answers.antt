use Rattle.rp_disk.specs.declared.call.Call.TheVariants.{SetLen}
use Rattle.rp_disk.proofs.Noting.{made_earlier}
use Rattle.rp_disk.proofs.mem.MemDiskDisk.set_len.Goals as goal

pub returns-clause-earlier : goal.returns-clause-earlier
returns-clause-earlier c = made_earlier _ _ (SetLen c.args.len) _ c.ask_set_len.ensures.calls c.ask_set_len.ensures.answers
