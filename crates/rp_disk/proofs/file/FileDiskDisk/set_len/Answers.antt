use Rattle.rp_disk.specs.declared.call.Call.TheVariants.{SetLen}
use Rattle.rp_disk.proofs.Noting.{made_earlier}
use Rattle.rp_disk.proofs.file.FileDiskDisk.set_len.Goals as goal

pub returns-clause-earlier : goal.returns-clause-earlier
returns-clause-earlier g c = made_earlier _ _ (SetLen c.args.len) _ c.ask_set_len.ensures.calls c.ask_set_len.ensures.answers
