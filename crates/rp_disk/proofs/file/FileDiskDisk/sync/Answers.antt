use Rattle.rp_disk.specs.declared.call.Call.TheVariants.{Sync}
use Rattle.rp_disk.proofs.Noting.{made_earlier}
use Rattle.rp_disk.proofs.file.FileDiskDisk.sync.Goals as goal

pub returns-clause-earlier : goal.returns-clause-earlier
returns-clause-earlier g c = made_earlier _ _ Sync _ c.ask_sync.ensures.calls c.ask_sync.ensures.answers
