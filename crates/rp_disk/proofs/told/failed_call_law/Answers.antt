use Rattle.rp_disk.proofs.Failing.{still_can}
use Rattle.rp_disk.proofs.told.failed_call_law.Goals as goal

pub returns : goal.returns
returns c = still_can
