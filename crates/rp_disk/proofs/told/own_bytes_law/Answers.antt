use Rattle.rp_disk.proofs.OwnBytes.{own_can}
use Rattle.rp_disk.proofs.told.own_bytes_law.Goals as goal

pub returns : goal.returns
returns c = own_can
