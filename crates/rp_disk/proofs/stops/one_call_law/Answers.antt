use Rattle.rp_disk.proofs.OneCall.{left_of_write, left_of_sync, left_of_set_len}
use Rattle.rp_disk.proofs.stops.one_call_law.Goals as goal

pub returns-clause-write : goal.returns-clause-write
returns-clause-write c = left_of_write

pub returns-clause-sync : goal.returns-clause-sync
returns-clause-sync c = left_of_sync

pub returns-clause-set_len : goal.returns-clause-set_len
returns-clause-set_len c = left_of_set_len
