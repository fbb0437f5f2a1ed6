use Rattle.rp_disk.proofs.Noting.{earlier_same}
use Rattle.rp_table.proofs.image.read_range.Goals as goal

pub returns-in_default-clause-earlier : goal.returns-in_default-clause-earlier
returns-in_default-clause-earlier g c = earlier_same _
