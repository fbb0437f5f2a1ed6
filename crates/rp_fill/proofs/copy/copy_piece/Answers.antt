use Rattle.rp_disk.proofs.Noting.{earlier_same}
use Rattle.rp_fill.proofs.copy.copy_piece.Goals as goal

pub returns-then-is_err-clause-earlier : goal.returns-then-is_err-clause-earlier
returns-then-is_err-clause-earlier g c = earlier_same _
