use Rattle.rp_show.proofs.Statuses.{by_status}
use Rattle.rp_show.proofs.law.show_by_status.Goals as goal

pub returns : goal.returns
returns c = by_status
