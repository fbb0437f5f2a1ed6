use Rattle.rp_reset_promise.proofs.Read.{plan_reset_reads}
use Rattle.rp_reset_promise.proofs.law.plan_reset_reads_alone.Goals as goal

pub returns : goal.returns
returns c = plan_reset_reads
