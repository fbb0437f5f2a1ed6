use Rattle.rp_reset_ends.proofs.Alike.{calls_are_for}
use Rattle.rp_reset_ends.proofs.law.calls_by_any_sources_carry_out_plans.Goals as goal

pub returns : goal.returns
returns c plan sources seen = calls_are_for plan sources seen
