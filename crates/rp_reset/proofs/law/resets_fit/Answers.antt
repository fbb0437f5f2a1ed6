use Rattle.std.proofs.Common.{ap}
use Rattle.rp_base.specs.declared.plan.Plan.{Plan}
use Rattle.rp_reset.proofs.Fitting.{all_same, reset_fits, reset_is, reset_writes}
use Rattle.rp_reset.proofs.law.resets_fit.Goals as goal

pub returns-clause-fits : goal.returns-clause-fits
returns-clause-fits c seen defs plan plannable is = reset_fits seen defs plan is plannable

pub returns-clause-writes : goal.returns-clause-writes
returns-clause-writes c seen defs plan fits is = reset_writes seen defs plan is fits

pub returns-clause-len : goal.returns-clause-len
returns-clause-len c seen defs plan is = ap (λ (p : Plan). p.target) (reset_is seen defs plan is)

pub returns-clause-same : goal.returns-clause-same
returns-clause-same c seen defs plan is = all_same seen defs plan is
