use Rattle.rp_unchanged.proofs.Blank.{none_dropped}
use Rattle.rp_unchanged.proofs.law.the_least_priorities_are_never_dropped.Goals as goal

pub returns : goal.returns
returns c = none_dropped
