use Rattle.rp_steps.proofs.Idle.{no_steps}
use Rattle.rp_steps.proofs.law.nothing_to_change_is_no_steps.Goals as goal

pub returns : goal.returns
returns c seen plan fits done = no_steps seen plan done fits
