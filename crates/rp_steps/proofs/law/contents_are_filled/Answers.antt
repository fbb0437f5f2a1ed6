use Rattle.rp_steps.proofs.Composed.{fills}
use Rattle.rp_steps.proofs.law.contents_are_filled.Goals as goal

pub returns : goal.returns
returns c = fills
