use Rattle.rp_unchanged.proofs.Nothing.{made_unchanged}
use Rattle.rp_unchanged.proofs.law.a_made_image_differs_in_nothing.Goals as goal

pub returns : goal.returns
returns c = made_unchanged
