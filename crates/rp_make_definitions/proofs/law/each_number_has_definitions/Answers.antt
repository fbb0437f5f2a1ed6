use Rattle.rp_make_definitions.proofs.Known.{has_definitions}
use Rattle.rp_make_definitions.proofs.law.each_number_has_definitions.Goals as goal

pub returns : goal.returns
returns c = has_definitions
