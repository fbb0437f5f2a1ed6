use Rattle.rp_make_command.proofs.Ended.{ends_so}
use Rattle.rp_make_command.proofs.law.make_ends.Goals as goal

pub returns : goal.returns
returns c = λ number disk later out after status makes. ends_so disk later out after status number makes
