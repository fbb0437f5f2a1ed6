use Rattle.rp_make_command.proofs.Unfailed.{never_files}
use Rattle.rp_make_command.proofs.law.make_never_fails_in_memory.Goals as goal

pub returns : goal.returns
returns c = λ number disk later out after status high makes. never_files number disk later out after status high makes
