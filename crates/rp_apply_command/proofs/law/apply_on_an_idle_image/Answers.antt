use Rattle.rp_apply_command.proofs.Ended.{ends_idle, tells_idle}
use Rattle.rp_apply_command.proofs.law.apply_on_an_idle_image.Goals as goal

pub returns-clause-calls : goal.returns-clause-calls
returns-clause-calls c = ends_idle

pub returns-clause-text : goal.returns-clause-text
returns-clause-text c = tells_idle
