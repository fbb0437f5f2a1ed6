use Rattle.rp_plan_command.proofs.Noted.{as_many}
use Rattle.rp_apply_command.proofs.command.prepared.Goals as goal

pub plan_text-requires : goal.plan_text-requires
plan_text-requires c = as_many c.args.planned.now.seen c.args.planned.now.plan c.requires.formed
