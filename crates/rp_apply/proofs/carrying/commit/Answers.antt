use Rattle.rp_disk.proofs.Noting.{possible_lawful}
use Rattle.rp_apply.proofs.Committed.{any_moment_of, changed_of, complete_of, ended_of, planned_of, strays_of, told_of}
use Rattle.rp_apply.proofs.carrying.commit.Goals as goal

pub returns-clause-planned : goal.returns-clause-planned
returns-clause-planned g c = λ o can. planned_of c.args.ready c.requires _ _ _ _ c.carry_out.result (c.carry_out.ensures.made o can)

pub returns-clause-changed : goal.returns-clause-changed
returns-clause-changed g c = λ o can. changed_of c.args.ready c.requires _ _ _ _ c.carry_out.result (c.carry_out.ensures.made o can)

pub returns-clause-complete : goal.returns-clause-complete
returns-clause-complete g c = λ o can.
    complete_of c.args.ready c.requires _ _ _ _ _ _ _ _ c.carry_out.result (c.carry_out.ensures.made o can) c.carry_out.ensures.disk_cause c.carry_out.ensures.source_cause

pub returns-clause-ended : goal.returns-clause-ended
returns-clause-ended g c = λ o can. ended_of c.args.ready c.requires _ _ _ _ c.carry_out.result (c.carry_out.ensures.made o can)

pub returns-clause-any_moment : goal.returns-clause-any_moment
returns-clause-any_moment g c = λ o can. any_moment_of c.args.ready c.requires _ _ _ _ c.carry_out.result (c.carry_out.ensures.made o can)

pub returns-clause-disk_strays : goal.returns-clause-disk_strays
returns-clause-disk_strays g c = λ o can. strays_of c.args.ready c.requires _ _ _ _ (c.carry_out.ensures.disk_strays o can)

pub returns-clause-copied : goal.returns-clause-copied
returns-clause-copied g c = λ o can.
    told_of c.args.ready c.requires _ _ _ _ c.carry_out.result (possible_lawful o (g.D.Disk.device c.carry_out.new.disk) can) (c.carry_out.ensures.made o can)
