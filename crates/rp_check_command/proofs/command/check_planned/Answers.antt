use Rattle.rp_outcome.specs.Output.{output}
use Rattle.rp_check_command.proofs.Found.{with_found, without_disk, without_memory}
use Rattle.rp_check_command.proofs.command.check_planned.Goals as goal

pub returns-in_default : goal.returns-in_default
returns-in_default g c =
    without_memory c.args.arch c.args.planned.now (g.D.Disk.device c.args.disk.now)
    (output g.K.Sink.told g.K.Sink.faults c.args.out.now) (output g.K.Sink.told g.K.Sink.faults c.refuse.new.out) c.refuse.result
    c.memory.result c.memory.ensures c.refuse.ensures

pub returns-in-Ok-difference_of : goal.returns-in-Ok-difference_of
returns-in-Ok-difference_of g c =
    with_found c.args.arch c.args.planned.now (g.D.Disk.device c.args.disk.now)
    (output g.K.Sink.told g.K.Sink.faults c.args.out.now) (output g.K.Sink.told g.K.Sink.faults c.tell.new.out) c.tell.result
    (g.D.Disk.device c.difference_of.new.disk)
    c.in-Ok-difference_of.ensures.earlier c.in-Ok-difference_of.ensures.calls c.in-Ok-difference_of.ensures.inside c.requires.len
    c.in-Ok-difference_of.found c.in-Ok-difference_of.ensures.answer c.in-Ok-difference_of.ensures.table
    c.in-Ok-difference_of.ensures.cause.kept c.tell.ensures

pub returns : goal.returns
returns g c =
    without_disk c.args.arch c.args.planned.now (g.D.Disk.device c.args.disk.now)
    (output g.K.Sink.told g.K.Sink.faults c.args.out.now) (output g.K.Sink.told g.K.Sink.faults c.refuse-in-Err.new.out) c.refuse-in-Err.result
    (g.D.Disk.device c.difference_of.new.disk)
    c.in-Err.ensures.earlier c.in-Err.ensures.calls c.in-Err.ensures.inside c.requires.len
    c.disk.result c.disk.ensures c.in-Err.ensures.cause.failed c.refuse-in-Err.ensures
