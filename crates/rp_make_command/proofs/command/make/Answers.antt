use Rattle.rp_outcome.specs.Output.{output}
use Rattle.rp_make_command.proofs.Started.{started}
use Rattle.rp_make_command.proofs.command.make.Goals as goal

pub returns-in-Ok-read_definitions : goal.returns-in-Ok-read_definitions
returns-in-Ok-read_definitions g c =
    started c.args.number c.in-Ok.input c.in-Ok.ensures c.as_slice.result.now c.as_slice.ensures _ c.in-Ok-read_definitions.definitions
    c.in-Ok-read_definitions.ensures.read c.is_sound.ensures _ c.is_sound-in-Ok-read_definitions.ensures
    (g.D.Disk.device c.args.disk.now)
    (g.D.Disk.device c.make_read-status.new.disk)
    (output g.K.Sink.told g.K.Sink.faults c.args.out.now) (output g.K.Sink.told g.K.Sink.faults c.make_read-status.new.out)
    c.make_read-status.result c.make_read-status.ensures
