use Rattle.rp_outcome.specs.Output.{output}
use Rattle.rp_make_command.proofs.Told.{tells_behind, tells_part}
use Rattle.rp_make_command.proofs.checking.tell_made.Goals as goal

pub returns-in-Ok : goal.returns-in-Ok
returns-in-Ok g c =
    tells_behind c.args.front.now (output g.K.Sink.told g.K.Sink.faults c.args.out.now)
    (output g.K.Sink.told g.K.Sink.faults c.print_pieces.new.out) (output g.K.Sink.told g.K.Sink.faults c.tell.new.out) c.tell.result
    c.args.found c.in-Ok.ensures.done c.tell.ensures

pub returns-in-Err : goal.returns-in-Err
returns-in-Err g c =
    tells_part c.args.front.now (output g.K.Sink.told g.K.Sink.faults c.args.out.now)
    (output g.K.Sink.told g.K.Sink.faults c.print_pieces.new.out) c.args.found c.in-Err.ensures.failed
