use Rattle.rp_outcome.specs.Output.{output}
use Rattle.rp_make_room.proofs.Printed.{refuses_length}
use Rattle.rp_make_room.proofs.refusal.refuse_length.Goals as goal

pub returns : goal.returns
returns g c =
    refuses_length c.args.len c.format-number.result.now (output g.K.Sink.told g.K.Sink.faults c.args.out.now)
    (output g.K.Sink.told g.K.Sink.faults c.print_pieces.new.out) c.print_pieces.result c.format-number.ensures.text
    c.print_pieces.ensures.done c.print_pieces.ensures.failed
