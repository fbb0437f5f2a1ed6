use Rattle.std.proofs.Common.{take}
use Rattle.std.specs.List.{flat_map}
use Rattle.rp_outcome.specs.Output.{PrintsAll, output}
use Rattle.rp_outcome.proofs.printing.print_pieces.Given as goal

-- the texts so far were printed
abbrev pub invariant-loop-piece : goal.invariant-loop-piece
invariant-loop-piece g l =
    PrintsAll (output g.K.Sink.told g.K.Sink.faults l.initial.out) (output g.K.Sink.told g.K.Sink.faults l.out)
    (flat_map (λ piece. piece.now) (take l.piece-index l.pieces))
