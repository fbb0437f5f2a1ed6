use Rattle.std.proofs.Common.{◌++◌}
use Rattle.std.specs.Prelude.{codes}
use Rattle.std.specs.Fmt.{decimal}
use Rattle.rp_outcome.specs.Words.{piece_text}
use Rattle.rp_outcome.proofs.Printed.{on_err, part_more, then_all, then_failed, then_part}
use Rattle.rp_outcome.proofs.printing.print_place.Goals as goal

pub returns-in_err-print_piece-clause-failed : goal.returns-in_err-print_piece-clause-failed
returns-in_err-print_piece-clause-failed g c =
    on_err c.from_residual.result
    (part_more _ _ _ (decimal c.args.line) (part_more _ _ _ (codes ":") c.in_err-print_piece.ensures.failed))

pub returns-in_err-print-clause-failed : goal.returns-in_err-print-clause-failed
returns-in_err-print-clause-failed g c =
    on_err c.from_residual-in_err-print.result
    (part_more _ _ _ (decimal c.args.line)
    (then_part _ _ _ (piece_text c.args.file.now c.args.part.now) (codes ":") c.in_ok-print_piece.ensures.done c.in_err-print.ensures.failed))

pub returns-clause-failed : goal.returns-clause-failed
returns-clause-failed g c =
    then_failed _ _ _ (piece_text c.args.file.now c.args.part.now ++ codes ":") (decimal c.args.line) c.print_number.result
    (then_all _ _ _ (piece_text c.args.file.now c.args.part.now) (codes ":") c.in_ok-print_piece.ensures.done c.in_ok-print.ensures.done)
    (rw c.from.ensures at c.print_number.ensures.failed)
