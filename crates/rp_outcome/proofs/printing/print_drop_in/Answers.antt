use Rattle.std.proofs.Common.{◌++◌}
use Rattle.std.specs.Prelude.{codes}
use Rattle.rp_outcome.proofs.Printed.{on_err, part_more, then_all, then_failed, then_part}
use Rattle.rp_outcome.proofs.printing.print_drop_in.Goals as goal

pub returns-in_err-print-clause-failed : goal.returns-in_err-print-clause-failed
returns-in_err-print-clause-failed g c =
    on_err c.from_residual.result
    (part_more _ _ _ c.args.part.now (part_more _ _ _ (codes ".d/") c.in_err-print.ensures.failed))

pub returns-in_err-print-2-clause-failed : goal.returns-in_err-print-2-clause-failed
returns-in_err-print-2-clause-failed g c =
    on_err c.from_residual-in_err-print-2.result
    (part_more _ _ _ c.args.part.now
    (then_part _ _ _ c.args.file.now (codes ".d/") c.in_ok-print.ensures.done c.in_err-print-2.ensures.failed))

pub returns-clause-failed : goal.returns-clause-failed
returns-clause-failed g c =
    then_failed _ _ _ (c.args.file.now ++ codes ".d/") c.args.part.now c.print-3.result
    (then_all _ _ _ c.args.file.now (codes ".d/") c.in_ok-print.ensures.done c.in_ok-print-2.ensures.done)
    c.print-3.ensures.failed
