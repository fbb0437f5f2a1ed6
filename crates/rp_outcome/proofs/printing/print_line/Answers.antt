use Rattle.std.proofs.Common.{◌++◌}
use Rattle.std.specs.Prelude.{codes}
use Rattle.std.specs.Fmt.{decimal}
use Rattle.rp_outcome.specs.Words.{words_text}
use Rattle.rp_outcome.proofs.Printed.{on_err, part_more, then_all, then_failed, then_part}
use Rattle.rp_outcome.proofs.printing.print_line.Goals as goal

pub returns-in_err-print-clause-failed : goal.returns-in_err-print-clause-failed
returns-in_err-print-clause-failed g c =
    on_err c.from_residual.result
    (part_more _ _ _ (codes "\n") (part_more _ _ _ (words_text c.args.words.now)
    (part_more _ _ (codes "error ") (decimal c.args.status) c.in_err-print.ensures.failed)))

pub returns-in_err-print_number-clause-failed : goal.returns-in_err-print_number-clause-failed
returns-in_err-print_number-clause-failed g c =
    on_err c.from_residual-in_err-print_number.result
    (part_more _ _ _ (codes "\n") (part_more _ _ _ (words_text c.args.words.now)
    (then_part _ _ _ (codes "error ") (decimal c.args.status) c.in_ok-print.ensures.done
    (rw c.from.ensures at c.in_err-print_number.ensures.failed))))

pub returns-in_err-print_words-clause-failed : goal.returns-in_err-print_words-clause-failed
returns-in_err-print_words-clause-failed g c =
    on_err c.from_residual-in_err-print_words.result
    (part_more _ _ _ (codes "\n") (then_part _ _ _ (codes "error " ++ decimal c.args.status) (words_text c.args.words.now)
    (then_all _ _ _ (codes "error ") (decimal c.args.status) c.in_ok-print.ensures.done
    (rw c.from.ensures at c.in_ok-print_number.ensures.done))
    c.in_err-print_words.ensures.failed))

pub returns-clause-failed : goal.returns-clause-failed
returns-clause-failed g c =
    then_failed _ _ _ (codes "error " ++ decimal c.args.status ++ words_text c.args.words.now) (codes "\n") c.print-2.result
    (then_all _ _ _ (codes "error " ++ decimal c.args.status) (words_text c.args.words.now)
    (then_all _ _ _ (codes "error ") (decimal c.args.status) c.in_ok-print.ensures.done
    (rw c.from.ensures at c.in_ok-print_number.ensures.done))
    c.in_ok-print_words.ensures.done)
    c.print-2.ensures.failed
