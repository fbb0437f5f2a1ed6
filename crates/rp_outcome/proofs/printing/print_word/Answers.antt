use Rattle.std.specs.Prelude.{codes}
use Rattle.std.specs.Fmt.{decimal}
use Rattle.hex.specs.Hex.{encode_lower}
use Rattle.std.proofs.Common.{ap}
use Rattle.rp_outcome.specs.Words.{line_text, piece_text, word_text}
use Rattle.rp_outcome.proofs.Printed.{then_failed, words_text-one}
use Rattle.rp_outcome.proofs.printing.print_word.Goals as goal

pub returns-in_ok-print-in-Text-clause-failed : goal.returns-in_ok-print-in-Text-clause-failed
returns-in_ok-print-in-Text-clause-failed g c =
    rw (words_text-one c.args.word.now c.in-Text.text.now (ap word_text c.in-Text.is))
    (then_failed _ _ _ (codes " ") _ c.print-in-Text.result c.in_ok-print-in-Text.ensures.done c.print-in-Text.ensures.failed)

pub returns-in_ok-print-in-Number-clause-failed : goal.returns-in_ok-print-in-Number-clause-failed
returns-in_ok-print-in-Number-clause-failed g c =
    rw (words_text-one c.args.word.now (decimal c.in-Number.number) (ap word_text c.in-Number.is))
    (then_failed _ _ _ (codes " ") _ c.print_number.result c.in_ok-print-in-Number.ensures.done c.print_number.ensures.failed)

pub returns-in_ok-print-in-Piece-clause-failed : goal.returns-in_ok-print-in-Piece-clause-failed
returns-in_ok-print-in-Piece-clause-failed g c =
    rw (words_text-one c.args.word.now (piece_text c.in-Piece.file.now c.in-Piece.part.now) (ap word_text c.in-Piece.is))
    (then_failed _ _ _ (codes " ") _ c.print_piece.result c.in_ok-print-in-Piece.ensures.done c.print_piece.ensures.failed)

pub returns-in_ok-print-in-Line-clause-failed : goal.returns-in_ok-print-in-Line-clause-failed
returns-in_ok-print-in-Line-clause-failed g c =
    rw (words_text-one c.args.word.now (line_text c.in-Line.file.now c.in-Line.part.now c.in-Line.line) (ap word_text c.in-Line.is))
    (then_failed _ _ _ (codes " ") _ c.print_place.result c.in_ok-print-in-Line.ensures.done c.print_place.ensures.failed)

pub returns-in_ok-print-in-Hash-clause-failed : goal.returns-in_ok-print-in-Hash-clause-failed
returns-in_ok-print-in-Hash-clause-failed g c =
    rw (words_text-one c.args.word.now (encode_lower c.in-Hash.bytes.now) (ap word_text c.in-Hash.is))
    (then_failed _ _ _ (codes " ") _ c.print_hash.result c.in_ok-print-in-Hash.ensures.done c.print_hash.ensures.failed)
