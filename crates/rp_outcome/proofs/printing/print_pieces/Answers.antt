use Rattle.std.proofs.Common.{ℕ, List, ◌+◌, take, drop, sym, arith}
use Rattle.std.specs.Borrow.{Bor}
use Rattle.std.specs.List.{flat_map}
use Rattle.rp_outcome.proofs.Printed.{all_as, on_err, part_as, part_more, pieces-all, pieces-at, pieces-more, prints_none, then_all, then_part}
use Rattle.rp_outcome.proofs.printing.print_pieces.Goals as goal

-- the text of a piece
abbrev text_of : Bor (List ℕ) → List ℕ
text_of piece = piece.now

pub loop-piece-init : goal.loop-piece-init
loop-piece-init g c = prints_none _

pub returns-in_err-print-clause-failed : goal.returns-in_err-print-clause-failed
returns-in_err-print-clause-failed g c =
    let pieces = c.args.pieces.now in let i : ℕ = c.loop-piece.piece-index in
    on_err c.from_residual.result
    (part_as _ _ _ _ (sym (pieces-at text_of pieces i _ (omega arith)))
    (part_more _ _ _ (flat_map text_of (drop (i + 1) pieces))
    (then_part _ _ _ (flat_map text_of (take i pieces)) _ c.loop-piece.invariant c.in_err-print.ensures.failed)))

pub loop-piece-preserved : goal.loop-piece-preserved
loop-piece-preserved g c =
    let pieces = c.args.pieces.now in let i : ℕ = c.loop-piece.piece-index in
    all_as _ _ _ _ (sym (pieces-more text_of pieces i _ (omega arith)))
    (then_all _ _ _ (flat_map text_of (take i pieces)) _ c.loop-piece.invariant c.in_ok-print.ensures.done)

pub returns-clause-done : goal.returns-clause-done
returns-clause-done g c = all_as _ _ _ _ (pieces-all text_of c.args.pieces.now c.loop-piece.piece-index (omega arith)) c.loop-piece.invariant
