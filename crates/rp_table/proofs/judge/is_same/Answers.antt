use Rattle.rp_table.proofs.Judging.{same-holds, other-holds}
use Rattle.rp_table.proofs.judge.is_same.Goals as goal

pub returns-then-place-table : goal.returns-then-place-table
returns-then-place-table c = λ image are.
    same-holds image c.args.pieces.now c.requires.sized are c.args.which c.args.table.now c.place_in-place.result.now c.as_slice.result.now c.is_exact.result
    c.place_in-place.ensures c.as_slice.ensures c.if-place-table.true c.is_exact.ensures

pub returns-else-place-table : goal.returns-else-place-table
returns-else-place-table c = λ image are.
    other-holds image c.args.pieces.now c.requires.sized are c.args.which c.args.table.now c.place_in-place.result.now
    c.place_in-place.ensures c.if-place-table.false c.requires.sector c.requires.writable c.requires.fits c.requires.room
