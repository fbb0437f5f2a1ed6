use Rattle.std.proofs.Common.{◌∙◌}
use Rattle.std.proofs.lemmas.Result.{err_from_is_err_and}
use Rattle.rp_table.proofs.Saying.{here_tells, here_broken, here_refuses, place_sized, read_table, sized_place}
use Rattle.rp_table.proofs.told.said_at.Goals as goal

pub returns-in_err-table-clause-refuses : goal.returns-in_err-table-clause-refuses
returns-in_err-table-clause-refuses c =
    let p = err_from_is_err_and c.from_residual.result c.from_residual.ensures.1 in
    rw (p.1, p.2) (λ image are.
    here_refuses image c.args.pieces.now c.requires.disk.size are c.args.which c.place_in-place.result.now c.as_slice.result.now c.place_in-place.ensures c.as_slice.ensures
    c.decode_copy-answer.result c.decode_copy-answer.ensures.answer c.in_err-table.field-0.0 c.in_err-table.ensures)

pub returns-clause-table : goal.returns-clause-table
returns-clause-table c = λ image are.
    here_tells image c.args.pieces.now c.requires.disk.size are c.args.which c.place_in-place.result.now c.as_slice.result.now c.place_in-place.ensures c.as_slice.ensures
    c.decode_copy-answer.result c.decode_copy-answer.ensures.answer c.in_ok-table.table c.in_ok-table.ensures

pub returns-clause-broken : goal.returns-clause-broken
returns-clause-broken c = λ image are.
    c.broken_entries-broken.ensures ∙ here_broken image c.args.pieces.now c.requires.disk.size are c.args.which c.place_in-place.result.now c.as_slice.result.now
    c.place_in-place.ensures c.as_slice.ensures c.decode_copy-answer.result c.decode_copy-answer.ensures.answer c.in_ok-table.table c.in_ok-table.ensures

pub returns-clause-read : goal.returns-clause-read
returns-clause-read c =
    read_table c.as_slice.result.now c.args.which c.args.pieces.now.sectors c.args.pieces.now.sector c.decode_copy-answer.result c.in_ok-table.table c.requires.disk.size
    (sized_place c.args.pieces.now.sector c.args.pieces.now.sectors c.place_in-place.result.now c.as_slice.result.now (rw (c.place_in-place.ensures) (place_sized c.args.pieces.now c.requires c.args.which)) c.as_slice.ensures)
    c.decode_copy-answer.ensures.answer c.decode_copy-answer.ensures.fits c.in_ok-table.ensures
