use Rattle.std.proofs.Common.{◌≡◌, Some, None}
use Rattle.std.proofs.lemmas.Result.{err_from_is_err_and}
use Rattle.rp_base.specs.declared.geometry.Which.TheVariants.{Primary, Backup}
use Rattle.rp_gpt.specs.Shown.{told_at, broken_at}
use Rattle.rp_table.proofs.Judging.{by-primary, by-backup, by-neither, by-refused, by-refused_backup, none_told, wide_here}
use Rattle.rp_table.proofs.judge.judged.Goals as goal

pub returns-in_err-table-clause-answer : goal.returns-in_err-table-clause-answer
returns-in_err-table-clause-answer c =
    let p = err_from_is_err_and c.from_residual.result c.from_residual.ensures.1 in
    rw (p.1, p.2) (λ image are. by-refused c.args.pieces.now.sector image c.args.empty c.in_err-table.field-0.0 (c.in_err-table.ensures.refuses image are))

pub returns-in-Some-clause-answer : goal.returns-in-Some-clause-answer
returns-in-Some-clause-answer c = λ image are.
    by-primary c.args.pieces.now.sector image c.args.empty c.in_ok-table.field-0.table c.in-Some.table c.with_table.result (c.in_ok-table.ensures.table image are)
    (let e : c.in_ok-table.field-0.table ≡ Some c.in-Some.table = cc in e) (c.with_table.ensures.answer image are)

pub returns-in_err-table-2-clause-answer : goal.returns-in_err-table-2-clause-answer
returns-in_err-table-2-clause-answer c =
    let p = err_from_is_err_and c.from_residual-in_err-table-2.result c.from_residual-in_err-table-2.ensures.1 in
    rw (p.1, p.2) (λ image are.
    by-refused_backup c.args.pieces.now.sector image c.args.empty (none_told (told_at c.args.pieces.now.sector image Primary) c.in_ok-table.field-0.table (c.in_ok-table.ensures.table image are)
    (let e : c.in_ok-table.field-0.table ≡ None = cc in e))
    c.in_err-table-2.field-0.0 (c.in_err-table-2.ensures.refuses image are))

pub returns-in-Some-table-clause-answer : goal.returns-in-Some-table-clause-answer
returns-in-Some-table-clause-answer c = λ image are.
    by-backup c.args.pieces.now.sector image c.args.empty (none_told (told_at c.args.pieces.now.sector image Primary) c.in_ok-table.field-0.table (c.in_ok-table.ensures.table image are)
    (let e : c.in_ok-table.field-0.table ≡ None = cc in e))
    c.in_ok-table-2.field-0.table c.in-Some-table.table c.wider-wide.result c.with_table-in-Some-table.result (c.in_ok-table-2.ensures.table image are)
    (let e : c.in_ok-table-2.field-0.table ≡ Some c.in-Some-table.table = cc in e)
    (wide_here c.in-Some-table.table.entries c.in_ok-table.field-0.broken c.in_ok-table-2.field-0.broken (broken_at c.args.pieces.now.sector image Primary) (broken_at c.args.pieces.now.sector image Backup) c.wider-wide.result (c.in_ok-table.ensures.broken image are) (c.in_ok-table-2.ensures.broken image are) c.wider-wide.ensures)
    (c.with_table-in-Some-table.ensures.answer image are)

pub returns-clause-answer : goal.returns-clause-answer
returns-clause-answer c = λ image are.
    by-neither c.args.pieces.now.sector image c.args.empty (none_told (told_at c.args.pieces.now.sector image Primary) c.in_ok-table.field-0.table (c.in_ok-table.ensures.table image are)
    (let e : c.in_ok-table.field-0.table ≡ None = cc in e))
    c.wider-wide-2.result c.args.pieces.now.sectors c.without_table.result (none_told (told_at c.args.pieces.now.sector image Backup) c.in_ok-table-2.field-0.table (c.in_ok-table-2.ensures.table image are)
    (let e : c.in_ok-table-2.field-0.table ≡ None = cc in e))
    (wide_here 128 c.in_ok-table.field-0.broken c.in_ok-table-2.field-0.broken (broken_at c.args.pieces.now.sector image Primary) (broken_at c.args.pieces.now.sector image Backup) c.wider-wide-2.result (c.in_ok-table.ensures.broken image are) (c.in_ok-table-2.ensures.broken image are) c.wider-wide-2.ensures)
    (c.without_table.ensures.answer image are)
