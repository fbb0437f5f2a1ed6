use Rattle.rp_table.proofs.Judging.{seen-wide, seen-made}
use Rattle.rp_table.proofs.judge.seen_of.Goals as goal

pub returns-in-Some-clause-answer : goal.returns-in-Some-clause-answer
returns-in-Some-clause-answer c = λ image are wide.
    rw (c.from.ensures) (seen-wide image c.args.pieces.now c.requires are c.args.origin c.args.table c.args.primary_same c.args.backup_same c.args.wide c.in-Some.count wide c.in-Some.is)

pub returns-clause-answer : goal.returns-clause-answer
returns-clause-answer c = λ image are wide.
    rw (c.mbr_state.ensures, c.as_slice.ensures, c.sector_units.ensures)
    (seen-made image c.args.pieces.now c.requires are c.args.origin c.args.table c.args.primary_same c.args.backup_same c.args.wide wide c.in_default.is)
