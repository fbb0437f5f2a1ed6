use Rattle.std.proofs.Common.{◌∙◌, ◌≤◌, length}
use Rattle.rp_disk.specs.History.{held}
use Rattle.rp_disk.specs.Made.{history_of}
use Rattle.rp_disk.proofs.Noting.{can_before, earlier_then}
use Rattle.rp_table.proofs.Reading.{disk_holds}
use Rattle.rp_table.proofs.image.read_pieces.Goals as goal

pub returns-in_err-first-clause-inside : goal.returns-in_err-first-clause-inside
returns-in_err-first-clause-inside g c = λ past is. c.read_range.ensures.inside past (rw is (disk_holds c.args.sector c.args.sectors c.requires))

pub returns-in_err-primary-clause-inside : goal.returns-in_err-primary-clause-inside
returns-in_err-primary-clause-inside g c = λ past is.
    c.read_place.ensures.inside past (rw (c.read_range.ensures.calls) is)
    ∙ c.read_range.ensures.inside past (rw is (disk_holds c.args.sector c.args.sectors c.requires))

pub returns-in_err-backup-clause-inside : goal.returns-in_err-backup-clause-inside
returns-in_err-backup-clause-inside g c = λ past is.
    c.read_place-2.ensures.inside past (rw (c.read_place.ensures.calls, c.read_range.ensures.calls) is)
    ∙ c.read_place.ensures.inside past (rw (c.read_range.ensures.calls) is)
    ∙ c.read_range.ensures.inside past (rw is (disk_holds c.args.sector c.args.sectors c.requires))

pub returns-clause-inside : goal.returns-clause-inside
returns-clause-inside g c = λ past is.
    c.read_place-2.ensures.inside past (rw (c.read_place.ensures.calls, c.read_range.ensures.calls) is)
    ∙ c.read_place.ensures.inside past (rw (c.read_range.ensures.calls) is)
    ∙ c.read_range.ensures.inside past (rw is (disk_holds c.args.sector c.args.sectors c.requires))

pub returns-clause-pieces : goal.returns-clause-pieces
returns-clause-pieces g c = λ past can len.
    let behind_primary = c.in_ok-backup.ensures.earlier in
    record {
      len = len;
      first = c.in_ok-first.ensures.bytes past (can_before (earlier_then c.in_ok-primary.ensures.earlier behind_primary) can);
      primary = (rw (c.read_range.ensures.calls) at (c.in_ok-primary.ensures.place past (can_before behind_primary can))) len;
      backup = (rw (c.read_place.ensures.calls, c.read_range.ensures.calls) at (c.in_ok-backup.ensures.place past can)) len;
    }
