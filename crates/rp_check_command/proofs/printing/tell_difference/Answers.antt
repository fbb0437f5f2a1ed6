use Rattle.rp_outcome.proofs.Printed.{differs_as}
use Rattle.rp_check_command.proofs.Printed.{line_backup, line_mbr, line_primary, line_row, line_table}
use Rattle.rp_check_command.proofs.printing.tell_difference.Goals as goal

pub returns-in-Primary : goal.returns-in-Primary
returns-in-Primary g c = rw c.in-Primary.is (differs_as _ _ _ _ _ line_primary c.differ.ensures)

pub returns-in-Backup : goal.returns-in-Backup
returns-in-Backup g c = rw c.in-Backup.is (differs_as _ _ _ _ _ line_backup c.differ-in-Backup.ensures)

pub returns-in-Mbr : goal.returns-in-Mbr
returns-in-Mbr g c = rw c.in-Mbr.is (differs_as _ _ _ _ _ line_mbr c.differ-in-Mbr.ensures)

pub returns-in-Table : goal.returns-in-Table
returns-in-Table g c = rw c.in-Table.is (differs_as _ _ _ _ _ line_table c.differ-in-Table.ensures)

pub returns-in-Row : goal.returns-in-Row
returns-in-Row g c =
    rw c.in-Row.is (differs_as _ _ _ _ _
    (line_row c.in-Row.slot c.format-number.result.now (rw c.from.ensures at c.format-number.ensures.text)) c.differ-in-Row.ensures)
