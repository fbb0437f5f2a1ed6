use Rattle.rp_outcome.proofs.Printed.{differs_as}
use Rattle.rp_check_command.proofs.Printed.{line_data, line_hash, line_superblock, line_top}
use Rattle.rp_check_command.proofs.printing.tell_bad.Goals as goal

pub returns-in-Superblock : goal.returns-in-Superblock
returns-in-Superblock g c =
    rw c.in-Superblock.is (differs_as _ _ _ _ _ (line_superblock c.args.designator c.name-name.result.now c.name-name.ensures) c.differ.ensures)

pub returns-in-Top : goal.returns-in-Top
returns-in-Top g c =
    rw c.in-Top.is (differs_as _ _ _ _ _ (line_top c.args.designator c.name-name.result.now c.name-name.ensures) c.differ-in-Top.ensures)

pub returns-in-Hash : goal.returns-in-Hash
returns-in-Hash g c =
    rw c.in-Hash.is (differs_as _ _ _ _ _
    (line_hash c.args.designator c.name-name.result.now c.name-name.ensures c.in-Hash.block c.format-number.result.now c.format-number.ensures.text)
    c.differ-in-Hash.ensures)

pub returns-in-Data : goal.returns-in-Data
returns-in-Data g c =
    rw c.in-Data.is (differs_as _ _ _ _ _
    (line_data c.args.designator c.name-name.result.now c.name-name.ensures c.in-Data.block c.format-number-in-Data.result.now
    c.format-number-in-Data.ensures.text)
    c.differ-in-Data.ensures)
