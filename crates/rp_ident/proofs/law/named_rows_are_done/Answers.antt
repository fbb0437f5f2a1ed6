-- Each named row got what it had not.
use Rattle.std.proofs.Common.{◌≡◌, ap}
use Rattle.rp_base.specs.declared.guid.Guid.{Guid}
use Rattle.rp_base.specs.declared.table.Table.{Table}
use Rattle.rp_ident.specs.Naming.{disk_id}
use Rattle.rp_ident.proofs.ApartLemmas.{disk-some, named-done}
use Rattle.rp_ident.proofs.LawLemmas.{named-rows}
use Rattle.rp_ident.proofs.law.named_rows_are_done.Goals as goal

pub returns-clause-rows : goal.returns-clause-rows
returns-clause-rows c table after namings seed some done =
    named-done table.rows namings seed after.rows some (named-rows table after namings seed done).0

pub returns-clause-disk : goal.returns-clause-disk
returns-clause-disk c table after namings seed done =
    let disk : after.disk ≡ disk_id seed table.disk = ap (λ (t : Table). t.disk) (named-rows table after namings seed done).1 in
    rw disk (disk-some seed table.disk)
