-- Each step keeps what was there.
use Rattle.std.proofs.Common.{◌≡◌, ap, sym, ◌∙◌}
use Rattle.rp_base.specs.declared.guid.Guid.{Guid}
use Rattle.rp_base.specs.declared.table.Table.{Table}
use Rattle.rp_ident.specs.Naming.{disk_id}
use Rattle.rp_ident.proofs.ApartLemmas.{disk-same, named-others, named-stay}
use Rattle.rp_ident.proofs.LawLemmas.{named-rows}
use Rattle.rp_ident.proofs.law.named_tables_stay.Goals as goal

pub returns-clause-rows : goal.returns-clause-rows
returns-clause-rows c table after namings seed done =
    named-stay table.rows namings seed after.rows (named-rows table after namings seed done).0

pub returns-clause-others : goal.returns-clause-others
returns-clause-others c table after namings seed place others done =
    named-others table.rows namings seed after.rows place others (named-rows table after namings seed done).0

pub returns-clause-disk : goal.returns-clause-disk
returns-clause-disk c table after namings seed some done =
    let disk : after.disk ≡ disk_id seed table.disk = ap (λ (t : Table). t.disk) (named-rows table after namings seed done).1 in
    disk ∙ disk-same seed table.disk some

pub returns-clause-rest : goal.returns-clause-rest
returns-clause-rest c table after namings seed done =
    let whole = (named-rows table after namings seed done).1 in
    let disk : after.disk ≡ disk_id seed table.disk = ap (λ (t : Table). t.disk) whole in
    whole ∙ ap (λ (id : Guid). record table { disk = id; rows = after.rows }) (sym disk)
