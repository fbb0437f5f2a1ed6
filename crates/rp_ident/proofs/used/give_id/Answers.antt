-- The write changes the row at the place.
use Rattle.rp_base.specs.declared.table.Row.{Row}
use Rattle.rp_ident.proofs.NamingLemmas.{changed-set}
use Rattle.rp_ident.proofs.used.give_id.Goals as goal

pub returns : goal.returns
returns c = changed-set (λ (row : Row). record row { id = c.args.id }) c.args.rows.now c.args.place _ c.requires
