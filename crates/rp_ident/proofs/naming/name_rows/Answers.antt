-- The disk's identifier and the rows.
use Rattle.std.proofs.Common.{◌≡◌, List, length, refl, ap, rules, Err, arith}
use Rattle.rp_base.specs.declared.table.Row.{Row}
use Rattle.rp_ident.specs.Naming.{named}
use Rattle.rp_ident.proofs.NamingLemmas.{rewritten-whole}
use Rattle.rp_ident.proofs.naming.name_rows.Goals as goal

pub returns-in_err-name_all : goal.returns-in_err-name_all
unfolding named
returns-in_err-name_all c =
    let failed : c.from_residual.result ≡ Err _ = search rules in
    let rows = rw c.as_mut_slice.ensures.value at c.in_err-name_all.ensures in
    rw (← rows, failed) refl

pub returns : goal.returns
unfolding named
returns c =
    let new : List Row = c.name_all.new.rows in
    let long : length new ≡ length c.args.table.rows = omega (arith, ap length c.as_mut_slice.ensures.value) in
    let rows = rw c.as_mut_slice.ensures.value at c.in_ok-name_all.ensures in
    let whole = rewritten-whole c.args.table.rows new long in
    rw (← rows, whole, c.disk_id-table.ensures) refl
