-- Labels, then fixed identifiers, then derived ones.
use Rattle.std.proofs.Common.{◌≡◌, refl, rules, Err}
use Rattle.rp_ident.specs.Naming.{rows_named}
use Rattle.rp_ident.proofs.naming.name_all.Goals as goal

pub returns-in_err-give_fixed : goal.returns-in_err-give_fixed
unfolding rows_named
returns-in_err-give_fixed c =
    let failed : c.from_residual.result ≡ Err _ = search rules in
    rw (← c.label.ensures, ← c.in_err-give_fixed.ensures.rows, failed) refl

pub returns : goal.returns
unfolding rows_named
returns c = rw (← c.label.ensures, ← c.in_ok-give_fixed.ensures.rows) c.give_derived.ensures
