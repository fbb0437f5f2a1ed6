-- What was tried stays tried, and the identifier that is given is some row's from now on.
use Rattle.std.proofs.Common.{◌≡◌, ℕ, List, true, false, refl}
use Rattle.std.specs.Prelude.{not}
use Rattle.rp_base.specs.declared.table.Row.{Row}
use Rattle.rp_ident.specs.Naming.{waits}
use Rattle.rp_ident.proofs.KeptLemmas.{not-false}
use Rattle.rp_ident.proofs.TriedLemmas.{tried-given, tried-more}
use Rattle.rp_ident.proofs.given.derive_one.Goals as goal

pub returns-clause-tried : goal.returns-clause-tried
returns-clause-tried c =
    let rows : List Row = c.args.rows.now in
    let place : ℕ = c.args.naming.now.row in
    let waiting : waits rows place ≡ true = not-false _ (rw (← c.waits.ensures, c.if-not-waits.false) refl) in
    c.note.ensures c.args.seed c.give.new.rows
    (rw c.give.ensures.rows (tried-given c.args.seed rows place c.derived.result c.args.tried.now waiting c.requires.tried))
    (rw c.give.ensures.rows
    (tried-more c.args.seed rows place c.derived.result c.kind_of-kind.result c.in-Some.number waiting c.derived.ensures.value
    c.in-Some.ensures.few c.in-Some.ensures.tried))
