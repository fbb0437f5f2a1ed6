-- The write changes the row at the place, or leaves it.
use Rattle.std.proofs.Common.{◌≡◌, ◌==◌, ℕ, List, [], get_or, set, if◌then◌else◌, refl, eq-eqb, sym, ◌∙◌, ap}
use Rattle.std.proofs.lemmas.Bool.{ne_eqb}
use Rattle.rp_base.specs.declared.table.Row.{Row}
use Rattle.rp_ident.proofs.NamingLemmas.{changed-set}
use Rattle.rp_ident.proofs.naming.label_one.Goals as goal

pub returns-then-row-eq0 : goal.returns-then-row-eq0
returns-then-row-eq0 c =
    let rows : List Row = c.args.rows.now in
    let place : ℕ = c.args.naming.now.row in
    let label : List ℕ = c.args.naming.now.label in
    let none : Row = record { slot = 0; kind = record { 0 = [] }; id = record { 0 = [] }; start = 0; size = 0; attrs = 0; name = [] } in
    let row : Row = get_or rows place none in
    let f : Row → Row = λ row. if get_or row.name 0 0 == 0 then record row { name = label } else row in
    let same : f row ≡ record row { name = label } = rw (eq-eqb (get_or row.name 0 0) 0 c.if-row-eq0.true) refl in
    ap (λ (r : Row). set rows place r) (sym same) ∙ changed-set f rows place none c.requires

pub returns-else-row-eq0 : goal.returns-else-row-eq0
returns-else-row-eq0 c =
    let rows : List Row = c.args.rows.now in
    let place : ℕ = c.args.naming.now.row in
    let label : List ℕ = c.args.naming.now.label in
    let none : Row = record { slot = 0; kind = record { 0 = [] }; id = record { 0 = [] }; start = 0; size = 0; attrs = 0; name = [] } in
    let row : Row = get_or rows place none in
    let f : Row → Row = λ row. if get_or row.name 0 0 == 0 then record row { name = label } else row in
    let same : f row ≡ row = rw (ne_eqb (get_or row.name 0 0) 0 c.if-row-eq0.false) refl in
    ap (λ (r : Row). set rows place r) (sym same) ∙ changed-set f rows place none c.requires
