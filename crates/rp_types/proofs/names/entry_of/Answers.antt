use Rattle.std.proofs.Common.{◌≡◌, ℕ, List, take, take_all, refl, sym, ap, ◌∙◌, arith}
use Rattle.std.specs.Prelude.{find, map, option_map}
use Rattle.std.specs.Borrow.{Bor}
use Rattle.std.specs.Str.{bytes_eq}
use Rattle.rp_base.specs.declared.guid.Guid.{Guid}
use Rattle.rp_types.specs.declared.table.PartitionType.{PartitionType}
use Rattle.rp_types.specs.Table.{types}
use Rattle.rp_types.specs.Types.{entry_of, as_listed}
use Rattle.rp_types.proofs.Finding.{find_more, find_here, find-map}
use Rattle.rp_types.proofs.names.entry_of.Goals as goal

pub loop-entry-init : goal.loop-entry-init
loop-entry-init c = refl

pub loop-entry-preserved : goal.loop-entry-preserved
loop-entry-preserved c =
    find_more (λ entry. bytes_eq entry.1.kind.0 c.args.kind.0) c.types-entry-items.result.now c.loop-entry.entry-index _ c.loop-entry-test.true
    c.loop-entry.invariant (sym c.if-eq.ensures)

-- the search in the table is the search in what it lends
in_table : (kind : Guid) (lent : List (Bor (List ℕ) × PartitionType)) → map as_listed lent ≡ types
    → entry_of kind ≡ option_map as_listed (find (λ entry. bytes_eq entry.1.kind.0 kind.0) lent)
unfolding entry_of
in_table kind lent e =
    ap (find (λ entry. bytes_eq entry.1.kind.0 kind.0)) (sym e)
    ∙ find-map as_listed (λ entry. bytes_eq entry.1.kind.0 kind.0) lent

pub returns-then-eq : goal.returns-then-eq
returns-then-eq c =
    let lent = c.types-entry-items.result.now in
    let here = find_here (λ entry. bytes_eq entry.1.kind.0 c.args.kind.0) lent c.loop-entry.entry-index _
    c.loop-entry-test.true c.loop-entry.invariant (sym c.if-eq.ensures) in
    sym (in_table c.args.kind lent c.types-entry-items.ensures.entries ∙ ap (option_map as_listed) here)

pub returns : goal.returns
returns c =
    let lent = c.types-entry-items.result.now in
    let whole : take c.loop-entry.entry-index lent ≡ lent = take_all _ _ (omega arith) in
    sym (in_table c.args.kind lent c.types-entry-items.ensures.entries
    ∙ ap (λ l. option_map as_listed (find (λ entry. bytes_eq entry.1.kind.0 c.args.kind.0) l)) (sym whole)
    ∙ ap (option_map as_listed) c.loop-entry.invariant)
