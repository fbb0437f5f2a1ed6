use Rattle.std.proofs.Common.{◌≡◌, ℕ, List, take, take_all, refl, sym, ap, ◌∙◌, arith}
use Rattle.std.specs.Prelude.{find, map, option_map}
use Rattle.std.specs.Borrow.{Bor}
use Rattle.rp_types.specs.declared.arch.Arch.{Arch}
use Rattle.rp_types.specs.declared.table.PartitionType.{PartitionType}
use Rattle.rp_types.specs.Table.{types}
use Rattle.rp_types.specs.Types.{by_name, is_called, as_listed}
use Rattle.rp_types.proofs.Finding.{find_more, find_here, find-map}
use Rattle.rp_types.proofs.TypeLemmas.{by_name-used}
use Rattle.rp_types.proofs.names.by_name.Goals as goal

-- the search in the table is the search in what it lends
in_table : (name : List ℕ) (arch : Arch) (lent : List (Bor (List ℕ) × PartitionType)) → map as_listed lent ≡ types
    → find (is_called name arch) types ≡ option_map as_listed (find (λ entry. is_called name arch (as_listed entry)) lent)
in_table name arch lent e = ap (find (is_called name arch)) (sym e) ∙ find-map as_listed (is_called name arch) lent

pub loop-own-init : goal.loop-own-init
loop-own-init c = refl

pub loop-own-preserved : goal.loop-own-preserved
loop-own-preserved c =
    find_more (λ entry. is_called c.args.name.now c.args.arch (as_listed entry)) c.types-own-items.result.now c.loop-own.own-index _
    c.loop-own-test.true c.loop-own.invariant (sym c.if-is_called.ensures)

pub returns-then-is_called : goal.returns-then-is_called
unfolding by_name
returns-then-is_called c =
    let lent = c.types-own-items.result.now in
    let here = find_here (λ entry. is_called c.args.name.now c.args.arch (as_listed entry)) lent c.loop-own.own-index _
    c.loop-own-test.true c.loop-own.invariant (sym c.if-is_called.ensures) in
    let found = in_table c.args.name.now c.args.arch lent c.types-own-items.ensures.entries ∙ ap (option_map as_listed) here in
    record {
      value = sym (ap (option_map (λ entry. entry.1.kind)) found);
      used = by_name-used c.args.name.now c.args.arch _ found;
    }

pub returns : goal.returns
unfolding by_name
returns c =
    let lent = c.types-own-items.result.now in
    let whole : take c.loop-own.own-index lent ≡ lent = take_all _ _ (omega arith) in
    let none = in_table c.args.name.now c.args.arch lent c.types-own-items.ensures.entries
    ∙ ap (λ l. option_map as_listed (find (λ entry. is_called c.args.name.now c.args.arch (as_listed entry)) l)) (sym whole)
    ∙ ap (option_map as_listed) c.loop-own.invariant in
    record { value = sym (ap (option_map (λ entry. entry.1.kind)) none); used = tt }
