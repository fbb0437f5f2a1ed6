use Rattle.std.proofs.Common.{◌≡◌, ℕ, ◌*◌, ◌<◌, eqb, take, find, IfSome}
use Rattle.rp_base.specs.Table.{RowFits}
use Rattle.rp_base.specs.declared.table.Row.{Row}
use Rattle.rp_gpt.specs.Copy.{array_bytes, count_below}
use Rattle.rp_gpt.proofs.encode.write_entries.Given as goal

abbrev pub invariant-loop-slot : goal.invariant-loop-slot
invariant-loop-slot l = record {
  next : l.next ≡ count_below l.table.rows l.slot;
  front : take (128 * l.slot) l.out ≡ array_bytes l.table.sector l.table.rows l.slot;
  fits : (slot : ℕ) → slot < l.slot → IfSome (find (λ (row : Row). eqb row.slot slot) l.table.rows) RowFits;
}
