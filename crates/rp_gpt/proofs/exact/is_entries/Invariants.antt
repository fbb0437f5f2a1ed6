use Rattle.std.proofs.Common.{◌≡◌, ◌*◌, take}
use Rattle.rp_gpt.specs.Copy.{array_bytes, count_below}
use Rattle.rp_gpt.proofs.exact.is_entries.Given as goal

abbrev pub invariant-loop-slot : goal.invariant-loop-slot
invariant-loop-slot l = record {
  next : l.next ≡ count_below l.table.rows l.slot;
  front : take (128 * l.slot) l.entries ≡ array_bytes l.table.sector l.table.rows l.slot;
}
