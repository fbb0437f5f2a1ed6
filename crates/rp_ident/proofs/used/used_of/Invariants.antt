-- The identifiers of the rows so far.
use Rattle.std.proofs.Common.{◌≡◌, ◌≢◌, ◌==◌, ℕ, true, take}
use Rattle.std.specs.Prelude.{All}
use Rattle.std.specs.List.{list_any}
use Rattle.rp_ident.specs.Kept.{IsId, IsRising, number}
use Rattle.rp_ident.proofs.used.used_of.Given as goal

abbrev pub invariant-loop-row : goal.invariant-loop-row
invariant-loop-row l = record {
  rising : IsRising l.used.numbers.items;
  found : l.used.whole ≡ true → (n : ℕ) → n ≢ 0
      → list_any (λ m. m == n) l.used.numbers.items ≡ list_any (λ row. number row.id == n) (take l.row-index l.rows);
  ids : All (λ row. IsId row.id) (take l.row-index l.rows);
}
