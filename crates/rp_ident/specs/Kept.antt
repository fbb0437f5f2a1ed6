-- The identifiers of rows as numbers in order: serves this crate's proofs.
use Rattle.std.specs.Prelude.{ℕ, ◌≡◌, ◌≢◌, ◌<◌, ◌≤◌, ◌==◌, true, List, length, slice_index, map, All}
use Rattle.std.specs.List.{list_any}
use Rattle.std.specs.Int.{w128, from_le_bytes}
use Rattle.rp_base.specs.declared.guid.Guid.{Guid}
use Rattle.rp_base.specs.declared.table.Row.{Row}
use Rattle.rp_ident.specs.declared.used.Used.{Used}

-- an identifier has 16 bytes
pub record IsId (id : Guid) : Type 0 where
  pub len : length id.0 ≡ 16
  pub bytes : (i : ℕ) → slice_index id.0 i < 256

-- an identifier as a number
unfoldable pub number : Guid → ℕ
number id = from_le_bytes w128 id.0

-- numbers don't fall
abbrev pub IsRising : List ℕ → Type 0
IsRising numbers = (i j : ℕ) → i ≤ j → j < length numbers → slice_index numbers i ≤ slice_index numbers j

-- a number can be put here: none before is greater, and none from here on is less
pub record IsPlaceFor (numbers : List ℕ) (number place : ℕ) : Type 0 where
  pub before : (k : ℕ) → k < place → slice_index numbers k ≤ number
  pub behind : (k : ℕ) → place ≤ k → k < length numbers → number ≤ slice_index numbers k

-- the numbers of the rows' identifiers that aren't zero are kept in order, while they are whole
pub record AreKept (rows : List Row) (used : Used) : Type 0 where
  pub rising : IsRising used.numbers.items
  pub found : used.whole ≡ true → (n : ℕ) → n ≢ 0
      → list_any (λ m. m == n) used.numbers.items ≡ list_any (λ row. number row.id == n) rows
  pub ids : used.whole ≡ true → All (λ row. IsId row.id) rows
