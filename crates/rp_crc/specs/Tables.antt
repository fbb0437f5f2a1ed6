-- What the tables of the code hold.
use Rattle.std.specs.Prelude.{ℕ, zero, suc, ◌+◌, ◌*◌, List, map}
use Rattle.std.specs.List.{range_with_len}
use Rattle.rp_crc.specs.Crc.{shifted}

-- the register shifted n times
unfoldable pub shifts : ℕ → ℕ → ℕ
shifts zero register = register
shifts (suc n) register = shifts n (shifted register)

-- each byte, shifted k + 1 times by 8
unfoldable pub shifted_bytes : ℕ → List ℕ
shifted_bytes k = map (λ byte. shifts (8 * (k + 1)) byte) (range_with_len 0 256)

-- these for each k below 8
unfoldable pub shifted_tables : List (List ℕ)
shifted_tables = map shifted_bytes (range_with_len 0 8)
