-- Bytes as data blocks of 4,096.
use Rattle.std.specs.Prelude.{ℕ, ◌-◌, ◌*◌, List, ◌++◌, length, map, replicate}
use Rattle.std.specs.List.{range_with_len}
use Rattle.rp_base.specs.Image.{bytes_at}

-- bytes with zeros behind them up to so many blocks
abbrev pub filled : ℕ → List ℕ → List ℕ
filled count bytes = bytes ++ replicate (4096 * count - length bytes) 0

-- bytes cut into so many blocks
abbrev pub cut : ℕ → List ℕ → List (List ℕ)
cut count bytes = map (λ k. bytes_at bytes (4096 * k) 4096) (range_with_len 0 count)
