-- Blocks of a padded message, and messages that stand one behind another.
use Rattle.std.specs.Prelude.{ℕ, ◌+◌, ◌*◌, ◌/◌, List, take, drop}
use Rattle.sha2.specs.Sha256.{padded_message}

-- how many blocks of 64 bytes the padded message of n bytes has (5.1.1)
abbrev pub padded_blocks : ℕ → ℕ
padded_blocks n = (n + 72) / 64

-- block i of the padded message (5.2.1)
abbrev pub padded_block : ℕ → List ℕ → List ℕ
padded_block i m = take 64 (drop (i * 64) (padded_message m))

-- message k of those of n bytes that stand one behind another
abbrev pub block_of : List ℕ → ℕ → ℕ → List ℕ
block_of bytes n k = take n (drop (k * n) bytes)
