-- HMAC over SHA-256 (RFC 2104, FIPS 180-4), on lists of bytes.
use Rattle.std.specs.Prelude.{ℕ, ◌-◌, List, ◌++◌, length, map, replicate, bit_xor}
use Rattle.sha2.specs.Sha256.{sha256}

-- the bytes of a block of SHA-256 (FIPS 180-4, 1)
abbrev pub block_size : ℕ
block_size = 64

-- the key, filled up with zeros to a block, with each byte changed by the pad's (RFC 2104, 2, steps 1, 2 and 5)
unfoldable pub padded : List ℕ → ℕ → List ℕ
padded key pad = map (λ byte. bit_xor byte pad) (key ++ replicate (block_size - length key) 0)

-- HMAC-SHA-256 of a message, with a key of at most a block (RFC 2104, 2)
unfoldable pub hmac : List ℕ → List ℕ → List ℕ
hmac key message = sha256 (padded key 0x5c ++ sha256 (padded key 0x36 ++ message))
