-- CRC-32, the checksum of headers and arrays (UEFI 2.10, 5.3.2; ISO 3309; ITU-T V.42, 8.1.1.6.2). Addition is without carry,
-- which is the exclusive or of the bits.
use Rattle.std.specs.Prelude.{ℕ, ◌/◌, ◌%◌, ◌-◌, ◌^◌, ◌==◌, List, [], ◌∷◌, fold, bit_xor, if◌then◌else◌}
use Rattle.std.specs.Int.{bit_at, bit_not, w32}

-- the generator polynomial of V.42, without its term of degree 32; the highest bit stands for 1
abbrev pub polynomial : ℕ
polynomial = 0xEDB88320

-- the register as it begins: 32 ones
unfoldable pub start : ℕ
start = 2 ^ 32 - 1

-- the register shifted by one, with the polynomial added where a one falls out
unfoldable pub shifted : ℕ → ℕ
shifted register = (if register % 2 == 1 then bit_xor (register / 2) polynomial else register / 2)

-- the register after one more bit, which is added to its lowest bit
unfoldable pub fed_bit : ℕ → ℕ → ℕ
fed_bit register bit = shifted (bit_xor register bit)

-- the bits of a byte, the lowest first
abbrev pub bits_of : ℕ → List ℕ
bits_of byte =
    bit_at byte 0 ∷ bit_at byte 1 ∷ bit_at byte 2 ∷ bit_at byte 3
    ∷ bit_at byte 4 ∷ bit_at byte 5 ∷ bit_at byte 6 ∷ bit_at byte 7 ∷ []

-- the register after one more byte
unfoldable pub fed_byte : ℕ → ℕ → ℕ
fed_byte register byte = fold fed_bit register (bits_of byte)

-- the register after these bytes, one after another
unfoldable pub fed : ℕ → List ℕ → ℕ
fed register bytes = fold fed_byte register bytes

-- the register with each of its 32 bits inverted
unfoldable pub inverted : ℕ → ℕ
inverted register = bit_not w32 register

-- the CRC-32 of a list of bytes
abbrev pub crc : List ℕ → ℕ
crc bytes = inverted (fed start bytes)
