-- The bytes of the source that is made from a number: those of a linear congruential generator (Knuth, The Art of Computer
-- Programming 2, 3.3.4: the multiplier and the increment of MMIX).
use Rattle.std.specs.Prelude.{ℕ, zero, suc, ◌+◌, ◌*◌, ◌/◌, ◌%◌, ◌^◌, List, [], ◌∷◌}

-- the state behind a state
abbrev pub next : ℕ → ℕ
next state = (state * 6364136223846793005 + 1442695040888963407) % 2 ^ 64

-- its highest 8 bits
abbrev pub top_byte : ℕ → ℕ
top_byte state = state / 2 ^ 56

-- so many bytes, one of each state behind this one
unfoldable pub bytes_behind : ℕ → ℕ → List ℕ
bytes_behind zero state = []
bytes_behind (suc count) state = top_byte (next state) ∷ bytes_behind count (next state)

-- the source of a number: 4,096 bytes for each unit of it, and 17 more, by the generator that begins with it
abbrev pub source_bytes : ℕ → List ℕ
source_bytes number = bytes_behind (4096 * number + 17) number
