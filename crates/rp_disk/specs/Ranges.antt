-- Calls that leave bytes alone.
use Rattle.std.specs.Prelude.{ℕ, ◌⊎◌, ◌+◌, ◌<◌, ◌≤◌, length}
use Rattle.rp_disk.specs.declared.call.Call.{Call}
use Rattle.rp_disk.specs.declared.call.Call.TheVariants.{Write, Sync, SetLen}

-- the call leaves byte k alone: a write misses it, and a length that is set lies behind it
abbrev pub Misses : ℕ → Call → Type 0
Misses k (Write at bytes) = (k < at) ⊎ (at + length bytes ≤ k)
Misses k Sync = Unit {0}
Misses k (SetLen len) = k < len

-- the call leaves the range alone
abbrev pub Apart : ℕ → ℕ → Call → Type 0
Apart from size (Write at bytes) = (from + size ≤ at) ⊎ (at + length bytes ≤ from)
Apart from size Sync = Unit {0}
Apart from size (SetLen len) = from + size ≤ len

-- a write inside an image of this length, or a sync
abbrev pub Inside : ℕ → Call → Type 0
Inside size (Write at bytes) = at + length bytes ≤ size
Inside size Sync = Unit {0}
Inside size (SetLen len) = ⊥
