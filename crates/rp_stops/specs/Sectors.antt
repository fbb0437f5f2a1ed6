-- What is as it was at some moment, and disks that write each sector whole or not at all: own rules.
use Rattle.std.specs.Prelude.{ℕ, ◌≡◌, ◌+◌, ◌*◌, ◌≤◌, ◌<◌, List, Any, length}
use Rattle.rp_base.specs.Image.{bytes_at}
use Rattle.rp_disk.specs.declared.call.Call.{Call}
use Rattle.rp_disk.specs.declared.call.Call.TheVariants.{Write, Sync, SetLen}
use Rattle.rp_disk.specs.Calls.{all_done, pending, settled}
use Rattle.rp_disk.specs.Stops.{IsFrontOf}

-- so many bytes of an image from an offset on are as they are after the calls up to the last sync and the first of those
-- behind it, done whole
abbrev pub IsAsAfterSome : List ℕ → List Call → List ℕ → ℕ → ℕ → Type 0
IsAsAfterSome old calls image from count =
    (more : List Call) × IsFrontOf more (pending calls)
    × (bytes_at image from count ≡ bytes_at (all_done (settled old calls) more) from count)

-- the call writes the byte
abbrev pub Covers : ℕ → Call → Type 0
Covers k (Write at bytes) = (at ≤ k) × (k < at + length bytes)
Covers k Sync = ⊥
Covers k (SetLen len) = ⊥

-- the call writes a byte of the sector of this number
abbrev pub WritesSector : ℕ → ℕ → Call → Type 0
WritesSector sector number call = (k : ℕ) × (sector * number ≤ k) × (k < sector * number + sector) × Covers k call

-- each sector that a call behind the last sync writes is as it is after some of these calls
abbrev pub HasWholeSectors : ℕ → List ℕ → List Call → List ℕ → Type 0
HasWholeSectors sector old calls image =
    (number : ℕ) → Any (WritesSector sector number) (pending calls) → IsAsAfterSome old calls image (sector * number) sector
