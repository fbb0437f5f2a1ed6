-- Torn headers that don't pass their checksum by chance: an own rule.
use Rattle.std.specs.Prelude.{ℕ, ◌⊎◌, List}
use Rattle.rp_base.specs.Image.{sectors_of}
use Rattle.rp_base.specs.declared.geometry.Which.{Which}
use Rattle.rp_disk.specs.declared.call.Call.{Call}
use Rattle.rp_disk.specs.Calls.{pending}
use Rattle.rp_disk.specs.Stops.{SetsLength}
use Rattle.rp_gpt.specs.Shown.{IsTold, told_at}
use Rattle.rp_stops.specs.Order.{header_offset}
use Rattle.rp_stops.specs.Sectors.{IsAsAfterSome}

-- one of the calls changes the length
abbrev pub SetsSomeLength : List Call → Type 0
SetsSomeLength calls = (len : ℕ) × SetsLength calls len

-- a change of length is among the calls behind the last sync, or the header of each place that tells a table or a refusal is
-- as it is after the calls up to that sync and some of those behind it
abbrev pub IsTornHonest : ℕ → List ℕ → List Call → List ℕ → Type 0
IsTornHonest sector old calls image =
    SetsSomeLength (pending calls)
    ⊎ ((which : Which) → IsTold (told_at sector image which)
    → IsAsAfterSome old calls image (header_offset sector (sectors_of sector image) which) sector)
