-- What a stop may leave of the bytes of a disk: one relation between lists, byte by byte.
use Rattle.std.specs.Prelude.{ℕ, List, [], ◌∷◌, ◌++◌, ◌≡◌, ◌⊎◌, ◌+◌, ◌<◌, ◌≤◌, length, get_or}
use Rattle.rp_disk.specs.declared.call.Call.{Call}
use Rattle.rp_disk.specs.declared.call.Call.TheVariants.{Write, Sync, SetLen}
use Rattle.rp_disk.specs.Calls.{settled, pending}

-- each of the calls has P
abbrev pub Each : (Call → Type 0) → List Call → Type 0
Each P [] = Unit {0}
Each P (call ∷ calls) = P call × Each P calls

-- one of the calls sets this length
abbrev pub SetsLength : List Call → ℕ → Type 0
SetsLength [] len = ⊥
SetsLength (Write at bytes ∷ calls) len = SetsLength calls len
SetsLength (Sync ∷ calls) len = SetsLength calls len
SetsLength (SetLen n ∷ calls) len = (len ≡ n) ⊎ SetsLength calls len

-- the call does not take the end past byte k
abbrev pub EndsBefore : ℕ → Call → Type 0
EndsBefore k (Write at bytes) = Unit {0}
EndsBefore k Sync = Unit {0}
EndsBefore k (SetLen len) = len ≤ k

-- the calls leave byte k alone: no write covers it, and none cuts it off before a later one takes the end past it again
abbrev pub Spares : ℕ → List Call → Type 0
Spares k [] = Unit {0}
Spares k (Write at bytes ∷ calls) = ((k < at) ⊎ (at + length bytes ≤ k)) × Spares k calls
Spares k (Sync ∷ calls) = Spares k calls
Spares k (SetLen len ∷ calls) = ((k < len) ⊎ Each (EndsBefore k) calls) × Spares k calls

-- these bytes are the image but for what the later calls may have changed: any bytes where a write was, and the
-- former length, or one that a call set, with any bytes past a former end
pub record Agrees (image : List ℕ) (later : List Call) (new : List ℕ) : Type 0 where
  pub size : (length new ≡ length image) ⊎ SetsLength later (length new)
  pub kept : (k : ℕ) → k < length image → k < length new → Spares k later → get_or new k 0 ≡ get_or image k 0

-- what a stop may leave of these calls on an image: all up to the last sync is done, and of the calls behind it any part
abbrev pub Leaves : List ℕ → List Call → List ℕ → Type 0
Leaves old calls new = Agrees (settled old calls) (pending calls) new

-- the first of these calls
abbrev pub IsFrontOf : List Call → List Call → Type 0
IsFrontOf made calls = (rest : List Call) × (made ++ rest ≡ calls)
