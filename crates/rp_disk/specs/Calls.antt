-- What calls make of the bytes of a disk: lists alone.
use Rattle.std.specs.Prelude.{ℕ, List, [], ◌∷◌, ◌++◌, ◌+◌, ◌-◌, ◌||◌, ◌≤◌, Bool, true, false, take, drop, length, replicate, if◌then◌else◌}
use Rattle.rp_disk.specs.declared.call.Call.{Call}
use Rattle.rp_disk.specs.declared.call.Call.TheVariants.{Write, Sync, SetLen}

-- the bytes with these in the place of those at an offset
abbrev pub overwritten : List ℕ → ℕ → List ℕ → List ℕ
overwritten image at bytes = take at image ++ (bytes ++ drop (at + length bytes) image)

-- the bytes cut, or filled up with zeros, to a length
abbrev pub resized : List ℕ → ℕ → List ℕ
resized image len = take len image ++ replicate (len - length image) 0

-- the bytes after a call that was done whole
abbrev pub done : List ℕ → Call → List ℕ
done image (Write at bytes) = overwritten image at bytes
done image Sync = image
done image (SetLen len) = resized image len

-- the bytes after calls that were done whole, the first of them first
abbrev pub all_done : List ℕ → List Call → List ℕ
all_done image [] = image
all_done image (call ∷ calls) = all_done (done image call) calls

-- the call is within an image of this length: a write lies inside it
abbrev pub IsWithin : ℕ → Call → Type 0
IsWithin len (Write at bytes) = at + length bytes ≤ len
IsWithin len Sync = Unit {0}
IsWithin len (SetLen n) = Unit {0}

abbrev pub is_write : Call → Bool
is_write (Write at bytes) = true
is_write Sync = false
is_write (SetLen len) = false

abbrev pub is_sync : Call → Bool
is_sync (Write at bytes) = false
is_sync Sync = true
is_sync (SetLen len) = false

abbrev pub has_sync : List Call → Bool
has_sync [] = false
has_sync (call ∷ calls) = is_sync call || has_sync calls

-- the bytes after all calls up to the last sync
abbrev pub settled : List ℕ → List Call → List ℕ
settled old [] = old
settled old (call ∷ calls) = if has_sync (call ∷ calls) then settled (done old call) calls else old

-- the calls behind the last sync
abbrev pub pending : List Call → List Call
pending [] = []
pending (call ∷ calls) = if has_sync (call ∷ calls) then pending calls else call ∷ calls
