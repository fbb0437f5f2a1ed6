-- What a disk tells of itself: its history, and what that means.
use Rattle.std.specs.Prelude.{ℕ, List, [], ◌∷◌, ◌++◌, ◌≡◌, ◌⊎◌, ◌+◌, ◌≤◌, length, nat_le, if◌then◌else◌}
use Rattle.rp_disk.specs.declared.call.Call.{Call}
use Rattle.rp_disk.specs.Calls.{done, is_sync, IsWithin}
use Rattle.rp_disk.specs.Stops.{Agrees}

-- the bytes that it had at first; after a history, one more changing call, which was done whole; or one that failed,
-- and the bytes shown then
pub data History : Type 0 where
  Start : (bytes : List ℕ) → History
  Did : (before : History) → (call : Call) → History
  Failed : (before : History) → (call : Call) → (after : List ℕ) → History

-- the bytes that it holds: those that a read gives
abbrev pub held : History → List ℕ
held (Start bytes) = bytes
held (Did before call) = done (held before) call
held (Failed before call after) = after

-- the moment, as the number of changing calls so far
abbrev pub moment : History → ℕ
moment (Start bytes) = 0
moment (Did before call) = moment before + 1
moment (Failed before call after) = moment before + 1

-- the bytes shown at the last sync that answered Ok, or at first
abbrev pub settled_bytes : History → List ℕ
settled_bytes (Start bytes) = bytes
settled_bytes (Did before call) = if is_sync call then held before else settled_bytes before
settled_bytes (Failed before call after) = settled_bytes before

-- calls and one that failed: a sync that failed makes nothing certain, and is left out
abbrev pub and_failed : List Call → Call → List Call
and_failed calls call = if is_sync call then calls else calls ++ call ∷ []

-- the calls since then, those that failed too, but syncs
abbrev pub pending_calls : History → List Call
pending_calls (Start bytes) = []
pending_calls (Did before call) = if is_sync call then [] else pending_calls before ++ call ∷ []
pending_calls (Failed before call after) = and_failed (pending_calls before) call

-- what a stop now may leave
abbrev pub MayLeave : History → List ℕ → Type 0
MayLeave history image = Agrees (settled_bytes history) (pending_calls history) image

-- nothing is pending, so a stop leaves the bytes shown
pub record IsSettled (history : History) : Type 0 where
  pub calls : pending_calls history ≡ []
  pub bytes : settled_bytes history ≡ held history

-- the calls that were made since a moment, without a sync that failed
abbrev pub made_since : History → ℕ → List Call
made_since (Start bytes) since = []
made_since (Did before call) since = if nat_le since (moment before) then made_since before since ++ call ∷ [] else []
made_since (Failed before call after) since = if nat_le since (moment before) then and_failed (made_since before since) call else []

-- a stop now may leave the image, and these are the calls since the moment
abbrev pub LeftNow : History → ℕ → List Call → List ℕ → Type 0
LeftNow history since made image = (made ≡ made_since history since) × MayLeave history image

-- these calls had been made since the moment, and a stop then, in the midst of the last of them too, might have left the image
abbrev pub LeftSince : History → ℕ → List Call → List ℕ → Type 0
LeftSince (Start bytes) since made image = (made ≡ []) × MayLeave (Start bytes) image
LeftSince (Did before call) since made image = LeftNow (Did before call) since made image
    ⊎ ((since ≤ moment before) × LeftSince before since made image)
LeftSince (Failed before call after) since made image = LeftNow (Failed before call after) since made image
    ⊎ ((since ≤ moment before) × LeftSince before since made image)

-- the history with one more call that was done whole
abbrev pub did : History → Call → History
did history call = Did history call

-- the history with more calls, all done whole
abbrev pub all_did : History → List Call → History
all_did history [] = history
all_did history (call ∷ calls) = all_did (Did history call) calls

-- each call that was done whole lay within the bytes shown, and each that failed left what a stop may leave of it
abbrev pub IsLawful : History → Type 0
IsLawful (Start bytes) = Unit {0}
IsLawful (Did before call) = IsLawful before × IsWithin (length (held before)) call
IsLawful (Failed before call after) = IsLawful before × Agrees (held before) (call ∷ []) after
