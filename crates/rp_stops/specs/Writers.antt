-- Calls with writes of others between them: own rules.
use Rattle.std.specs.Prelude.{ℕ, ◌≡◌, List, [], ◌∷◌, Any, if◌then◌else◌, get_or}
use Rattle.rp_base.specs.declared.seen.Seen.{Seen}
use Rattle.rp_disk.specs.declared.call.Call.{Call}
use Rattle.rp_disk.specs.declared.call.Call.TheVariants.{Write}
use Rattle.rp_disk.specs.Calls.{all_done, has_sync}
use Rattle.rp_disk.specs.Ranges.{Misses}
use Rattle.rp_disk.specs.Stops.{Each}
use Rattle.rp_stops.specs.Rows.{IsByteOf, IsInOldRow}

-- a call of ours, or a write of others
pub data Event : Type 0 where
  mine : (call : Call) → Event
  theirs : (at : ℕ) → (bytes : List ℕ) → Event

-- all calls on the disk
abbrev pub calls_of : List Event → List Call
calls_of [] = []
calls_of (mine call ∷ events) = call ∷ calls_of events
calls_of (theirs at bytes ∷ events) = Write at bytes ∷ calls_of events

abbrev pub ours : List Event → List Call
ours [] = []
ours (mine call ∷ events) = call ∷ ours events
ours (theirs at bytes ∷ events) = ours events

abbrev pub others : List Event → List Call
others [] = []
others (mine call ∷ events) = others events
others (theirs at bytes ∷ events) = Write at bytes ∷ others events

-- our calls in their order, and writes of others inside old rows anywhere between them
pub record Interleaves (seen : Seen) (calls : List Call) (events : List Event) : Type 0 where
  pub keeps : ours events ≡ calls
  pub inside : Each (IsInOldRow seen) (others events)

-- the events up to the last sync
abbrev pub before : List Event → List Event
before [] = []
before (event ∷ events) = if has_sync (calls_of (event ∷ events)) then event ∷ before events else []

-- and those behind it
abbrev pub behind : List Event → List Event
behind [] = []
behind (event ∷ events) = if has_sync (calls_of (event ∷ events)) then behind events else event ∷ events

-- each byte of an old row is what the writes of others up to the last sync, done alone, leave there, unless a later one of
-- theirs covers it: they survive as far as they would without us
abbrev pub Survive : List ℕ → Seen → List Event → List ℕ → Type 0
Survive old seen events image =
    (k : ℕ) → Any (λ row. IsByteOf row k) seen.shown.rows → Each (Misses k) (others (behind events))
    → get_or image k 0 ≡ get_or (all_done old (others (before events))) k 0
