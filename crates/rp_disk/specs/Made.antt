-- What a disk was asked to change, each call with its answer, and what it may have held.
use Rattle.std.specs.Prelude.{ℕ, List, [], ◌∷◌, ◌++◌, ◌≡◌, ◌⊎◌, ◌+◌, map, Option, Some, None, Result, OnOk, OnErr}
use Rattle.rp_disk.specs.declared.call.Call.{Call}
use Rattle.rp_disk.specs.History.{History, Start, Did, Failed, held, moment}

-- a call that was done whole; or one that failed, of which the answer doesn't say what it left
pub data Made : Type 0 where
  Done : (call : Call) → Made
  Broke : (call : Call) → Made

-- the call alone
abbrev pub asked : Made → Call
asked (Done call) = call
asked (Broke call) = call

-- calls that were all done whole
abbrev pub dones : List Call → List Made
dones calls = map Done calls

-- how many of the calls were done whole
abbrev pub count_done : List Made → ℕ
count_done [] = 0
count_done (Done call ∷ made) = count_done made + 1
count_done (Broke call ∷ made) = count_done made

-- what a disk may have held: its bytes at first, and what its changing calls left where they failed: by the moment, as the
-- number of changing calls before, and of the bytes shown then
pub record Past : Type 0 where
  pub first : List ℕ
  pub left : ℕ → List ℕ → List ℕ

-- these bytes at first, and each call that failed changed nothing
abbrev pub unharmed : List ℕ → Past
unharmed first = record { first = first; left = λ moment image. image }

-- the history with more calls, by what those that failed left
abbrev pub after_made : (ℕ → List ℕ → List ℕ) → History → List Made → History
after_made left history [] = history
after_made left history (Done call ∷ made) = after_made left (Did history call) made
after_made left history (Broke call ∷ made) = after_made left (Failed history call (left (moment history) (held history))) made

-- the history of a disk with this past, once these calls were made
abbrev pub history_of : Past → List Made → History
history_of past made = after_made past.left (Start past.first) made

-- the history by one past, or none: for clauses that say several things of the same past
abbrev pub history_told : Option Past → List Made → Option History
history_told None made = None
history_told (Some past) made = Some (history_of past made)

-- the call is the last that was made: at Ok it was done whole, and one that failed may be missing, where it changed nothing
pub record Makes {T E : Type 0} (old : List Made) (call : Call) (new : List Made) (result : Result T E) : Type 0 where
  pub ok : OnOk result (new ≡ old ++ Done call ∷ [])
  pub err : OnErr result ((new ≡ old) ⊎ (new ≡ old ++ Broke call ∷ []))
