-- What a disk in memory tells, from the calls that it keeps and which of them answered Ok.
use Rattle.std.specs.Prelude.{ℕ, List, [], ◌∷◌, ◌+◌, ◌&&◌, nat_le, length, Bool, true, if◌then◌else◌}
use Rattle.rp_disk.specs.declared.call.Call.{Call}
use Rattle.rp_disk.specs.declared.call.Call.TheVariants.{Write, Sync, SetLen}
use Rattle.rp_disk.specs.History.{History, Start, Did, Failed, held}
use Rattle.rp_disk.specs.Made.{Made, Done, Broke}

-- a call with its answer
abbrev pub answered : Call → Bool → Made
answered call ok = if ok then Done call else Broke call

-- the history with one more such call: one that failed changed nothing
abbrev pub noted : History → Call → Bool → History
noted history call ok = if ok then Did history call else Failed history call (held history)

-- calls with their answers
abbrev pub all_answered : List Call → List Bool → List Made
all_answered [] oks = []
all_answered (call ∷ calls) [] = []
all_answered (call ∷ calls) (ok ∷ oks) = answered call ok ∷ all_answered calls oks

-- the bytes at first of a disk that shows these: it keeps them only once it has made a call
abbrev pub first_kept : List ℕ → List ℕ → List Call → List ℕ
first_kept image first [] = image
first_kept image first (call ∷ calls) = first

-- a call that was done whole lay within the bytes shown
abbrev pub fits : List ℕ → Call → Bool
fits image (Write at bytes) = nat_le (at + length bytes) (length image)
fits image Sync = true
fits image (SetLen len) = true

-- each call that was done whole lay within the bytes shown then
abbrev pub writes_fit : History → Bool
writes_fit (Start bytes) = true
writes_fit (Did before call) = writes_fit before && fits (held before) call
writes_fit (Failed before call after) = writes_fit before
