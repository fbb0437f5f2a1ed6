-- A disk as its callers know it: what it was asked and what it answered, and what that says of its bytes.
use Rattle.std.specs.Prelude.{ℕ, List, [], ◌∷◌, ◌++◌, ◌≡◌, ◌+◌, ◌≤◌, ⊤, Bool, nat_lt, if◌then◌else◌, length, Option, Some, None, IfSome, Result, OnOk, OnErr, IfOk}
use Rattle.rp_base.specs.Image.{bytes_at}
use Rattle.rp_disk.specs.History.{History, held, IsLawful}
use Rattle.rp_disk.specs.declared.call.Call.{Call}
use Rattle.rp_disk.specs.Made.{Made, Broke, Past, history_of}

-- what a disk answered behind these changing calls: its length; bytes from an offset on; or a read or a write up to this
-- end failed
pub data Answer : Type 0 where
  Measured : (behind : List Made) → (len : ℕ) → Answer
  Gave : (behind : List Made) → (at : ℕ) → (bytes : List ℕ) → Answer
  Missed : (behind : List Made) → (end : ℕ) → Answer

-- a disk at a moment: its changing calls, what it answered to all others, and how many of its calls have failed
pub record Device : Type 0 where
  pub calls : List Made
  pub answers : List Answer
  pub faults : ℕ

-- a disk with this past would have given the answer
abbrev pub Holds : Past → Answer → Type 0
Holds past (Measured behind len) = len ≡ length (held (history_of past behind))
Holds past (Gave behind at bytes) = (at + length bytes ≤ length (held (history_of past behind)))
    × (bytes ≡ bytes_at (held (history_of past behind)) at (length bytes))
Holds past (Missed behind end) = ⊤

abbrev pub AllHold : Past → List Answer → Type 0
AllHold past [] = ⊤
AllHold past (answer ∷ answers) = Holds past answer × AllHold past answers

-- the disk can have this past: its calls that were done whole lay within the bytes, those that failed left what a stop in
-- their midst may leave, and each answer is one that such a disk gives
pub record CanHave (past : Past) (device : Device) : Type 0 where
  pub lawful : IsLawful (history_of past device.calls)
  pub answers : AllHold past device.answers

-- of each past that the disk can have by what is known now, this holds of its history as it was before
abbrev pub Known : Device → Device → (History → Type 0) → Type 0
Known before now P = (past : Past) → CanHave past now → P (history_of past before.calls)

-- a list begins with these
unfoldable pub BeginsWith : {A : Type 0} → List A → List A → Type 0
BeginsWith {A} front list = (more : List A) × (list ≡ front ++ more)

-- what was noted before is still noted now, and first
pub record Earlier (before now : Device) : Type 0 where
  pub calls : BeginsWith before.calls now.calls
  pub answers : BeginsWith before.answers now.answers

-- how many calls passed the end of a disk with this past
abbrev pub missed : Past → List Answer → ℕ
missed past [] = 0
missed past (Measured behind len ∷ answers) = missed past answers
missed past (Gave behind at bytes ∷ answers) = missed past answers
missed past (Missed behind end ∷ answers) =
    (if nat_lt (length (held (history_of past behind))) end then 1 else 0) + missed past answers

-- a length is noted where it was answered
pub record NotesLength {E : Type 0} (old new : Device) (result : Result ℕ E) : Type 0 where
  pub calls : new.calls ≡ old.calls
  pub ok : IfOk result (λ len. new.answers ≡ old.answers ++ Measured old.calls len ∷ [])
  pub err : OnErr result (new.answers ≡ old.answers)

-- a read is noted with its bytes, or as one that failed
pub record NotesRead {T E : Type 0} (old new : Device) (at : ℕ) (bytes : List ℕ) (result : Result T E) : Type 0 where
  pub calls : new.calls ≡ old.calls
  pub ok : OnOk result (new.answers ≡ old.answers ++ Gave old.calls at bytes ∷ [])
  pub err : OnErr result (new.answers ≡ old.answers ++ Missed old.calls (at + length bytes) ∷ [])

-- a write that failed is noted as such beside the calls
pub record NotesWrite {T E : Type 0} (old new : Device) (end : ℕ) (result : Result T E) : Type 0 where
  pub ok : OnOk result (new.answers ≡ old.answers)
  pub err : OnErr result (new.answers ≡ old.answers ++ Missed old.calls end ∷ [])

-- no call since passed the end of the disk, whatever past it can have
abbrev pub StaysInside : Device → Device → Type 0
StaysInside before now = (past : Past) → CanHave past now → missed past now.answers ≡ missed past before.answers

-- the same of each past with such a history before
abbrev pub StaysInsideWhere : Device → Device → (History → Type 0) → Type 0
StaysInsideWhere before now P = (past : Past) → P (history_of past before.calls) → missed past now.answers ≡ missed past before.answers

-- each answer was given behind no more than so many changing calls
abbrev pub AllBehind : ℕ → List Answer → Type 0
AllBehind count [] = ⊤
AllBehind count (Measured behind len ∷ answers) = (length behind ≤ count) × AllBehind count answers
AllBehind count (Gave behind at bytes ∷ answers) = (length behind ≤ count) × AllBehind count answers
AllBehind count (Missed behind end ∷ answers) = (length behind ≤ count) × AllBehind count answers

-- the disk, once one more changing call has failed
abbrev pub with_failed : Device → Call → Device
with_failed device call = record { calls = device.calls ++ Broke call ∷ []; answers = device.answers; faults = device.faults + 1 }

-- a past that the disk can have, or none
abbrev pub IsPossible : Option Past → Device → Type 0
IsPossible told device = IfSome told (λ past. CanHave past device)

-- how many calls passed the end of a disk with this past
abbrev pub missed_by : Option Past → List Answer → ℕ
missed_by None answers = 0
missed_by (Some past) answers = missed past answers
