-- What a disk in memory is: what it tells, from what it keeps.
use Rattle.std.specs.Prelude.{ℕ, List, [], ◌∷◌, ◌++◌, ◌≡◌, ◌+◌, ◌-◌, ◌^◌, ◌⊎◌, ◌<◌, min, Result, OnOk, OnErr, Contains}
use Rattle.rp_disk.specs.declared.call.Call.{Call}
use Rattle.rp_disk.specs.declared.mem.MemDisk.{MemDisk}
use Rattle.rp_disk.specs.Device.{Device}
use Rattle.rp_disk.specs.History.{History}
use Rattle.rp_disk.specs.Made.{Made, Done, Broke, Past}
use Rattle.rp_disk.specs.Record.{first_bytes, recorded, past_kept, history_kept}

-- its bytes at first
abbrev pub first : MemDisk → List ℕ
first disk = first_bytes disk.bytes.items disk.notes

-- its calls with their answers
abbrev pub calls : MemDisk → List Made
calls disk = recorded disk.notes

-- its past: a call that failed changed nothing
abbrev pub own : MemDisk → Past
own disk = past_kept disk.bytes.items disk.notes

-- its history, which is these two
abbrev pub history : MemDisk → History
history disk = history_kept disk.bytes.items disk.notes

-- how many of its calls found no memory
abbrev pub starved : MemDisk → ℕ
starved disk = disk.starved

-- how often it has failed
abbrev pub faults_of : MemDisk → ℕ
faults_of disk = disk.faults

-- what it was asked and what it answered
abbrev pub device_of : MemDisk → Device
device_of disk = record { calls = recorded disk.notes; answers = disk.log.answers; faults = disk.faults }

-- how many calls it has answered
abbrev pub made : MemDisk → ℕ
made disk = disk.made

-- the numbers of calls that are to fail, from 1
abbrev pub listed : MemDisk → List ℕ
listed disk = disk.fail

-- how many calls pass before all are to fail
abbrev pub fuse : MemDisk → ℕ
fuse disk = disk.fuse

-- the call with this number is to fail
abbrev pub IsToFail : MemDisk → ℕ → Type 0
IsToFail disk number = Contains (listed disk) number ⊎ (fuse disk < number)

-- which calls are to fail stays
pub record SameToFail (old new : MemDisk) : Type 0 where
  pub listed : listed new ≡ listed old
  pub fuse : fuse new ≡ fuse old

-- a call that found memory fails exactly where it is to, or its range passes the end
pub record FailsExactly {T E : Type 0} (old new : MemDisk) (fits : Type 0) (result : Result T E) : Type 0 where
  pub ok : OnOk result ((IsToFail old (made new) → ⊥) × fits)
  pub err : OnErr result (IsToFail old (made new) ⊎ (fits → ⊥))

-- a call that changes nothing is numbered, and takes no memory
pub record Reads {T E : Type 0} (old new : MemDisk) (fits : Type 0) (result : Result T E) : Type 0 where
  pub number : made new ≡ min (made old + 1) (2 ^ 64 - 1)
  pub same : SameToFail old new
  pub starved : starved new ≡ starved old
  pub exact : FailsExactly old new fits result

-- a changing call that found no memory for its record or for a growth is a fault and changed nothing
pub record Starves {T E : Type 0} (old new : MemDisk) (result : Result T E) : Type 0 where
  pub err : OnOk result ⊥
  pub starved : starved new ≡ min (starved old + 1) (2 ^ 64 - 1)
  pub first : first new ≡ first old
  pub calls : calls new ≡ calls old

-- one that found memory is recorded: at Ok as done whole; where it failed the bytes shown are as they were
pub record Records {T E : Type 0} (old new : MemDisk) (call : Call) (fits : Type 0) (result : Result T E) : Type 0 where
  pub starved : starved new ≡ starved old
  pub exact : FailsExactly old new fits result
  pub done : OnOk result (calls new ≡ calls old ++ Done call ∷ [])
  pub failed : OnErr result (calls new ≡ calls old ++ Broke call ∷ [])

-- a changing call is numbered, and finds memory or not
pub record Changes {T E : Type 0} (old new : MemDisk) (call : Call) (fits : Type 0) (result : Result T E) : Type 0 where
  pub number : made new ≡ min (made old + 1) (2 ^ 64 - 1)
  pub same : SameToFail old new
  pub outcome : Records old new call fits result ⊎ Starves old new result
