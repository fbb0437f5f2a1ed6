-- What becomes of an image before what is made is planned for it: own rules.
use Rattle.std.specs.Prelude.{ℕ, ◌≡◌, ◌⊎◌, ◌≤◌, ◌/◌, ◌%◌, ◌^◌, ◌==◌, ◌&&◌, nat_le, nat_lt, if◌then◌else◌, List, [], ◌∷◌, Bool, codes, length, Result, Ok, Err, IfOk, IfErr}
use Rattle.std.specs.Fmt.{decimal}
use Rattle.rp_base.specs.Faults.{HasCause}
use Rattle.rp_base.specs.Geometry.{least_sectors}
use Rattle.rp_base.specs.declared.seen.Seen.{Seen}
use Rattle.rp_disk.specs.Device.{Earlier, Known}
use Rattle.rp_disk.specs.History.{held}
use Rattle.rp_disk.specs.Runs.{Runs}
use Rattle.rp_disk.specs.declared.call.Call.{Call}
use Rattle.rp_disk.specs.declared.call.Call.TheVariants.{SetLen, Sync}
use Rattle.rp_gpt.specs.Shown.{accepted}
use Rattle.rp_gpt.specs.declared.table_fault.Empty.TheVariants.{Require}
use Rattle.rp_gpt.specs.declared.table_fault.TableFault.{TableFault}
use Rattle.rp_gpt.specs.declared.table_fault.TableFault.TheVariants.{TooShort}
use Rattle.rp_outcome.specs.Device.{Device, IsOnlyRead}
use Rattle.rp_outcome.specs.Refusals.{Refusal, disk_refusal, image_refusal, memory_refusal, table_refusal}
use Rattle.rp_outcome.specs.Statuses as exit
use Rattle.rp_reading.specs.Stages.{HasStageCause, Settles}
use Rattle.rp_make_room.specs.declared.looking.NoRoom.{NoRoom}
use Rattle.rp_make_room.specs.declared.looking.NoRoom.TheVariants.{Length, Image}

-- the bytes of an image that is made: 1 GiB
abbrev pub length_made : ℕ
length_made = 2 ^ 30

-- the refusal of an image that has more
abbrev pub length_refusal : ℕ → Refusal
length_refusal len = image_refusal (codes "MakeLength" ∷ decimal len ∷ [])

-- that of a cause
abbrev pub refusal_of : NoRoom → Refusal
refusal_of (Length len) = length_refusal len
refusal_of (Image fault) = table_refusal fault

-- an image of so many bytes has whole sectors, and no fewer than a table needs: any other holds none, and isn't looked at
abbrev pub is_looked_at : ℕ → Bool
is_looked_at len = len % 512 == 0 && nat_le (least_sectors 512 128) (len / 512)

-- an image of so many bytes has too few sectors to be given a table
abbrev pub is_few : ℕ → Bool
is_few len = nat_lt (len / 512) 2082

-- the image of so many bytes may be grown where it is blank, which it has to be, also where it is too short to be given a
-- table; any other fault refuses it
abbrev pub judged : ℕ → Result Seen TableFault → Result ℕ Refusal
judged len (Ok seen) = Ok len
judged len (Err (TooShort found)) = if is_few found then Ok len else Err (table_refusal (TooShort found))
judged len (Err fault) = Err (table_refusal fault)

-- the length of an image of so many bytes, where it may be grown, or its refusal: for its length before all else
abbrev pub room_for : ℕ → List ℕ → Result ℕ Refusal
room_for len image =
    if nat_lt length_made len then Err (length_refusal len)
    else if is_looked_at len then judged len (accepted 512 image Require) else Ok len

abbrev pub room_in : List ℕ → Result ℕ Refusal
room_in image = room_for (length image) image

-- a refusal of an image: of its length or its fault, of a disk that failed, or of want of memory
abbrev pub IsRoomRefusal : Refusal → Type 0
IsRoomRefusal refusal = (refusal.status ≡ exit.image) ⊎ (refusal ≡ disk_refusal) ⊎ (refusal ≡ memory_refusal)

-- the image on a disk was looked at, and nothing else was asked of the disk; the answer is what is said of the image, whatever past
-- the disk can have. Over every disk an image that may be grown isn't too long
pub record Looks (room : List ℕ → Result ℕ Refusal) (before now : Device) (answer : Result ℕ Refusal) : Type 0 where
  pub only_read : IsOnlyRead before now
  pub settled : Known before now (λ h. Settles disk_refusal (room (held h)) answer)
  pub short : IfOk answer (λ len. len ≤ length_made)
  pub refusal : IfErr answer IsRoomRefusal
  pub cause : HasStageCause disk_refusal before.faults now.faults answer

-- the calls that grow an image of so many bytes: none where it is as long as one that is made
abbrev pub growth_calls : ℕ → List Call
growth_calls len = if nat_lt len length_made then SetLen length_made ∷ Sync ∷ [] else []

-- the image of so many bytes was grown
pub record Grows {T E : Type 0} (len : ℕ) (before now : Device) (result : Result T E) : Type 0 where
  pub earlier : Earlier before now
  pub ran : Runs before.calls (growth_calls len) now.calls result
  pub answers : now.answers ≡ before.answers
  pub cause : HasCause before.faults now.faults result
