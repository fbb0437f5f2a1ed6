-- The pieces of an image, as they are read.
use Rattle.std.proofs.Common.{◌≡◌, ℕ, ◌+◌, ◌*◌, ◌%◌, ◌/◌, ◌^◌, ◌<◌, ◌≤◌, true, false, List, length, Result, Ok, Err, IfOk, refl, sym, ap, ◌∙◌, subst, inl, inr, arith}
use Rattle.std.specs.Prelude.{not, ◌||◌, ◌&&◌, ◌⊎◌, nat_lt, nat_le, ◌==◌}
use Rattle.std.proofs.lemmas.Bool.Decides.{nat_tests}
use Rattle.rp_base.specs.Answers.{Gives}
use Rattle.rp_base.specs.Geometry.{IsSector, copy_bytes, copy_place, header_place, least_sectors}
use Rattle.rp_base.specs.Image.{bytes_at, sectors_of}
use Rattle.rp_base.specs.declared.geometry.Which.{Which}
use Rattle.rp_base.specs.declared.geometry.Which.TheVariants.{Primary, Backup}
use Rattle.rp_base.specs.declared.seen.Seen.{Seen}
use Rattle.rp_gpt.specs.declared.table_fault.Empty.{Empty}
use Rattle.rp_gpt.specs.declared.table_fault.TableFault.{TableFault}
use Rattle.rp_gpt.specs.declared.table_fault.TableFault.TheVariants as faults
use Rattle.rp_gpt.specs.Fields.{entry_count}
use Rattle.rp_gpt.specs.Shown.{may_have, entries_or_least, entries_at, header_at, place_of, accepted, accepted_as}
use Rattle.rp_gpt.specs.Shown as judged_by
use Rattle.rp_gpt.proofs.ImagePlaces.{copy_end, may_have-room, room-may_have, entries_or_least-may_have}
use Rattle.rp_table.specs.declared.pieces.Pieces.{Pieces}
use Rattle.rp_table.specs.declared.pieces.Place.{Place}
use Rattle.rp_table.specs.Pieces.{IsDisk, IsPlaceOf, ArePieces}

-- where a header and a copy end
pub header_inside : (which : Which) (sector sectors size place : ℕ) → IsDisk sector sectors → size ≡ sector → place ≡ header_place which sectors → size * place + sector ≤ sector * sectors
header_inside which sector sectors size place disk size_is place_is = rw (size_is, place_is) (by_size which sector disk.size disk.least) where
  by_size : (which : Which) (sector : ℕ) → IsSector sector → least_sectors sector 128 ≤ sectors → sector * header_place which sectors + sector ≤ sector * sectors
  by_size Primary sector (inl e) least = let least_is : least_sectors 512 128 ≤ sectors = rw e at least in rw e (omega arith)
  by_size Primary sector (inr e) least = let least_is : least_sectors 4096 128 ≤ sectors = rw e at least in rw e (omega arith)
  by_size Backup sector (inl e) least = let least_is : least_sectors 512 128 ≤ sectors = rw e at least in rw e (omega arith)
  by_size Backup sector (inr e) least = let least_is : least_sectors 4096 128 ≤ sectors = rw e at least in rw e (omega arith)

pub entries_may : (sector sectors entries said : ℕ) → IsDisk sector sectors → entries ≡ entries_or_least sector sectors said → may_have sector sectors entries ≡ true
entries_may sector sectors entries said disk e =
    rw e (entries_or_least-may_have sector sectors said (room-may_have sector sectors 128 (record { least = omega arith; most = omega arith }) disk.least))

pub copy_inside : (which : Which) (sector sectors entries said size place count : ℕ) → IsDisk sector sectors → entries ≡ entries_or_least sector sectors said → size ≡ sector
    → place ≡ copy_place which sector entries sectors → count ≡ copy_bytes entries sector → size * place + count ≤ sector * sectors
copy_inside which sector sectors entries said size place count disk e size_is place_is count_is =
    rw (size_is, place_is, count_is) (copy_end which sector entries sectors disk.size (may_have-room sector sectors entries (entries_may sector sectors entries said disk e)).1)

-- a place, by its header and its bytes
pub place_made : (image : List ℕ) (which : Which) (sector sectors size header_at_place copy_at_place count said : ℕ) (header : List ℕ) (place : Place) → IsDisk sector sectors → length image ≡ sector * sectors
    → size ≡ sector → header_at_place ≡ header_place which sectors → header ≡ bytes_at image (size * header_at_place) sector → said ≡ entry_count header
    → place.entries ≡ entries_or_least sector sectors said → copy_at_place ≡ copy_place which sector place.entries sectors → count ≡ copy_bytes place.entries sector
    → place.bytes ≡ bytes_at image (size * copy_at_place) count → IsPlaceOf sector image which place
unfolding entries_at header_at place_of
place_made image which sector sectors size header_at_place copy_at_place count said header place disk len size_is header_is read said_is entries_is copy_is count_is bytes_are =
    let same : sectors_of sector image ≡ sectors = by_size sector disk.size len in
    let found : header ≡ bytes_at image (sector * header_place which sectors) sector = read ∙ ap (λ n. bytes_at image n sector) (ap (λ n. n * header_at_place) size_is ∙ ap (λ n. sector * n) header_is) in
    record {
      entries = entries_is ∙ rw same (ap (entries_or_least sector sectors) (said_is ∙ ap entry_count found));
      bytes = bytes_are ∙ rw (size_is, copy_is, count_is, same) refl;
    } where
      by_size : (sector : ℕ) → IsSector sector → length image ≡ sector * sectors → length image / sector ≡ sectors
      by_size sector (inl e) len = let len_is : length image ≡ 512 * sectors = rw e at len in rw e (omega arith)
      by_size sector (inr e) len = let len_is : length image ≡ 4096 * sectors = rw e at len in rw e (omega arith)

pub disk_holds : (sector sectors : ℕ) → IsDisk sector sectors → 512 ≤ sector * sectors
disk_holds sector sectors disk = by_size sector disk.size disk.least where
  by_size : (sector : ℕ) → IsSector sector → least_sectors sector 128 ≤ sectors → 512 ≤ sector * sectors
  by_size sector (inl e) least = let least_is : least_sectors 512 128 ≤ sectors = rw e at least in rw e (omega arith)
  by_size sector (inr e) least = let least_is : least_sectors 4096 128 ≤ sectors = rw e at least in rw e (omega arith)

-- an image by its length
module _ (sector : ℕ) (image : List ℕ) (empty : Empty) (len : ℕ) (same : len ≡ length image) where
  pub accepted-long : 2 ^ 44 < len → Err (faults.TooLong len) ≡ accepted sector image empty
  unfolding accepted
  accepted-long h = let long : nat_lt (2 ^ 44) len ≡ true = grind (arith, nat_tests) in rw (← same, long) refl

  not_long : len ≤ 2 ^ 44 → nat_lt (2 ^ 44) len ≡ false
  not_long h = grind (arith, nat_tests)

  fails : (rest sectors least : ℕ) → (rest == 0 && nat_le least sectors) ≡ false → (not (rest == 0) || nat_lt sectors least) ≡ true
  fails rest sectors least h = grind (arith, nat_tests)

  passes : (rest sectors least : ℕ) → (rest == 0 && nat_le least sectors) ≡ true → (not (rest == 0) || nat_lt sectors least) ≡ false
  passes rest sectors least h = grind (arith, nat_tests)

  pub accepted-short : len ≤ 2 ^ 44 → (len % sector == 0 && nat_le (least_sectors sector 128) (len / sector)) ≡ false → Err (faults.TooShort len) ≡ accepted sector image empty
  unfolding accepted
  accepted-short h none = rw (← same, not_long h, fails (len % sector) (len / sector) (least_sectors sector 128) none) refl

  pub accepted-rest : len ≤ 2 ^ 44 → (len % sector == 0 && nat_le (least_sectors sector 128) (len / sector)) ≡ true → accepted sector image empty ≡ accepted_as sector image empty (judged_by.shown sector image)
  unfolding accepted
  accepted-rest h room = rw (← same, not_long h, passes (len % sector) (len / sector) (least_sectors sector 128) room) refl

-- the disk of such an image
pub room_is : (rest sectors least : ℕ) → (rest == 0 && nat_le least sectors) ≡ true → (rest ≡ 0) × (least ≤ sectors)
room_is rest sectors least h = (grind (arith, nat_tests), grind (arith, nat_tests))

pub len_back : (sector len : ℕ) → IsSector sector → len % sector ≡ 0 → len ≡ sector * (len / sector)
len_back sector len (inl e) whole = let whole_is : len % 512 ≡ 0 = rw e at whole in rw e (omega arith)
len_back sector len (inr e) whole = let whole_is : len % 4096 ≡ 0 = rw e at whole in rw e (omega arith)

pub is_disk : (sector len : ℕ) → IsSector sector → len ≤ 2 ^ 44 → (len % sector == 0 && nat_le (least_sectors sector 128) (len / sector)) ≡ true → IsDisk sector (len / sector)
is_disk sector len is most room =
    let both = room_is (len % sector) (len / sector) (least_sectors sector 128) room in
    record { size = is; least = both.1; most = let back = len_back sector len is both.0 in omega (arith, back, most) }

pub whole_sectors : (sector len size : ℕ) → IsSector sector → (len % sector == 0 && nat_le (least_sectors sector 128) (len / sector)) ≡ true → len ≡ size → size ≡ sector * (len / sector)
whole_sectors sector len size is room e = sym e ∙ len_back sector len is (room_is (len % sector) (len / sector) (least_sectors sector 128) room).0

-- a failure to read
pub unread : (image : List ℕ) (sector : ℕ) (empty : Empty) (fault : TableFault) → (fault ≡ faults.Disk) ⊎ (fault ≡ faults.Memory)
    → ◌≡◌ {A = Result Seen TableFault} (Err fault) (Err faults.Disk) ⊎ Gives faults.Memory (accepted sector image empty) (Err fault)
unread image sector empty fault (inl e) = inl (ap Err e)
unread image sector empty fault (inr e) = inr (inr (ap Err e))

-- the judgement of the pieces
pub accepted_read : (image : List ℕ) (sector len : ℕ) (empty : Empty) (pieces : Pieces) (result : Result Seen TableFault) → IsSector sector → len ≤ 2 ^ 44
    → (len % sector == 0 && nat_le (least_sectors sector 128) (len / sector)) ≡ true → len ≡ length image
    → (length image ≡ sector * (len / sector) → ArePieces image pieces) → pieces.sector ≡ sector
    → ((image : List ℕ) → ArePieces image pieces → Gives faults.Memory (accepted_as pieces.sector image empty (judged_by.shown pieces.sector image)) result)
    → (result ≡ Err faults.Disk) ⊎ Gives faults.Memory (accepted sector image empty) result
accepted_read image sector len empty pieces result is most room e are of_sector judged =
    inr (rw (accepted-rest sector image empty len e most room) (subst (λ z. Gives faults.Memory (accepted_as z image empty (judged_by.shown z image)) result) of_sector
    (judged image (are (sym e ∙ len_back sector len is (room_is (len % sector) (len / sector) (least_sectors sector 128) room).0)))))

-- the length that was read
pub len_read : (image : List ℕ) (sector len : ℕ) (pieces : Pieces) (result : Result Seen TableFault) → IsSector sector → (len % sector == 0 && nat_le (least_sectors sector 128) (len / sector)) ≡ true
    → len ≡ length image → pieces.sector ≡ sector → pieces.sectors ≡ len / sector → IfOk result (λ seen. seen.sectors ≡ pieces.sector / 512 * pieces.sectors)
    → IfOk result (λ seen. length image ≡ 512 * seen.sectors)
len_read image sector len pieces result is room len_is of_sector sectors units =
    by_result result units (length image) len_is where
      whole : len % sector ≡ 0
      whole = (room_is (len % sector) (len / sector) (least_sectors sector 128) room).0

      back : (sector : ℕ) → IsSector sector → len % sector ≡ 0 → 512 * (sector / 512 * (len / sector)) ≡ len
      back sector (inl e) whole = let whole_is : len % 512 ≡ 0 = rw e at whole in rw e (omega arith)
      back sector (inr e) whole = let whole_is : len % 4096 ≡ 0 = rw e at whole in rw e (omega arith)

      by_result : (result : Result Seen TableFault) → IfOk result (λ seen. seen.sectors ≡ pieces.sector / 512 * pieces.sectors) → (size : ℕ) → len ≡ size → IfOk result (λ seen. size ≡ 512 * seen.sectors)
      by_result (Ok seen) units size e =
          sym e ∙ (sym (back sector is whole) ∙ ap (λ n. 512 * n) (ap (λ z. z / 512 * (len / sector)) (sym of_sector) ∙ ap (λ n. pieces.sector / 512 * n) (sym sectors) ∙ sym units))
      by_result (Err fault) units size e = tt
