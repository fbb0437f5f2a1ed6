-- What the places of an image tell, by their headers and arrays.
use Rattle.std.proofs.Common.{◌≡◌, ◌≢◌, ℕ, ◌+◌, ◌-◌, ◌*◌, ◌/◌, ◌≤◌, List, length, take, drop, replicate, Result, Ok, Err, refl, sym, ap, ap₂, ◌∙◌, subst, inl, inr, arith, take-append-drop}
use Rattle.rp_base.specs.Geometry.{IsSector, AreEntries, array_sectors, copy_bytes, copy_place, header_place, least_sectors}
use Rattle.rp_base.specs.Image.{bytes_at, sectors_of}
use Rattle.rp_base.specs.declared.geometry.Which.{Which}
use Rattle.rp_base.specs.declared.geometry.Which.TheVariants.{Primary, Backup}
use Rattle.rp_base.specs.declared.table.Table.{Table}
use Rattle.rp_gpt.specs.declared.copy.CopyFault.{CopyFault}
use Rattle.rp_gpt.specs.declared.copy.CopyFault.TheVariants as copies
use Rattle.rp_gpt.specs.Copy.{answer, array_of, header_of, in_place}
use Rattle.rp_gpt.specs.Fields.{signature}
use Rattle.rp_gpt.specs.Numbers.{u64_at}
use Rattle.rp_gpt.specs.Shown.{shows, nothing, answer_at, entries_at, header_at, place_of, told, told_at}
use Rattle.rp_gpt.proofs.AnswerRead.{answer-entries}
use Rattle.rp_gpt.proofs.Chosen.{chosen-place}
use Rattle.rp_gpt.proofs.ExactPlaces.{entries_at-said}
use Rattle.rp_gpt.proofs.ImagePlaces.{entries_at-may_have, length-place_of, may_have-room}
use Rattle.rp_gpt.proofs.Laws.{answer-unsigned}
use Rattle.rp_gpt.proofs.Sectors.{by_sector, copy_bytes-is, same_room}
use Rattle.rp_stops.specs.Order.{array_offset, header_offset}
use Rattle.rp_stops.proofs.Ranges.{take_bytes, drop_bytes}

-- a place is its header and its array
pub in_parts : (which : Which) (sector : ℕ) (bytes : List ℕ)
    → bytes ≡ in_place which (header_of sector bytes which) (array_of sector bytes which)
unfolding header_of array_of
in_parts Primary sector bytes = sym (take-append-drop sector bytes)
in_parts Backup sector bytes = sym (take-append-drop (length bytes - sector) bytes)

pub same_parts : (which : Which) (sector : ℕ) (xs ys : List ℕ) → header_of sector xs which ≡ header_of sector ys which
    → array_of sector xs which ≡ array_of sector ys which → xs ≡ ys
same_parts which sector xs ys h a = in_parts which sector xs ∙ ap₂ (in_place which) h a ∙ sym (in_parts which sector ys)

-- a place that tells a table says it
pub told-says : (said : Result Table CopyFault) (table : Table) → told said ≡ shows table → said ≡ Ok table
told-says (Ok other) table e = cc
told-says (Err copies.Signature) table e = cc
told-says (Err copies.Revision) table e = cc
told-says (Err copies.HeaderSize) table e = cc
told-says (Err copies.HeaderCrc) table e = cc
told-says (Err copies.Place) table e = cc
told-says (Err copies.ArrayPlace) table e = cc
told-says (Err (copies.Counts count size)) table e = cc
told-says (Err copies.ArrayCrc) table e = cc
told-says (Err (copies.RowOrder slot)) table e = cc
told-says (Err copies.Memory) table e = cc

-- where the backup's parts lie
module _ (sectors entries : ℕ) where
  pub backup_header : (sector : ℕ) → IsSector sector → least_sectors sector entries ≤ sectors
      → sector * copy_place Backup sector entries sectors + sector * array_sectors sector entries ≡ sector * header_place Backup sectors
  backup_header = by_sector (λ z. least_sectors z entries ≤ sectors
      → z * copy_place Backup z entries sectors + z * array_sectors z entries ≡ z * header_place Backup sectors)
      (λ room. omega arith) (λ room. omega arith)

  copy_parts : (sector : ℕ) → IsSector sector → copy_bytes entries sector ≡ sector * array_sectors sector entries + sector
  copy_parts = by_sector (λ z. copy_bytes entries z ≡ z * array_sectors z entries + z) (omega arith) (omega arith)

module _ (sector : ℕ) (is : IsSector sector) (image : List ℕ) (sectors : ℕ) (long : length image ≡ sector * sectors) where
  pub sectors_are : sectors_of sector image ≡ sectors
  sectors_are = ap (λ n. n / sector) long ∙ by_sector (λ z. (z * sectors) / z ≡ sectors) (omega arith) (omega arith) sector is

  pub whole_sectors : length image ≡ sector * sectors_of sector image
  whole_sectors = long ∙ ap (λ n. sector * n) (sym sectors_are)

  module _ (entries : ℕ) (room : least_sectors sector entries ≤ sectors) where
    pub room_here : least_sectors sector entries ≤ sectors_of sector image
    room_here = subst (λ n. least_sectors sector entries ≤ n) (sym sectors_are) room

    pub place_at : (which : Which) → place_of sector image entries which ≡ bytes_at image
        (sector * copy_place which sector entries sectors) (copy_bytes entries sector)
    unfolding place_of
    place_at which = ap (λ n. bytes_at image (sector * copy_place which sector entries n) (copy_bytes entries sector)) sectors_are

    pub place_long : (which : Which) → length (place_of sector image entries which) ≡ copy_bytes entries sector
    place_long which = length-place_of sector image is whole_sectors entries which room_here

    -- the header and the array of a place
    pub place_header : (which : Which) → header_of sector (place_of sector image entries which) which ≡ bytes_at image
        (header_offset sector sectors which) sector
    unfolding header_of
    place_header Primary = ap (take sector) (place_at Primary ∙ ap (bytes_at image (sector * 1)) (copy_bytes-is sector is entries))
        ∙ take_bytes image (sector * 1) sector (sector * array_sectors sector entries)
    place_header Backup =
        let skip : length (place_of sector image entries Backup) - sector ≡ sector * array_sectors sector entries =
        omega (arith, place_long Backup, copy_bytes-is sector is entries) in
        ap₂ drop skip (place_at Backup ∙ ap (bytes_at image (sector * copy_place Backup sector entries sectors))
        (copy_parts sectors entries sector is))
        ∙ drop_bytes image (sector * copy_place Backup sector entries sectors) (sector * array_sectors sector entries) sector
        ∙ ap (λ a. bytes_at image a sector) (backup_header sectors entries sector is room)

    pub place_array : (which : Which) → array_of sector (place_of sector image entries which) which ≡ bytes_at image
        (array_offset sector entries sectors which) (sector * array_sectors sector entries)
    unfolding array_of
    place_array Primary =
        let at : sector * 1 + sector ≡ sector * 2 = omega arith in
        ap (drop sector) (place_at Primary ∙ ap (bytes_at image (sector * 1)) (copy_bytes-is sector is entries))
        ∙ drop_bytes image (sector * 1) sector (sector * array_sectors sector entries)
        ∙ ap (λ a. bytes_at image a (sector * array_sectors sector entries)) at
    place_array Backup =
        let some : length (place_of sector image entries Backup) - sector ≡ sector * array_sectors sector entries =
        omega (arith, place_long Backup, copy_bytes-is sector is entries) in
        ap₂ take some (place_at Backup ∙ ap (bytes_at image (sector * copy_place Backup sector entries sectors))
        (copy_parts sectors entries sector is))
        ∙ take_bytes image (sector * copy_place Backup sector entries sectors) (sector * array_sectors sector entries) sector

  pub header_here : (which : Which) → header_at sector image which ≡ bytes_at image (header_offset sector sectors which) sector
  unfolding header_at
  header_here which = ap (λ n. bytes_at image (sector * header_place which n) sector) sectors_are

  -- a place that says a table with so many entries tells it
  pub says-tells : (table : Table) (which : Which) → AreEntries table.entries → least_sectors sector table.entries ≤ sectors
      → answer (place_of sector image table.entries which) which (sectors_of sector image) sector ≡ Ok table
      → told_at sector image which ≡ shows table
  unfolding told_at answer_at
  says-tells table which are room says =
      let count = entries_at-said sector image is whole_sectors table which are (room_here table.entries room) says in
      rw (count, says) refl

  module _ (least : least_sectors sector 128 ≤ sectors) where
    pub may_have_here : (which : Which) → AreEntries (entries_at sector image which)
        × (least_sectors sector (entries_at sector image which) ≤ sectors)
    may_have_here which =
        let has = may_have-room sector (sectors_of sector image) (entries_at sector image which)
        (entries_at-may_have sector image is whole_sectors which (room_here 128 least)) in
        (has.0, subst (λ n. least_sectors sector (entries_at sector image which) ≤ n) sectors_are has.1)

    -- a place that tells a table has as many bytes as a copy of it
    tells-length : (table : Table) (which : Which) → told_at sector image which ≡ shows table
        → copy_bytes table.entries sector ≡ copy_bytes (entries_at sector image which) sector
    unfolding told_at answer_at
    tells-length table which tells =
        let e = entries_at sector image which in
        let has = may_have_here which in
        let place = place_of sector image (entries_at sector image which) which in
        let header = header_of sector (place_of sector image (entries_at sector image which) which) which in
        let says = told-says (answer (place_of sector image (entries_at sector image which) which) which
        (sectors_of sector image) sector) table tells in
        let count = answer-entries (place_of sector image (entries_at sector image which) which) which
        (sectors_of sector image) sector table says in
        let chosen = chosen-place sector (sectors_of sector image) (length (place_of sector image (entries_at sector image which) which))
        (header_of sector (place_of sector image (entries_at sector image which) which) which) is
        (record {
          entries = entries_at sector image which;
          allowed = has.0;
          whole = place_long (entries_at sector image which) has.1 which;
          room = room_here (entries_at sector image which) has.1;
        }) in
        ap (λ n. copy_bytes n sector) count ∙ sym chosen.whole ∙ place_long (entries_at sector image which) has.1 which

    pub tells-room : (table : Table) (which : Which) → told_at sector image which ≡ shows table
        → least_sectors sector table.entries ≤ sectors
    tells-room table which tells =
        same_room sector is (entries_at sector image which) table.entries sectors (sym (tells-length table which tells))
        (may_have_here which).1

    -- and says it with the table's number of entries
    pub tells-says : (table : Table) (which : Which) → told_at sector image which ≡ shows table
        → answer (place_of sector image table.entries which) which (sectors_of sector image) sector ≡ Ok table
    unfolding told_at answer_at place_of
    tells-says table which tells =
        let says = told-says (answer (place_of sector image (entries_at sector image which) which) which
        (sectors_of sector image) sector) table tells in
        let bytes_are = tells-length table which tells in
        let same : array_sectors sector table.entries ≡ array_sectors sector (entries_at sector image which) =
        one_size table.entries (entries_at sector image which) bytes_are in
        subst (λ bytes. answer bytes which (sectors_of sector image) sector ≡ Ok table)
        (same_place which (entries_at sector image which) table.entries (sym same) (sym bytes_are)) says
      where
        one_size : (a b : ℕ) → copy_bytes a sector ≡ copy_bytes b sector → array_sectors sector a ≡ array_sectors sector b
        one_size a b = by_sector (λ z. copy_bytes a z ≡ copy_bytes b z → array_sectors z a ≡ array_sectors z b) (λ e. omega arith)
            (λ e. omega arith) sector is

        same_place : (which : Which) (a b : ℕ) → array_sectors sector a ≡ array_sectors sector b
            → copy_bytes a sector ≡ copy_bytes b sector
            → place_of sector image a which ≡ place_of sector image b which
        same_place Primary a b size bytes = ap (bytes_at image (sector * 1)) bytes
        same_place Backup a b size bytes = ap₂ (λ n m. bytes_at image (sector * (sectors_of sector image - 1 - n)) m) size bytes

    -- a closed place tells nothing
    pub zeros-nothing : (which : Which) → bytes_at image (header_offset sector sectors which) sector ≡ replicate sector 0
        → told_at sector image which ≡ nothing
    unfolding told_at answer_at u64_at
    zeros-nothing which shut =
        let has = may_have_here which in
        let header = place_header (entries_at sector image which) has.1 which ∙ shut in
        let unsigned : signature (header_of sector (place_of sector image
        (entries_at sector image which) which) which) ≢ 0x5452415020494645 =
        λ e. zeros_unsigned sector is (sym (ap signature header) ∙ e) in
        rw (answer-unsigned (place_of sector image (entries_at sector image which) which) which
        (sectors_of sector image) sector unsigned) refl
      where
        zeros_unsigned : (z : ℕ) → IsSector z → signature (replicate z 0) ≡ 0x5452415020494645 → ⊥
        zeros_unsigned z (inl e) s = let t : signature (replicate 512 0) ≡ 0x5452415020494645 = rw e at s in not_512 t
          where
            not_512 : signature (replicate 512 0) ≡ 0x5452415020494645 → ⊥
            not_512 e = cc
        zeros_unsigned z (inr e) s = let t : signature (replicate 4096 0) ≡ 0x5452415020494645 = rw e at s in not_4096 t
          where
            not_4096 : signature (replicate 4096 0) ≡ 0x5452415020494645 → ⊥
            not_4096 e = cc
