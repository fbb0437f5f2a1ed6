-- One copy of the table: a header in one sector, and an array of entries of 128 bytes in whole sectors beside it (UEFI 2.10,
-- 5.3.1 to 5.3.3). Numbers of a table are units of 512 bytes, those of a copy are sectors.
use Rattle.std.specs.Prelude.{ℕ, ◌≡◌, ◌+◌, ◌*◌, ◌-◌, ◌/◌, ◌^◌, ◌≤◌, min, List, [], ◌∷◌, ◌++◌, length, Bool, not, ◌&&◌, ◌==◌, nat_le, nat_lt, if◌then◌else◌, take, drop, replicate, map, filter, find, slice_range, unwrap_or, Option, Some, None, Result, Ok, Err}
use Rattle.std.specs.Option.{option_map_or}
use Rattle.std.specs.List.{range_with_len, list_all, concat, flat_map}
use Rattle.rp_crc.specs.Crc.{crc}
use Rattle.rp_base.specs.Geometry.{AreEntries, sector_units, array_sectors, copy_bytes, least_sectors, header_place, array_place}
use Rattle.rp_base.specs.declared.geometry.Which.{Which}
use Rattle.rp_base.specs.declared.geometry.Which.TheVariants.{Primary, Backup}
use Rattle.rp_base.specs.declared.table.Row.{Row}
use Rattle.rp_base.specs.declared.table.Table.{Table}
use Rattle.rp_gpt.specs.declared.copy.CopyFault.{CopyFault}
use Rattle.rp_gpt.specs.declared.copy.CopyFault.TheVariants.{Signature, Revision, HeaderSize, HeaderCrc, Place, ArrayPlace, Counts, ArrayCrc, RowOrder}
use Rattle.rp_gpt.specs.Numbers.{u32_bytes, u64_bytes, guid_bytes, units_bytes}
use Rattle.rp_gpt.specs.Fields.{signature, revision, header_size, header_crc, my_lba, first_usable_lba, last_usable_lba, disk_guid, array_lba, entry_count, entry_size, array_crc, type_guid, unique_guid, first_lba, last_lba, attributes, name_units}

-- the header's sector stands first in the primary's place, and last in the backup's (UEFI 2.10, 5.3.1)
unfoldable pub header_of : ℕ → List ℕ → Which → List ℕ
header_of sector bytes Primary = take sector bytes
header_of sector bytes Backup = drop (length bytes - sector) bytes

-- the sectors of the array are the others of the place
unfoldable pub array_of : ℕ → List ℕ → Which → List ℕ
array_of sector bytes Primary = drop sector bytes
array_of sector bytes Backup = take (length bytes - sector) bytes

-- the entries, without the rest of the array's last sector
abbrev pub entry_bytes : ℕ → List ℕ → List ℕ
entry_bytes entries array = take (128 * entries) array

-- a header and the array's sectors, in the order of the place
abbrev pub in_place : Which → List ℕ → List ℕ → List ℕ
in_place Primary header array = header ++ array
in_place Backup header array = array ++ header

-- so many bytes are a place of this many entries, which a table may have
abbrev pub is_place : ℕ → ℕ → ℕ → Bool
is_place sector bytes entries = nat_le 128 entries && nat_le entries 1024 && bytes == copy_bytes entries sector

-- so many bytes are the place of a copy, on a disk that has room for two
pub record IsPlace (sector sectors bytes : ℕ) : Type 0 where
  pub entries : ℕ
  pub allowed : AreEntries entries
  pub whole : bytes ≡ copy_bytes entries sector
  pub room : least_sectors sector entries ≤ sectors

-- the least of so many numbers of entries, from one on, whose place has so many bytes
unfoldable pub least_from : ℕ → ℕ → ℕ → ℕ → Option ℕ
least_from sector bytes from count = find (is_place sector bytes) (range_with_len from count)

-- the least of 128 to 1,024 whose place has so many bytes
abbrev pub least_entries : ℕ → ℕ → ℕ
least_entries sector bytes = unwrap_or (least_from sector bytes 128 897) 128

-- the number of entries with which a place is read, own: the header's where the place is one of so many, else the least
abbrev pub chosen_entries : ℕ → ℕ → List ℕ → ℕ
chosen_entries sector bytes header = if is_place sector bytes (entry_count header) then entry_count header else least_entries sector bytes

-- what the header's checksum is over: its first bytes, as many as it says, with zeros for the checksum (UEFI 2.10, 5.3.2)
unfoldable pub summed : List ℕ → ℕ → List ℕ
summed header size = take 16 header ++ replicate 4 0 ++ slice_range header 20 size

-- the first test that the place fails, of those that look at no entry, in an order of its own (the fields: UEFI 2.10, 5.3.2)
unfoldable pub header_fault : ℕ → ℕ → Which → ℕ → List ℕ → List ℕ → Option CopyFault
header_fault sector entries which sectors header array =
    if not (signature header == 0x5452415020494645) then Some Signature
    else if not (revision header == 0x00010000) then Some Revision
    else if not (nat_le 92 (header_size header) && nat_le (header_size header) sector) then Some HeaderSize
    else if not (crc (summed header (header_size header)) == header_crc header) then Some HeaderCrc
    else if not (my_lba header == header_place which sectors) then Some Place
    else if not (array_lba header == array_place which sector entries sectors) then Some ArrayPlace
    else if not (entry_count header == entries && entry_size header == 128) then Some (Counts (entry_count header) (entry_size header))
    else if not (crc array == array_crc header) then Some ArrayCrc
    else None

-- the entry of a slot
unfoldable pub entry_of : List ℕ → ℕ → List ℕ
entry_of array slot = slice_range array (128 * slot) (128 * slot + 128)

-- a type of zeros means that the entry isn't used (UEFI 2.10, 5.3.3)
unfoldable pub is_used : List ℕ → Bool
is_used entry = not (list_all (λ byte. byte == 0) (type_guid entry).0)

-- the last LBA is at least the first, and the entry ends within 2^44 bytes, an own limit
unfoldable pub is_ordered : ℕ → List ℕ → Bool
is_ordered sector entry = nat_le (first_lba entry) (last_lba entry) && nat_le (sector_units sector * (last_lba entry + 1)) (2 ^ 35)

-- the slots of the used entries, below a number
unfoldable pub used_slots : List ℕ → ℕ → List ℕ
used_slots array count = filter (λ slot. is_used (entry_of array slot)) (range_with_len 0 count)

-- the least of those slots whose entry is out of order
unfoldable pub unordered_slot : ℕ → List ℕ → ℕ → Option ℕ
unordered_slot sector array count = find (λ slot. not (is_ordered sector (entry_of array slot))) (used_slots array count)

-- a number of units as a table holds it: one that has more than 64 bits stands as the greatest of 64, an own rule
abbrev pub saturated : ℕ → ℕ
saturated units = min units (2 ^ 64 - 1)

-- the row that an entry stands for; both its LBAs belong to it (UEFI 2.10, 5.3.3)
unfoldable pub row_of : ℕ → List ℕ → ℕ → Row
row_of sector entry slot =
    let units = sector_units sector in record {
      slot = slot;
      kind = type_guid entry;
      id = unique_guid entry;
      start = saturated (units * first_lba entry);
      size = saturated (units * (last_lba entry + 1) - units * first_lba entry);
      attrs = attributes entry;
      name = name_units entry;
    }

-- the rows of the used entries below a slot
unfoldable pub rows_of : ℕ → List ℕ → ℕ → List Row
rows_of sector array count = map (λ slot. row_of sector (entry_of array slot) slot) (used_slots array count)

-- the table of a header and its entries; both usable LBAs are usable (UEFI 2.10, 5.3.2)
unfoldable pub table_of : ℕ → ℕ → List ℕ → List ℕ → Table
table_of sector entries header array =
    let units = sector_units sector in record {
      sector = sector;
      entries = entries;
      disk = disk_guid header;
      first = saturated (units * first_usable_lba header);
      last = saturated (units * (last_usable_lba header + 1) - 1);
      rows = rows_of sector array entries;
    }

-- a value, or the fault of a test that failed, or of a slot
abbrev pub unless_fault : {T : Type 0} → Option CopyFault → Option ℕ → T → Result T CopyFault
unless_fault None None value = Ok value
unless_fault None (Some slot) value = Err (RowOrder slot)
unless_fault (Some fault) slot value = Err fault

-- what a header and the entries beside it say: a table, or the first test that fails
unfoldable pub judged : ℕ → ℕ → Which → ℕ → List ℕ → List ℕ → Result Table CopyFault
judged sector entries which sectors header array =
    unless_fault (header_fault sector entries which sectors header array) (unordered_slot sector array entries)
    (table_of sector entries header array)

-- what the bytes of a copy's place say on a disk of this many sectors
unfoldable pub answer : List ℕ → Which → ℕ → ℕ → Result Table CopyFault
answer bytes which sectors sector =
    let header = header_of sector bytes which in
    let entries = chosen_entries sector (length bytes) header in
    judged sector entries which sectors header (entry_bytes entries (array_of sector bytes which))

-- the other copy
abbrev pub other : Which → Which
other Primary = Backup
other Backup = Primary

-- the fields of an exact copy's header, in their order, with these checksums (UEFI 2.10, table 5-5)
unfoldable pub header_fields : Table → Which → ℕ → ℕ → ℕ → List ℕ
header_fields table which sectors entries_crc own_crc =
    let units = sector_units table.sector in concat (
    u64_bytes 0x5452415020494645 ∷ u32_bytes 0x00010000 ∷ u32_bytes 92 ∷ u32_bytes own_crc ∷ u32_bytes 0
    ∷ u64_bytes (header_place which sectors) ∷ u64_bytes (header_place (other which) sectors)
    ∷ u64_bytes (table.first / units) ∷ u64_bytes ((table.last + 1) / units - 1) ∷ guid_bytes table.disk
    ∷ u64_bytes (array_place which table.sector table.entries sectors) ∷ u32_bytes table.entries ∷ u32_bytes 128
    ∷ u32_bytes entries_crc ∷ [])

-- the fields with their own checksum, which is over them with zeros in its place (UEFI 2.10, 5.3.2)
unfoldable pub signed_fields : Table → Which → ℕ → ℕ → List ℕ
signed_fields table which sectors entries_crc =
    let fields = header_fields table which sectors entries_crc in
    fields (crc (fields 0))

-- the header's sector: its fields, and zeros
unfoldable pub header_bytes : Table → Which → ℕ → ℕ → List ℕ
header_bytes table which sectors entries_crc = signed_fields table which sectors entries_crc ++ replicate (table.sector - 92) 0

-- a row's entry (UEFI 2.10, table 5-6)
unfoldable pub row_bytes : ℕ → Row → List ℕ
row_bytes sector row =
    let units = sector_units sector in concat (
    guid_bytes row.kind ∷ guid_bytes row.id ∷ u64_bytes (row.start / units) ∷ u64_bytes ((row.start + row.size) / units - 1)
    ∷ u64_bytes row.attrs ∷ units_bytes row.name ∷ [])

-- a slot's entry: that of its row, or zeros
unfoldable pub slot_bytes : ℕ → List Row → ℕ → List ℕ
slot_bytes sector rows slot = option_map_or (row_bytes sector) (find (λ row. row.slot == slot) rows) (replicate 128 0)

-- how many rows are of lower slots
abbrev pub count_below : List Row → ℕ → ℕ
count_below rows slot = length (filter (λ (row : Row). nat_lt row.slot slot) rows)

-- the entries of the slots below a number
unfoldable pub array_bytes : ℕ → List Row → ℕ → List ℕ
array_bytes sector rows count = flat_map (slot_bytes sector rows) (range_with_len 0 count)

-- the entries of a table
abbrev pub table_entries : Table → List ℕ
table_entries table = array_bytes table.sector table.rows table.entries

-- the sectors of a table's array: its entries, and zeros
abbrev pub table_array : Table → List ℕ
table_array table = table_entries table ++ replicate (table.sector * array_sectors table.sector table.entries - 128 * table.entries) 0

-- the bytes of a table's exact copy
unfoldable pub exact : Table → Which → ℕ → List ℕ
exact table which sectors = in_place which (header_bytes table which sectors (crc (table_entries table))) (table_array table)

-- the exact copy of a table says that table, in each place of each disk with room for two
abbrev pub ReadsBack : Table → Type 0
ReadsBack table = (which : Which) (sectors : ℕ) → least_sectors table.sector table.entries ≤ sectors → sectors ≤ 2 ^ 35
    → answer (exact table which sectors) which sectors table.sector ≡ Ok table
