-- The exact copy of a table reads back.
use Rattle.std.proofs.Common.{◌≡◌, ℕ, ◌+◌, ◌-◌, ◌*◌, ◌^◌, ◌<◌, ◌≤◌, List, length, replicate, refl, sym, ap, ◌∙◌, arith}
use Rattle.std.proofs.lemmas.List.{take_at, drop_at, length-append, length-replicate}
use Rattle.rp_crc.specs.Crc.{crc, inverted}
use Rattle.rp_base.specs.Geometry.{array_sectors, copy_bytes}
use Rattle.rp_base.specs.Table.{IsWritable, TableFits}
use Rattle.rp_base.specs.declared.geometry.Which.{Which}
use Rattle.rp_base.specs.declared.geometry.Which.TheVariants.{Primary, Backup}
use Rattle.rp_base.specs.declared.table.Table.{Table}
use Rattle.rp_gpt.specs.Copy.{in_place, header_of, array_of, entry_bytes, header_fields, signed_fields, header_bytes, table_entries, table_array, exact, summed, table_of, rows_of, ReadsBack}
use Rattle.rp_gpt.proofs.Sectors.{sector_least, array_room, copy_bytes-is, first_back, last_back, first_fits, last_fits}
use Rattle.rp_gpt.proofs.Passes.{Passes, IsReadAs, no_fault, chosen-is, answer-table}
use Rattle.rp_gpt.proofs.Header.{HoldsTable, HeaderFits, header_fields-hold, summed-header_fields, length-header_bytes}
use Rattle.rp_gpt.proofs.Rising.{Rising-from, filter_all}
use Rattle.rp_gpt.proofs.Entries.{reads, length-array_bytes}

-- a checksum fits its field
pub crc-fits : (bytes : List ℕ) → crc bytes < 2 ^ 32
unfolding inverted
crc-fits bytes = omega arith

-- the parts of a place
pub header_of-in_place : (which : Which) (sector : ℕ) (header array : List ℕ) → length header ≡ sector → header_of sector (in_place which header array) which ≡ header
unfolding header_of
header_of-in_place Primary sector header array h = take_at header array sector h
header_of-in_place Backup sector header array h = drop_at array header _ (omega (arith, length-append array header, h))

pub array_of-in_place : (which : Which) (sector : ℕ) (header array : List ℕ) → length header ≡ sector → array_of sector (in_place which header array) which ≡ array
unfolding array_of
array_of-in_place Primary sector header array h = drop_at header array sector h
array_of-in_place Backup sector header array h = take_at array header _ (omega (arith, length-append array header, h))

pub length-in_place : (which : Which) (header array : List ℕ) → length (in_place which header array) ≡ length header + length array
length-in_place Primary header array = length-append header array
length-in_place Backup header array = length-append array header ∙ omega arith

-- the lengths of a table's parts
module _ (table : Table) (writable : IsWritable table) (fits : TableFits table) where
  pub length-table_entries : length (table_entries table) ≡ 128 * table.entries
  length-table_entries = length-array_bytes table.sector table.rows fits.rows table.entries

  pub length-table_array : length (table_array table) ≡ table.sector * array_sectors table.sector table.entries
  length-table_array =
      length-append (table_entries table) _
      ∙ omega (arith, length-table_entries, length-replicate {A = ℕ} (table.sector * array_sectors table.sector table.entries - 128 * table.entries) 0, array_room table.sector writable.sector table.entries)

  pub entry_bytes-table_array : entry_bytes table.entries (table_array table) ≡ table_entries table
  entry_bytes-table_array = take_at (table_entries table) _ (128 * table.entries) length-table_entries

  pub length-exact : (which : Which) (sectors : ℕ) → length (exact table which sectors) ≡ copy_bytes table.entries table.sector
  unfolding exact
  length-exact which sectors =
      length-in_place which (header_bytes table which sectors (crc (table_entries table))) (table_array table)
      ∙ omega (arith, length-header_bytes table which sectors (crc (table_entries table)) (sector_least table.sector writable.sector), length-table_array, copy_bytes-is table.sector writable.sector table.entries)

-- a header with a table's fields and its checksum passes the tests
holds-passes : (header array : List ℕ) (table : Table) (which : Which) (sectors own : ℕ) → 512 ≤ table.sector → HoldsTable header table which sectors (crc array) own → crc (summed header 92) ≡ own → Passes table.sector table.entries which sectors header array
holds-passes header array table which sectors own large holds sum = record {
  signed = holds.signed;
  revised = holds.revised;
  least = omega (arith, holds.sized);
  most = omega (arith, holds.sized);
  summed_up = ap (λ size. crc (summed header size)) holds.sized ∙ sum ∙ sym holds.own_crc;
  placed = holds.placed;
  array_placed = holds.array_placed;
  counted = holds.count;
  sized = holds.size;
  array_summed = sym holds.entries_crc;
}

-- the table of a header with its fields and an array with its rows
holds-table : (header array : List ℕ) (table : Table) (which : Which) (sectors own : ℕ) → IsWritable table → TableFits table → HoldsTable header table which sectors (crc array) own → rows_of table.sector array table.entries ≡ table.rows → table_of table.sector table.entries header array ≡ table
unfolding table_of
holds-table header array table which sectors own writable fits holds rows = rw (
  holds.disk,
  holds.first,
  holds.last,
  rows,
  first_back table.sector writable.sector table.first writable.bounds.first fits.first,
  last_back table.sector writable.sector table.last writable.bounds.last fits.last,
) refl

-- the header of an exact copy
module _ (table : Table) (which : Which) (sectors entries : ℕ) (most : sectors ≤ 2 ^ 35) (writable : IsWritable table) (fits : TableFits table) (entries_fit : entries < 2 ^ 32) where
  own : ℕ
  own = crc (header_fields table which sectors entries 0)

  header_fits : HeaderFits table sectors entries own
  unfolding own
  header_fits = record {
    most = most;
    disk = fits.disk;
    first = first_fits table.sector writable.sector table.first fits.first;
    last = last_fits table.sector writable.sector table.last fits.last;
    count = omega (arith, writable.entries.most);
    entries_crc = entries_fit;
    own_crc = crc-fits _;
  }

  header_bytes-hold : HoldsTable (header_bytes table which sectors entries) table which sectors entries own
  unfolding header_bytes signed_fields own
  header_bytes-hold = header_fields-hold table which sectors entries own (replicate (table.sector - 92) 0) header_fits

  header_bytes-summed : crc (summed (header_bytes table which sectors entries) 92) ≡ own
  unfolding header_bytes signed_fields own
  header_bytes-summed = ap crc (summed-header_fields table which sectors entries own (replicate (table.sector - 92) 0))

pub reads_back : (table : Table) → IsWritable table → TableFits table → ReadsBack table
reads_back table writable fits which sectors room most =
    let sector = table.sector in
    let entries = table.entries in
    let array = table_entries table in
    let header = header_bytes table which sectors (crc array) in
    let rising = Rising-from 0 table.rows (λ k d h. omega arith) writable.rows.rising in
    let read = reads sector entries writable.sector table.rows writable.rows.rows fits.rows rising entries entries (omega arith) in
    let rows : rows_of sector array entries ≡ table.rows = read.below ∙ filter_all entries table.rows (λ k d h. (writable.rows.rows k d h).slot) in
    let least = sector_least sector writable.sector in
    let holds = header_bytes-hold table which sectors (crc array) most writable fits (crc-fits array) in
    let sum = header_bytes-summed table which sectors (crc array) most writable fits (crc-fits array) in
    let long = length-header_bytes table which sectors (crc array) least in
    let passes = holds-passes header array table which sectors _ least holds sum in
    let bytes = exact table which sectors in
    let read_as : IsReadAs bytes which sector entries header array = unfold exact in record {
      header_is = sym (header_of-in_place which sector header (table_array table) long);
      entries_are = sym (chosen-is sector _ entries header writable.entries (length-exact table writable fits which sectors) holds.count);
      array_is = sym (ap (entry_bytes entries) (array_of-in_place which sector header (table_array table) long) ∙ entry_bytes-table_array table writable fits);
    } in
    answer-table bytes which sectors sector entries header array read_as table (no_fault sector entries which sectors header array passes) read.ordered
    (sym (holds-table header array table which sectors _ writable fits holds rows))
