-- The header of an exact copy reads back.
use Rattle.std.proofs.Common.{◌≡◌, ℕ, ◌+◌, ◌-◌, ◌/◌, ◌^◌, ◌<◌, ◌≤◌, List, ◌++◌, length, drop, replicate, refl, ap, ◌∙◌, arith}
use Rattle.std.proofs.lemmas.List.{length-append, length-replicate, append-nil, append_assoc, take_at, drop_at}
use Rattle.rp_base.specs.declared.table.Table.{Table}
use Rattle.rp_base.specs.Geometry.{sector_units, header_place, array_place}
use Rattle.rp_base.specs.declared.geometry.Which.{Which}
use Rattle.rp_base.specs.declared.geometry.Which.TheVariants.{Primary, Backup}
use Rattle.rp_gpt.specs.Numbers.{u32_bytes, u64_bytes, guid_bytes}
use Rattle.rp_gpt.specs.Fields.{signature, revision, header_size, header_crc, my_lba, first_usable_lba, last_usable_lba, disk_guid, array_lba, entry_count, entry_size, array_crc}
use Rattle.rp_gpt.specs.Copy.{header_fields, signed_fields, header_bytes, other, summed}
use Rattle.rp_gpt.proofs.Fields.{behind, length-u32_bytes, length-u64_bytes, length-guid_bytes, u32_at-field, u64_at-field, guid_at-field}

-- the places fit their fields
pub header_place-fits : (which : Which) (sectors : ℕ) → sectors ≤ 2 ^ 35 → header_place which sectors < 2 ^ 64
header_place-fits Primary sectors h = omega arith
header_place-fits Backup sectors h = omega arith

pub array_place-fits : (which : Which) (sector entries sectors : ℕ) → sectors ≤ 2 ^ 35 → array_place which sector entries sectors < 2 ^ 64
array_place-fits Primary sector entries sectors h = omega arith
array_place-fits Backup sector entries sectors h = omega arith

pub length-header_fields : (table : Table) (which : Which) (sectors entries own : ℕ) → length (header_fields table which sectors entries own) ≡ 92
unfolding header_fields
length-header_fields table which sectors entries own = simp (length-append, length-guid_bytes, length-u64_bytes, length-u32_bytes)

pub length-signed_fields : (table : Table) (which : Which) (sectors entries : ℕ) → length (signed_fields table which sectors entries) ≡ 92
unfolding signed_fields
length-signed_fields table which sectors entries = length-header_fields table which sectors entries _

pub length-header_bytes : (table : Table) (which : Which) (sectors entries : ℕ) → 512 ≤ table.sector → length (header_bytes table which sectors entries) ≡ table.sector
unfolding header_bytes
length-header_bytes table which sectors entries least =
    length-append (signed_fields table which sectors entries) (replicate (table.sector - 92) 0)
    ∙ omega (arith, length-signed_fields table which sectors entries, length-replicate {A = ℕ} (table.sector - 92) 0)

-- a header with the fields of a table
pub record HoldsTable (header : List ℕ) (table : Table) (which : Which) (sectors entries own : ℕ) : Type 0 where
  pub signed : signature header ≡ 0x5452415020494645
  pub revised : revision header ≡ 0x00010000
  pub sized : header_size header ≡ 92
  pub own_crc : header_crc header ≡ own
  pub placed : my_lba header ≡ header_place which sectors
  pub first : first_usable_lba header ≡ table.first / sector_units table.sector
  pub last : last_usable_lba header ≡ (table.last + 1) / sector_units table.sector - 1
  pub disk : disk_guid header ≡ table.disk
  pub array_placed : array_lba header ≡ array_place which table.sector table.entries sectors
  pub count : entry_count header ≡ table.entries
  pub size : entry_size header ≡ 128
  pub entries_crc : array_crc header ≡ entries

-- the numbers of a header are within their fields
pub record HeaderFits (table : Table) (sectors entries own : ℕ) : Type 0 where
  pub most : sectors ≤ 2 ^ 35
  pub disk : length table.disk.0 ≡ 16
  pub first : table.first / sector_units table.sector < 2 ^ 64
  pub last : (table.last + 1) / sector_units table.sector - 1 < 2 ^ 64
  pub count : table.entries < 2 ^ 32
  pub entries_crc : entries < 2 ^ 32
  pub own_crc : own < 2 ^ 32

pub header_fields-hold : (table : Table) (which : Which) (sectors entries own : ℕ) (rest : List ℕ) → HeaderFits table sectors entries own → HoldsTable (header_fields table which sectors entries own ++ rest) table which sectors entries own
unfolding header_fields
header_fields-hold table which sectors entries own rest fits =
    let bytes = header_fields table which sectors entries own ++ rest in
    let first = table.first / sector_units table.sector in
    let last = (table.last + 1) / sector_units table.sector - 1 in
    let place = array_place which table.sector table.entries sectors in
    let at_0 : drop 0 bytes ≡ u64_bytes 0x5452415020494645 ++ (u32_bytes 0x00010000 ++ (u32_bytes 92 ++ (u32_bytes own ++ (u32_bytes 0
    ++ (u64_bytes (header_place which sectors) ++ (u64_bytes (header_place (other which) sectors) ++ (u64_bytes first ++ (u64_bytes last
    ++ (guid_bytes table.disk ++ (u64_bytes place ++ (u32_bytes table.entries ++ (u32_bytes 128 ++ (u32_bytes entries ++ rest)))))))))))))
    = simp (append_assoc, append-nil) in
    let at_8 = behind bytes 0 8 8 (u64_bytes 0x5452415020494645) _ at_0 (length-u64_bytes 0x5452415020494645) refl in
    let at_12 = behind bytes 8 4 12 (u32_bytes 0x00010000) _ at_8 (length-u32_bytes 0x00010000) refl in
    let at_16 = behind bytes 12 4 16 (u32_bytes 92) _ at_12 (length-u32_bytes 92) refl in
    let at_20 = behind bytes 16 4 20 (u32_bytes own) _ at_16 (length-u32_bytes own) refl in
    let at_24 = behind bytes 20 4 24 (u32_bytes 0) _ at_20 (length-u32_bytes 0) refl in
    let at_32 = behind bytes 24 8 32 (u64_bytes (header_place which sectors)) _ at_24 (length-u64_bytes (header_place which sectors)) refl in
    let at_40 = behind bytes 32 8 40 (u64_bytes (header_place (other which) sectors)) _ at_32 (length-u64_bytes (header_place (other which) sectors)) refl in
    let at_48 = behind bytes 40 8 48 (u64_bytes first) _ at_40 (length-u64_bytes first) refl in
    let at_56 = behind bytes 48 8 56 (u64_bytes last) _ at_48 (length-u64_bytes last) refl in
    let at_72 = behind bytes 56 16 72 (guid_bytes table.disk) _ at_56 (length-guid_bytes table.disk) refl in
    let at_80 = behind bytes 72 8 80 (u64_bytes place) _ at_72 (length-u64_bytes place) refl in
    let at_84 = behind bytes 80 4 84 (u32_bytes table.entries) _ at_80 (length-u32_bytes table.entries) refl in
    let at_88 = behind bytes 84 4 88 (u32_bytes 128) _ at_84 (length-u32_bytes 128) refl in
    record {
      signed = u64_at-field bytes 0 0x5452415020494645 _ at_0 (omega arith);
      revised = u32_at-field bytes 8 0x00010000 _ at_8 (omega arith);
      sized = u32_at-field bytes 12 92 _ at_12 (omega arith);
      own_crc = u32_at-field bytes 16 own _ at_16 fits.own_crc;
      placed = u64_at-field bytes 24 (header_place which sectors) _ at_24 (header_place-fits which sectors fits.most);
      first = u64_at-field bytes 40 first _ at_40 fits.first;
      last = u64_at-field bytes 48 last _ at_48 fits.last;
      disk = guid_at-field bytes 56 table.disk _ at_56 fits.disk;
      array_placed = u64_at-field bytes 72 place _ at_72 (array_place-fits which table.sector table.entries sectors fits.most);
      count = u32_at-field bytes 80 table.entries _ at_80 fits.count;
      size = u32_at-field bytes 84 128 _ at_84 (omega arith);
      entries_crc = u32_at-field bytes 88 entries _ at_88 fits.entries_crc;
    }

-- the checksum's field is left out of what it is over
summed-parts : (front own back rest : List ℕ) → length front ≡ 16 → length own ≡ 4 → length back ≡ 72 → summed (front ++ (own ++ (back ++ rest))) 92 ≡ front ++ (replicate 4 0 ++ back)
unfolding summed
summed-parts front own back rest f o b =
    rw (
      take_at front (own ++ (back ++ rest)) 16 f,
      behind (front ++ (own ++ (back ++ rest))) 16 4 20 own (back ++ rest) (drop_at front (own ++ (back ++ rest)) 16 f) o refl,
      take_at back rest 72 b,
    ) (append_assoc front (replicate 4 0) back)

zeros_are : replicate 4 0 ≡ u32_bytes 0
unfolding u32_bytes
zeros_are = refl

pub summed-header_fields : (table : Table) (which : Which) (sectors entries own : ℕ) (rest : List ℕ) → summed (header_fields table which sectors entries own ++ rest) 92 ≡ header_fields table which sectors entries 0
unfolding header_fields
summed-header_fields table which sectors entries own rest =
    let front : List ℕ = u64_bytes 0x5452415020494645 ++ (u32_bytes 0x00010000 ++ u32_bytes 92) in
    let back : List ℕ = u32_bytes 0 ++ (u64_bytes (header_place which sectors) ++ (u64_bytes (header_place (other which) sectors)
    ++ (u64_bytes (table.first / sector_units table.sector) ++ (u64_bytes ((table.last + 1) / sector_units table.sector - 1)
    ++ (guid_bytes table.disk ++ (u64_bytes (array_place which table.sector table.entries sectors)
    ++ (u32_bytes table.entries ++ (u32_bytes 128 ++ u32_bytes entries)))))))) in
    let whole : header_fields table which sectors entries own ++ rest ≡ front ++ (u32_bytes own ++ (back ++ rest)) = simp (append_assoc, append-nil) in
    let without : front ++ (u32_bytes 0 ++ back) ≡ header_fields table which sectors entries 0 = simp (append_assoc, append-nil) in
    ap (λ bytes. summed bytes 92) whole
    ∙ summed-parts front (u32_bytes own) back rest (simp (length-append, length-u64_bytes, length-u32_bytes)) (length-u32_bytes own)
    (simp (length-append, length-guid_bytes, length-u64_bytes, length-u32_bytes))
    ∙ ap (λ zeros. front ++ (zeros ++ back)) zeros_are ∙ without
