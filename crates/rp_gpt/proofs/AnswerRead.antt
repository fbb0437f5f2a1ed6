-- What holds of a table that the bytes of a place say.
use Rattle.std.proofs.Common.{◌≡◌, ℕ, zero, suc, ◌+◌, ◌*◌, ◌^◌, ◌<◌, Bool, true, false, cond, List, [], ◌∷◌, length, get_or, Option, Some, None, Ok, All, refl, sym, ap, ◌∙◌, arith}
use Rattle.std.specs.Prelude.{not, ◌&&◌, ◌==◌, nat_le, slice_range}
use Rattle.std.specs.List.{range_with_len}
use Rattle.std.proofs.lemmas.Bool.Decides.{nat_tests}
use Rattle.std.proofs.lemmas.List.Elements.{All-map, All-take, All-drop}
use Rattle.std.proofs.lemmas.List.FromFn.{length-map-range_with_len}
use Rattle.rp_base.specs.Geometry.{IsSector}
use Rattle.rp_base.specs.Table.{RowFits, TableFits}
use Rattle.rp_base.specs.declared.geometry.Which.{Which}
use Rattle.rp_base.specs.declared.geometry.Which.TheVariants.{Primary, Backup}
use Rattle.rp_base.specs.declared.table.Table.{Table}
use Rattle.rp_gpt.specs.declared.copy.CopyFault.{CopyFault}
use Rattle.rp_gpt.specs.Numbers.{u16_at, u64_at, guid_at, units_at}
use Rattle.rp_gpt.specs.Fields.{signature, revision, header_size, header_crc, my_lba, array_lba, entry_count, entry_size}
use Rattle.rp_crc.specs.Crc.{crc}
use Rattle.rp_base.specs.Geometry.{header_place, array_place}
use Rattle.rp_gpt.specs.Copy.{summed, header_of, array_of, entry_bytes, entry_of, IsPlace, chosen_entries, header_fault, used_slots, unordered_slot, row_of, rows_of, table_of, unless_fault, judged, answer}
use Rattle.rp_gpt.specs.Accepted.{IsRead}
use Rattle.rp_gpt.proofs.Chosen.{chosen-place}
use Rattle.rp_gpt.proofs.Writable.{answer-rows, answer-writable}

-- the bytes of a list
abbrev pub AreBytes : List ℕ → Type 0
AreBytes bytes = All (λ byte. byte < 256) bytes

-- numbers of bytes are within their fields
byte_below : (bytes : List ℕ) → AreBytes bytes → (k : ℕ) → get_or bytes k 0 < 256
byte_below [] are k = omega arith
byte_below (byte ∷ bytes) are zero = are 0 0 (omega arith)
byte_below (byte ∷ bytes) are (suc k) = byte_below bytes (λ i d inside. are (suc i) d (omega arith)) k

slice-AreBytes : (bytes : List ℕ) (from to : ℕ) → AreBytes bytes → AreBytes (slice_range bytes from to)
slice-AreBytes bytes from to are = All-take (λ byte. byte < 256) _ _ (All-drop (λ byte. byte < 256) from bytes are)

u16_at-below : (bytes : List ℕ) (at : ℕ) → AreBytes bytes → u16_at bytes at < 2 ^ 16
unfolding u16_at
u16_at-below bytes at are =
    let below = byte_below (slice_range bytes at (at + 2)) (slice-AreBytes bytes at (at + 2) are) in
    omega (arith, below 0, below 1)

u64_at-below : (bytes : List ℕ) (at : ℕ) → AreBytes bytes → u64_at bytes at < 2 ^ 64
unfolding u64_at
u64_at-below bytes at are =
    let below = byte_below (slice_range bytes at (at + 8)) (slice-AreBytes bytes at (at + 8) are) in
    omega (arith, below 0, below 1, below 2, below 3, below 4, below 5, below 6, below 7)

guid_at-length : (bytes : List ℕ) (at : ℕ) → length (guid_at bytes at).0 ≡ 16
unfolding guid_at
guid_at-length bytes at = refl

row_of-fits : (sector : ℕ) (entry : List ℕ) (slot : ℕ) → AreBytes entry → RowFits (row_of sector entry slot)
unfolding row_of units_at
row_of-fits sector entry slot are = record {
  kind = guid_at-length entry 0;
  id = guid_at-length entry 16;
  attrs = u64_at-below entry 48 are;
  name = length-map-range_with_len (λ k. u16_at entry (56 + 2 * k)) 0 36;
  units = All-map (λ unit. unit < 2 ^ 16) (λ k. u16_at entry (56 + 2 * k)) (range_with_len 0 36) (λ k d inside. u16_at-below entry _ are);
}

rows_of-fit : (sector : ℕ) (array : List ℕ) (count : ℕ) → AreBytes array → All RowFits (rows_of sector array count)
unfolding rows_of entry_of
rows_of-fit sector array count are =
    All-map RowFits (λ slot. row_of sector (entry_of array slot) slot) (used_slots array count)
    (λ k d inside. row_of-fits sector _ _ (slice-AreBytes array _ _ are))

-- what an answer that is a table was made of
unless_fault-ok : (fault : Option CopyFault) (slot : Option ℕ) (made table : Table) → unless_fault fault slot made ≡ Ok table → (fault ≡ None) × (slot ≡ None) × (made ≡ table)
unless_fault-ok None None made table e = (refl, refl, cc)
unless_fault-ok None (Some slot) made table e = cc
unless_fault-ok (Some fault) slot made table e = cc

first_same : (a b c d : ℕ) → (a == b && c == d) ≡ true → a ≡ b
first_same a b c d both = grind (arith, nat_tests)

-- a test that a header passes
past : (failed : Bool) (fault : CopyFault) (rest : Option CopyFault) → cond failed (Some fault) rest ≡ None → rest ≡ None
past true fault rest h = cc
past false fault rest h = h

not_none : (passes : Bool) (fault : CopyFault) (rest : Option CopyFault) → cond (not passes) (Some fault) rest ≡ None → passes ≡ true
not_none true fault rest h = refl
not_none false fault rest h = cc

module _ (bytes : List ℕ) (which : Which) (sectors sector : ℕ) (table : Table) (says : answer bytes which sectors sector ≡ Ok table) where
  header : List ℕ
  header = header_of sector bytes which

  entries : ℕ
  entries = chosen_entries sector (length bytes) (header_of sector bytes which)

  array : List ℕ
  array = entry_bytes entries (array_of sector bytes which)

  answer-made : (header_fault sector entries which sectors header array ≡ None) × (unordered_slot sector array entries ≡ None) × (table_of sector entries header array ≡ table)
  unfolding answer judged header entries array
  answer-made = unless_fault-ok (header_fault sector entries which sectors header array) (unordered_slot sector array entries) _ table says

  -- the table is of these sectors, and has the entries that the place is read with
  pub answer-sector : table.sector ≡ sector
  unfolding table_of
  answer-sector = ap (λ (t : Table). t.sector) (sym answer-made.2)

  pub answer-entries : table.entries ≡ chosen_entries sector (length bytes) (header_of sector bytes which)
  unfolding table_of entries
  answer-entries = ap (λ (t : Table). t.entries) (sym answer-made.2)

  -- the header says so many
  pub answer-count : entry_count (header_of sector bytes which) ≡ table.entries
  unfolding header_fault header entries
  answer-count =
      let signed = past (not (signature header == 0x5452415020494645)) _ _ answer-made.0 in
      let revised = past (not (revision header == 0x00010000)) _ _ signed in
      let sized = past (not (nat_le 92 (header_size header) && nat_le (header_size header) sector)) _ _ revised in
      let summed_up = past (not (crc (summed header (header_size header)) == header_crc header)) _ _ sized in
      let placed = past (not (my_lba header == header_place which sectors)) _ _ summed_up in
      let array_placed = past (not (array_lba header == array_place which sector entries sectors)) _ _ placed in
      let counted : (entry_count header == entries && entry_size header == 128) ≡ true = not_none (entry_count header == entries && entry_size header == 128) _ _ array_placed in
      first_same (entry_count header) entries (entry_size header) 128 counted ∙ sym answer-entries

  -- its numbers are within their fields
  pub answer-fits : AreBytes bytes → TableFits table
  unfolding table_of header array header_of array_of
  answer-fits are = rw (← answer-made.2) record {
    disk = guid_at-length header 56;
    first = omega arith;
    last = omega arith;
    rows = rows_of-fit sector array entries (All-take (λ byte. byte < 256) _ _ (array_bytes_are which));
  } where
    array_bytes_are : (which : Which) → AreBytes (array_of sector bytes which)
    array_bytes_are Primary = All-drop (λ byte. byte < 256) sector bytes are
    array_bytes_are Backup = All-take (λ byte. byte < 256) _ bytes are

-- a table that a place says, on a disk of so many sectors
pub answer-read : (bytes : List ℕ) (which : Which) (sectors sector : ℕ) (table : Table) → IsSector sector → IsPlace sector sectors (length bytes) → TableFits table
    → answer bytes which sectors sector ≡ Ok table → IsRead sector sectors table
answer-read bytes which sectors sector table is place fits says =
    let chosen = chosen-place sector sectors (length bytes) (header_of sector bytes which) is place in
    record {
      of_sector = answer-sector bytes which sectors sector table says;
      room = rw (answer-entries bytes which sectors sector table says) (chosen.room);
      writable = answer-writable bytes which sectors sector table is place says;
      rows = answer-rows bytes which sectors sector table is says;
      fits = fits;
    }
