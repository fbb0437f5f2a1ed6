-- The tests of a copy, as facts on its fields, and what is said of the one that passes them.
use Rattle.std.proofs.Common.{◌≡◌, ℕ, ◌≤◌, true, List, length, Option, Some, None, Ok, Err, refl, sym, ap, ◌∙◌, eq-eqb}
use Rattle.std.proofs.lemmas.Bool.{le-leb}
use Rattle.rp_crc.specs.Crc.{crc}
use Rattle.rp_base.specs.Geometry.{AreEntries, copy_bytes, header_place, array_place}
use Rattle.rp_base.specs.declared.geometry.Which.{Which}
use Rattle.rp_base.specs.declared.table.Table.{Table}
use Rattle.rp_gpt.specs.declared.copy.CopyFault.{CopyFault}
use Rattle.rp_gpt.specs.declared.copy.CopyFault.TheVariants.{RowOrder}
use Rattle.rp_gpt.specs.Fields.{signature, revision, header_size, header_crc, my_lba, array_lba, entry_count, entry_size, array_crc}
use Rattle.rp_gpt.specs.Copy.{header_of, array_of, entry_bytes, is_place, chosen_entries, summed, header_fault, unordered_slot, table_of, unless_fault, judged, answer}

-- the tests that look at no entry
pub record Passes (sector entries : ℕ) (which : Which) (sectors : ℕ) (header array : List ℕ) : Type 0 where
  pub signed : signature header ≡ 0x5452415020494645
  pub revised : revision header ≡ 0x00010000
  pub least : 92 ≤ header_size header
  pub most : header_size header ≤ sector
  pub summed_up : crc (summed header (header_size header)) ≡ header_crc header
  pub placed : my_lba header ≡ header_place which sectors
  pub array_placed : array_lba header ≡ array_place which sector entries sectors
  pub counted : entry_count header ≡ entries
  pub sized : entry_size header ≡ 128
  pub array_summed : crc array ≡ array_crc header

pub no_fault : (sector entries : ℕ) (which : Which) (sectors : ℕ) (header array : List ℕ) → Passes sector entries which sectors header array → header_fault sector entries which sectors header array ≡ None
unfolding header_fault
no_fault sector entries which sectors header array p = rw (
  eq-eqb _ _ p.signed,
  eq-eqb _ _ p.revised,
  le-leb _ _ p.least,
  le-leb _ _ p.most,
  eq-eqb _ _ p.summed_up,
  eq-eqb _ _ p.placed,
  eq-eqb _ _ p.array_placed,
  eq-eqb _ _ p.counted,
  eq-eqb _ _ p.sized,
  eq-eqb _ _ p.array_summed,
) refl

-- the number of entries with which a place is read
pub place-is : (sector bytes entries : ℕ) → AreEntries entries → bytes ≡ copy_bytes entries sector → is_place sector bytes entries ≡ true
place-is sector bytes entries allowed whole = rw (le-leb 128 entries allowed.least, le-leb entries 1024 allowed.most, eq-eqb _ _ whole) refl

pub chosen-is : (sector bytes entries : ℕ) (header : List ℕ) → AreEntries entries → bytes ≡ copy_bytes entries sector → entry_count header ≡ entries → chosen_entries sector bytes header ≡ entries
chosen-is sector bytes entries header allowed whole counted = rw (counted, place-is sector bytes entries allowed whole) refl

-- a place that is read as a header and entries, with their number
pub record IsReadAs (bytes : List ℕ) (which : Which) (sector entries : ℕ) (header array : List ℕ) : Type 0 where
  pub header_is : header ≡ header_of sector bytes which
  pub entries_are : entries ≡ chosen_entries sector (length bytes) header
  pub array_is : array ≡ entry_bytes entries (array_of sector bytes which)

pub read_parts : (bytes : List ℕ) (which : Which) (sector entries : ℕ) (header array : List ℕ) → header ≡ header_of sector bytes which → entries ≡ chosen_entries sector (length bytes) header → array ≡ array_of sector bytes which → IsReadAs bytes which sector entries header (entry_bytes entries array)
read_parts bytes which sector entries header array h n a = record { header_is = h; entries_are = n; array_is = ap (entry_bytes entries) a }

module _ (bytes : List ℕ) (which : Which) (sectors sector entries : ℕ) (header array : List ℕ) (read : IsReadAs bytes which sector entries header array) where
  pub answer-is : answer bytes which sectors sector ≡ unless_fault (header_fault sector entries which sectors header array) (unordered_slot sector array entries) (table_of sector entries header array)
  unfolding answer judged
  answer-is = rw (← read.header_is, ← read.entries_are, ← read.array_is) refl

  -- the first fault, the least slot, or the table
  pub answer-fault : (fault : CopyFault) → header_fault sector entries which sectors header array ≡ Some fault → answer bytes which sectors sector ≡ Err fault
  answer-fault fault e = answer-is ∙ rw e refl

  pub answer-slot : (slot : ℕ) → header_fault sector entries which sectors header array ≡ None → unordered_slot sector array entries ≡ Some slot → answer bytes which sectors sector ≡ Err (RowOrder slot)
  answer-slot slot none e = answer-is ∙ rw (none, e) refl

  pub answer-table : (table : Table) → header_fault sector entries which sectors header array ≡ None → unordered_slot sector array entries ≡ None → table ≡ table_of sector entries header array → answer bytes which sectors sector ≡ Ok table
  answer-table table none ordered e = answer-is ∙ rw (none, ordered, e) refl

-- a table that is said: its entries are in order
said : (fault : Option CopyFault) (slot : Option ℕ) (all table : Table) → unless_fault fault slot all ≡ Ok table → (slot ≡ None) × (all ≡ table)
said None None all table h = (refl, cc)
said None (Some slot) all table h = cc
said (Some fault) slot all table h = cc

pub answer-ok : (bytes : List ℕ) (which : Which) (sectors sector entries : ℕ) (header array : List ℕ) (table : Table) → IsReadAs bytes which sector entries header array → answer bytes which sectors sector ≡ Ok table → (unordered_slot sector array entries ≡ None) × (table_of sector entries header array ≡ table)
answer-ok bytes which sectors sector entries header array table read ok =
    said _ _ _ table (sym (answer-is bytes which sectors sector entries header array read) ∙ ok)
