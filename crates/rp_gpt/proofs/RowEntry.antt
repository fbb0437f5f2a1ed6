-- The entry of a row reads back.
use Rattle.std.proofs.Common.{◌≡◌, ℕ, ◌+◌, ◌-◌, ◌/◌, true, false, not, List, length, replicate, refl, ap, ◌∙◌, arith, le-leb}
use Rattle.std.proofs.lemmas.List.{length-append}
use Rattle.std.proofs.lemmas.Bool.{false_from_ne_true}
use Rattle.rp_base.specs.declared.table.Row.{Row}
use Rattle.rp_base.specs.Geometry.{IsSector, sector_units}
use Rattle.rp_base.specs.Table.{IsWritableRow, RowFits}
use Rattle.rp_gpt.specs.Numbers.{guid_at, u64_bytes, guid_bytes}
use Rattle.rp_gpt.specs.Fields.{type_guid, unique_guid, first_lba, last_lba, attributes, name_units}
use Rattle.rp_gpt.specs.Copy.{row_bytes, row_of, is_used, is_ordered}
use Rattle.rp_gpt.proofs.Parts.{zeros_from_all}
use Rattle.rp_gpt.proofs.Sectors.{AreSectors, whole_sectors}
use Rattle.rp_gpt.proofs.Fields.{behind, length-u64_bytes, length-guid_bytes, length-units_bytes, guid_at-field, u64_at-field, units_at-field}

pub length-row_bytes : (sector : ℕ) (row : Row) → RowFits row → length (row_bytes sector row) ≡ 128
unfolding row_bytes
length-row_bytes sector row fits =
    simp (length-append, length-guid_bytes, length-u64_bytes, length-units_bytes) (omega (arith, fits.name))

-- the sectors of a row that can be written
pub row_sectors : (sector entries : ℕ) (row : Row) → IsSector sector → IsWritableRow sector entries row → AreSectors sector row.start row.size
row_sectors sector entries row is writable = whole_sectors sector row.start row.size is record {
  some = writable.size;
  fits = writable.fits;
  start_whole = writable.start_whole;
  size_whole = writable.size_whole;
}

-- an entry with the fields of a row
pub record Holds (sector : ℕ) (entry : List ℕ) (row : Row) : Type 0 where
  pub kind : type_guid entry ≡ row.kind
  pub id : unique_guid entry ≡ row.id
  pub first : first_lba entry ≡ row.start / sector_units sector
  pub last : last_lba entry ≡ (row.start + row.size) / sector_units sector - 1
  pub attrs : attributes entry ≡ row.attrs
  pub name : name_units entry ≡ row.name

pub row_bytes-holds : (sector : ℕ) (row : Row) → AreSectors sector row.start row.size → RowFits row → Holds sector (row_bytes sector row) row
unfolding row_bytes
row_bytes-holds sector row sectors fits =
    let bytes = row_bytes sector row in
    let first_sector = row.start / sector_units sector in
    let last_sector = (row.start + row.size) / sector_units sector - 1 in
    let id = behind bytes 0 16 16 (guid_bytes row.kind) _ refl (length-guid_bytes row.kind) refl in
    let first = behind bytes 16 16 32 (guid_bytes row.id) _ id (length-guid_bytes row.id) refl in
    let last = behind bytes 32 8 40 (u64_bytes first_sector) _ first (length-u64_bytes first_sector) refl in
    let attrs = behind bytes 40 8 48 (u64_bytes last_sector) _ last (length-u64_bytes last_sector) refl in
    let name = behind bytes 48 8 56 (u64_bytes row.attrs) _ attrs (length-u64_bytes row.attrs) refl in
    record {
      kind = guid_at-field bytes 0 row.kind _ refl fits.kind;
      id = guid_at-field bytes 16 row.id _ id fits.id;
      first = u64_at-field bytes 32 first_sector _ first sectors.first;
      last = u64_at-field bytes 40 last_sector _ last sectors.last;
      attrs = u64_at-field bytes 48 row.attrs _ attrs fits.attrs;
      name = units_at-field bytes 56 36 row.name _ name fits.name fits.units;
    }

module _ (sector : ℕ) (entry : List ℕ) (row : Row) (fits : RowFits row) (holds : Holds sector entry row) where
  pub holds-used : (row.kind.0 ≡ replicate 16 0 → ⊥) → is_used entry ≡ true
  unfolding is_used
  holds-used used = ap not (false_from_ne_true _ (λ all. used (zeros_from_all row.kind.0 (rw holds.kind at all) ∙ ap (λ n. replicate n 0) fits.kind)))

  pub holds-ordered : AreSectors sector row.start row.size → is_ordered sector entry ≡ true
  unfolding is_ordered
  holds-ordered sectors = rw (holds.first, holds.last, le-leb _ _ sectors.ordered, le-leb _ _ sectors.ends) refl

  pub holds-row : AreSectors sector row.start row.size → (slot : ℕ) → row.slot ≡ slot → row_of sector entry slot ≡ row
  unfolding row_of
  holds-row sectors slot at = rw (holds.kind, holds.id, holds.last, holds.first, holds.attrs, holds.name, sectors.start_is, sectors.size_is, ← at) refl

-- an entry of zeros isn't used
pub zeros-unused : is_used (replicate 128 0) ≡ false
unfolding is_used guid_at
zeros-unused = refl
