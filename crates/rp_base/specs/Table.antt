-- What a table must be to be written as a copy (UEFI 2.10, 5.3.3), and to be kept on a disk (the same, 5.3.2).
use Rattle.std.specs.Prelude.{ℕ, ◌≡◌, ◌≢◌, ◌<◌, ◌≤◌, ◌+◌, ◌/◌, ◌%◌, ◌^◌, ◌⊎◌, All, AllPairs, length, replicate}
use Rattle.rp_base.specs.Geometry.{IsSector, AreEntries, first_usable, sector_units, usable_end}
use Rattle.rp_base.specs.declared.table.Row.{Row}
use Rattle.rp_base.specs.declared.table.Table.{Table}

-- a number of units that is a whole number of sectors
abbrev pub IsWhole : ℕ → ℕ → Type 0
IsWhole sector units = units % sector_units sector ≡ 0

-- an entry that a copy can hold: its slot is one of the array's, its type isn't that of an unused entry, it has whole
-- sectors, one at least, and it ends within 2^44 bytes
pub record IsWritableRow (sector entries : ℕ) (row : Row) : Type 0 where
  pub slot : row.slot < entries
  pub used : row.kind.0 ≢ replicate 16 0
  pub size : 1 ≤ row.size
  pub fits : row.start + row.size ≤ 2 ^ 35
  pub start_whole : IsWhole sector row.start
  pub size_whole : IsWhole sector row.size

-- each row can be written, and the slots rise
pub record AreWritableRows (table : Table) : Type 0 where
  pub rows : All (IsWritableRow table.sector table.entries) table.rows
  pub rising : AllPairs (λ a b. a.slot < b.slot) table.rows

-- the bounds are those of whole sectors
pub record AreWholeBounds (table : Table) : Type 0 where
  pub first : IsWhole table.sector table.first
  pub last : IsWhole table.sector (table.last + 1)

-- a table that a copy can hold
pub record IsWritable (table : Table) : Type 0 where
  pub sector : IsSector table.sector
  pub entries : AreEntries table.entries
  pub bounds : AreWholeBounds table
  pub rows : AreWritableRows table

-- two rows share no unit
abbrev pub AreApart : Row → Row → Type 0
AreApart a b = (a.start + a.size ≤ b.start) ⊎ (b.start + b.size ≤ a.start)

-- the rows have units, lie in the table's bounds and share none
pub record IsLaidOut (table : Table) : Type 0 where
  pub sized : All (λ (row : Row). 1 ≤ row.size) table.rows
  pub in_bounds : All (λ (row : Row). (table.first ≤ row.start) × (row.start + row.size ≤ table.last + 1)) table.rows
  pub apart : AllPairs AreApart table.rows

-- the usable units begin behind the primary copy and end before the backup of a disk of so many units
pub record IsBounded (units : ℕ) (table : Table) : Type 0 where
  pub first : first_usable table.sector table.entries ≤ table.first
  pub last : table.last < usable_end table.sector table.entries (units / sector_units table.sector)

-- a table that a disk of so many units may have: it has usable units, between its copies, and its rows are laid out in them
pub record IsInPlace (units : ℕ) (table : Table) : Type 0 where
  pub bounded : IsBounded units table
  pub bounds : table.first ≤ table.last
  pub rows : IsLaidOut table

-- the numbers of a row are within their fields
pub record RowFits (row : Row) : Type 0 where
  pub kind : length row.kind.0 ≡ 16
  pub id : length row.id.0 ≡ 16
  pub attrs : row.attrs < 2 ^ 64
  pub name : length row.name ≡ 36
  pub units : All (λ unit. unit < 2 ^ 16) row.name

-- the numbers of a table are within their fields, as those of each value of the type are
pub record TableFits (table : Table) : Type 0 where
  pub disk : length table.disk.0 ≡ 16
  pub first : table.first < 2 ^ 64
  pub last : table.last < 2 ^ 64
  pub rows : All RowFits table.rows
