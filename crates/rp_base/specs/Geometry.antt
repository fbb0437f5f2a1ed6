-- Where a table lies on a disk, by the bytes of a sector and the number of entries (UEFI 2.10, 5.3.1). A copy is a header
-- in one sector and an array of entries of 128 bytes; the primary follows LBA 0, and the backup ends with the last LBA.
use Rattle.std.specs.Prelude.{ℕ, ◌≡◌, ◌⊎◌, ◌≤◌, ◌+◌, ◌*◌, ◌-◌, ◌/◌}
use Rattle.rp_base.specs.declared.geometry.Which.{Which}
use Rattle.rp_base.specs.declared.geometry.Which.TheVariants.{Primary, Backup}

-- a sector has 512 or 4,096 bytes
abbrev pub IsSector : ℕ → Type 0
IsSector sector = (sector ≡ 512) ⊎ (sector ≡ 4096)

-- a table has 128 to 1,024 entries: own limits, the standard asks for 16,384 bytes at least (UEFI 2.10, 5.3.1)
pub record AreEntries (entries : ℕ) : Type 0 where
  pub least : 128 ≤ entries
  pub most : entries ≤ 1024

-- how many units of 512 bytes a sector has
abbrev pub sector_units : ℕ → ℕ
sector_units sector = sector / 512

-- how many sectors the array of so many entries takes
abbrev pub array_sectors : ℕ → ℕ → ℕ
array_sectors sector entries = (128 * entries + sector - 1) / sector

-- the bytes of a copy: its header's sector and those of its array
abbrev pub copy_bytes : ℕ → ℕ → ℕ
copy_bytes entries sector = sector * (1 + array_sectors sector entries)

-- the least disk: LBA 0, two copies, and a sector between them
abbrev pub least_sectors : ℕ → ℕ → ℕ
least_sectors sector entries = 4 + 2 * array_sectors sector entries

-- the first unit that partitions may use, behind the primary
abbrev pub first_usable : ℕ → ℕ → ℕ
first_usable sector entries = sector_units sector * (2 + array_sectors sector entries)

-- the first unit behind those that partitions may use: where the backup begins on a disk of so many sectors
abbrev pub usable_end : ℕ → ℕ → ℕ → ℕ
usable_end sector entries sectors = sector_units sector * (sectors - 1 - array_sectors sector entries)

-- the sector of a header
abbrev pub header_place : Which → ℕ → ℕ
header_place Primary sectors = 1
header_place Backup sectors = sectors - 1

-- the first sector of an array
abbrev pub array_place : Which → ℕ → ℕ → ℕ → ℕ
array_place Primary sector entries sectors = 2
array_place Backup sector entries sectors = sectors - 1 - array_sectors sector entries

-- the first sector of a copy: the primary's header, the backup's array
abbrev pub copy_place : Which → ℕ → ℕ → ℕ → ℕ
copy_place Primary sector entries sectors = header_place Primary sectors
copy_place Backup sector entries sectors = array_place Backup sector entries sectors
