-- What holds of each image that is accepted: own rules.
use Rattle.std.specs.Prelude.{ℕ, ◌≡◌, ◌≢◌, ◌<◌, ◌≤◌, ◌*◌, ◌-◌, ◌/◌, ◌^◌, ◌↔◌, IsTrue, Bool, List, length, take, None}
use Rattle.rp_base.specs.Geometry.{least_sectors, sector_units}
use Rattle.rp_base.specs.Image.{sectors_of}
use Rattle.rp_base.specs.Table.{AreWritableRows, IsInPlace, IsWhole, IsWritable, TableFits}
use Rattle.rp_base.specs.declared.geometry.Which.{Which}
use Rattle.rp_base.specs.declared.geometry.Which.TheVariants.{Primary, Backup}
use Rattle.rp_base.specs.declared.table.Table.{Table}
use Rattle.rp_base.specs.declared.seen.Seen.{Seen}
use Rattle.rp_base.specs.declared.seen.Origin.{Origin}
use Rattle.rp_base.specs.declared.seen.Origin.TheVariants as origins
use Rattle.rp_gpt.specs.Copy.{exact}
use Rattle.rp_gpt.specs.Mbr.{mbr_state}
use Rattle.rp_gpt.specs.Shown.{shows, nothing, told_at, place_of, wider_copy, blank}

-- a table that a copy says, on a disk of so many sectors: it can be written, but where its first bound has more than 64 bits
pub record IsRead (sector sectors : ℕ) (table : Table) : Type 0 where
  pub of_sector : table.sector ≡ sector
  pub room : least_sectors sector table.entries ≤ sectors
  pub writable : table.first < 2 ^ 64 - 1 → IsWritable table
  pub rows : AreWritableRows table
  pub fits : TableFits table

-- what is seen of a disk of sectors of so many bytes: it has whole sectors, no fewer than two copies of the shown table
-- need and no more than 2^44 bytes, and the shown table can be written and is in place
pub record IsSeen (sector : ℕ) (seen : Seen) : Type 0 where
  pub of_sector : seen.shown.sector ≡ sector
  pub whole : IsWhole sector seen.sectors
  pub room : least_sectors sector seen.shown.entries ≤ seen.sectors / sector_units sector
  pub most : seen.sectors ≤ 2 ^ 35
  pub writable : IsWritable seen.shown
  pub fits : TableFits seen.shown
  pub in_place : IsInPlace seen.sectors seen.shown

-- what the places tell, by the one whose copy is shown: those before it tell nothing
abbrev pub TellBy : Origin → ℕ → List ℕ → Table → Type 0
TellBy origins.Primary sector image table = told_at sector image Primary ≡ shows table
TellBy origins.Backup sector image table = (told_at sector image Primary ≡ nothing) × (told_at sector image Backup ≡ shows table)
TellBy origins.Neither sector image table =
    (told_at sector image Primary ≡ nothing) × (told_at sector image Backup ≡ nothing) × (table ≡ blank sector (sectors_of sector image))

-- a place of an image holds the exact copy of a table that a copy shows
pub record HoldsShown (sector : ℕ) (image : List ℕ) (seen : Seen) (which : Which) : Type 0 where
  pub origin : seen.origin ≢ origins.Neither
  pub exact : place_of sector image seen.shown.entries which ≡ exact seen.shown which (sectors_of sector image)

-- what is seen of an image that is accepted
pub record IsSeenOf (sector : ℕ) (image : List ℕ) (seen : Seen) : Type 0 where
  pub len : length image ≡ 512 * seen.sectors
  pub tell : TellBy seen.origin sector image seen.shown
  pub wider : wider_copy sector image seen.origin seen.shown ≡ None
  pub primary_same : IsTrue seen.primary_same ↔ HoldsShown sector image seen Primary
  pub backup_same : IsTrue seen.backup_same ↔ HoldsShown sector image seen Backup
  pub mbr : seen.mbr ≡ mbr_state (take 512 image) (sectors_of sector image)

-- an image of whole sectors, at most 2^44 bytes, whose places hold the exact copies of a table that is in place on it
pub record HoldsTable (image : List ℕ) (table : Table) : Type 0 where
  pub whole : length image ≡ table.sector * sectors_of table.sector image
  pub most : length image ≤ 2 ^ 44
  pub in_place : IsInPlace (sectors_of 512 image) table
  pub places : (which : Which) → place_of table.sector image table.entries which ≡ exact table which (sectors_of table.sector image)

-- what is seen of an image, with what is said of the shown table
abbrev pub seen_record : ℕ → List ℕ → Origin → Table → Bool → Bool → Seen
seen_record sector image origin table primary_same backup_same = record {
  sectors = sectors_of 512 image;
  shown = table;
  origin = origin;
  primary_same = primary_same;
  backup_same = backup_same;
  mbr = mbr_state (take 512 image) (sectors_of sector image);
}
