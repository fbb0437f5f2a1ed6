-- What decides what an image shows.
use Rattle.std.specs.Prelude.{ℕ, ◌≡◌, ◌≤◌, ◌*◌, ◌^◌, List, length, take, true, Option, Some, None, MatchOption, Result, Ok, Err}
use Rattle.rp_base.specs.Geometry.{IsSector, copy_bytes, least_sectors}
use Rattle.rp_base.specs.declared.geometry.Which.{Which}
use Rattle.rp_base.specs.declared.geometry.Which.TheVariants.{Primary, Backup}
use Rattle.rp_base.specs.declared.table.Table.{Table}
use Rattle.rp_gpt.specs.declared.copy.CopyFault.{CopyFault}
use Rattle.rp_gpt.specs.declared.copy.CopyFault.TheVariants as copies
use Rattle.rp_gpt.specs.declared.table_fault.TableFault.{TableFault}
use Rattle.rp_gpt.specs.declared.table_fault.TableFault.TheVariants as faults
use Rattle.rp_gpt.specs.Shown.{Told, shows, refuses, nothing, told, entries_at, may_have, place_of}
use Rattle.rp_table.specs.declared.pieces.Pieces.{Pieces}
use Rattle.rp_table.specs.declared.pieces.Place.{Place}

-- the place of a copy
abbrev pub place_in : Pieces → Which → Place
place_in pieces Primary = pieces.primary
place_in pieces Backup = pieces.backup

-- a disk of so many sectors of this size may have a table
pub record IsDisk (sector sectors : ℕ) : Type 0 where
  pub size : IsSector sector
  pub least : least_sectors sector 128 ≤ sectors
  pub most : sector * sectors ≤ 2 ^ 44

-- a place has the bytes of its entries, of which a copy may have so many
pub record IsSized (sector sectors : ℕ) (place : Place) : Type 0 where
  pub entries : may_have sector sectors place.entries ≡ true
  pub len : length place.bytes ≡ copy_bytes place.entries sector

-- pieces as long as those of a disk
pub record AreSized (pieces : Pieces) : Type 0 where
  pub disk : IsDisk pieces.sector pieces.sectors
  pub first : length pieces.first ≡ 512
  pub primary : IsSized pieces.sector pieces.sectors pieces.primary
  pub backup : IsSized pieces.sector pieces.sectors pieces.backup

-- a place is that of an image
pub record IsPlaceOf (sector : ℕ) (image : List ℕ) (which : Which) (place : Place) : Type 0 where
  pub entries : place.entries ≡ entries_at sector image which
  pub bytes : place.bytes ≡ place_of sector image place.entries which

-- the pieces of an image of whole sectors
pub record ArePieces (image : List ℕ) (pieces : Pieces) : Type 0 where
  pub len : length image ≡ pieces.sector * pieces.sectors
  pub first : pieces.first ≡ take 512 image
  pub primary : IsPlaceOf pieces.sector image Primary pieces.primary
  pub backup : IsPlaceOf pieces.sector image Backup pieces.backup

-- what a place tells, as an answer: a table, none, or a fault that refuses the image
abbrev pub table_told : Told → Result (Option Table) TableFault
table_told (shows table) = Ok (Some table)
table_told (refuses fault) = Err fault
table_told nothing = Ok None

-- the same of what a reading answers, which may have found no memory
abbrev pub table_or_memory : Result Table CopyFault → Result (Option Table) TableFault
table_or_memory (Err copies.Memory) = Err faults.Memory
table_or_memory said = table_told (told said)

-- a place tells a table, or nothing
abbrev pub TellsTable : Told → Option Table → Type 0
TellsTable said table = MatchOption table (said ≡ nothing) (λ table. said ≡ shows table)
