-- What an image of sectors of so many bytes shows, and whether it is accepted: own rules, where no section is named.
use Rattle.std.specs.Prelude.{ℕ, ◌+◌, ◌*◌, ◌/◌, ◌%◌, ◌-◌, ◌^◌, List, [], ◌∷◌, length, take, replicate, Bool, false, not, ◌&&◌, ◌||◌, ◌==◌, nat_lt, nat_le, if◌then◌else◌, find, option_map, Option, Some, None, Result, Ok, Err}
use Rattle.std.specs.Option.{option_or}
use Rattle.std.specs.Str.{bytes_eq}
use Rattle.rp_base.specs.Geometry.{copy_bytes, copy_place, first_usable, header_place, least_sectors, usable_end}
use Rattle.rp_base.specs.Image.{bytes_at, sectors_of}
use Rattle.rp_base.specs.declared.geometry.Which.{Which}
use Rattle.rp_base.specs.declared.geometry.Which.TheVariants.{Primary, Backup}
use Rattle.rp_base.specs.declared.table.Row.{Row}
use Rattle.rp_base.specs.declared.table.Table.{Table}
use Rattle.rp_base.specs.declared.seen.Seen.{Seen}
use Rattle.rp_base.specs.declared.seen.Origin.{Origin}
use Rattle.rp_base.specs.declared.seen.Origin.TheVariants as origins
use Rattle.rp_gpt.specs.declared.copy.CopyFault.{CopyFault}
use Rattle.rp_gpt.specs.declared.copy.CopyFault.TheVariants as copies
use Rattle.rp_gpt.specs.declared.table_fault.Empty.{Empty}
use Rattle.rp_gpt.specs.declared.table_fault.Empty.TheVariants.{Refuse, Require}
use Rattle.rp_gpt.specs.declared.table_fault.TableFault.{TableFault}
use Rattle.rp_gpt.specs.declared.table_fault.TableFault.TheVariants as faults
use Rattle.rp_gpt.specs.Copy.{answer, exact}
use Rattle.rp_gpt.specs.Fields.{entry_count}
use Rattle.rp_gpt.specs.Mbr.{foreign_type, mbr_state}

-- the sector of a place's header: LBA 1, or the last one (UEFI 2.10, 5.3.1)
unfoldable pub header_at : ℕ → List ℕ → Which → List ℕ
header_at sector image which = bytes_at image (sector * header_place which (sectors_of sector image)) sector

-- a copy may have so many entries: 128 to 1,024, and an image of so many sectors has room for two such copies
abbrev pub may_have : ℕ → ℕ → ℕ → Bool
may_have sector sectors entries = nat_le 128 entries && nat_le entries 1024 && nat_le (least_sectors sector entries) sectors

-- the number of entries that a header says, or 128 where a copy may not have so many
abbrev pub entries_or_least : ℕ → ℕ → ℕ → ℕ
entries_or_least sector sectors entries = if may_have sector sectors entries then entries else 128

-- the number of entries of the copy in a place
unfoldable pub entries_at : ℕ → List ℕ → Which → ℕ
entries_at sector image which = entries_or_least sector (sectors_of sector image) (entry_count (header_at sector image which))

-- the bytes of a place, for a copy of so many entries: those from LBA 1 on, or the last ones (UEFI 2.10, 5.3.1)
unfoldable pub place_of : ℕ → List ℕ → ℕ → Which → List ℕ
place_of sector image entries which =
    bytes_at image (sector * copy_place which sector entries (sectors_of sector image)) (copy_bytes entries sector)

-- what the bytes of a place say
unfoldable pub answer_at : ℕ → List ℕ → Which → Result Table CopyFault
answer_at sector image which =
    answer (place_of sector image (entries_at sector image which) which) which (sectors_of sector image) sector

-- what a place tells of the image: its table, that the image is refused, or nothing
pub data Told : Type 0 where
  shows : Table → Told
  refuses : TableFault → Told
  nothing : Told

-- a place tells something
abbrev pub IsTold : Told → Type 0
IsTold (shows table) = Unit {0}
IsTold (refuses fault) = Unit {0}
IsTold nothing = ⊥

-- a copy whose first fault is its array's place, its counts or an entry's order can't be kept, and refuses the image; every
-- other fault tells nothing
abbrev pub told : Result Table CopyFault → Told
told (Ok table) = shows table
told (Err copies.ArrayPlace) = refuses faults.ArrayPlace
told (Err (copies.Counts count size)) = refuses (faults.EntryCount count size)
told (Err (copies.RowOrder slot)) = refuses (faults.RowRange slot)
told (Err other) = nothing

-- what a place of an image tells
unfoldable pub told_at : ℕ → List ℕ → Which → Told
told_at sector image which = told (answer_at sector image which)

-- the primary tells first (UEFI 2.10, 5.3.2)
abbrev pub first_told : Told → Told → Told
first_told nothing backup = backup
first_told primary backup = primary

-- what an image shows
unfoldable pub shown : ℕ → List ℕ → Told
shown sector image = first_told (told_at sector image Primary) (told_at sector image Backup)

-- the place that tells first, by what both tell
abbrev pub first_place : Told → Told → Origin
first_place nothing nothing = origins.Neither
first_place nothing backup = origins.Backup
first_place primary backup = origins.Primary

-- the place whose copy an image shows
unfoldable pub origin_of : ℕ → List ℕ → Origin
origin_of sector image = first_place (told_at sector image Primary) (told_at sector image Backup)

-- the number of entries of a copy that has a right header, but whose array's checksum is its first fault
abbrev pub broken_entries : Result Table CopyFault → ℕ → Option ℕ
broken_entries (Err copies.ArrayCrc) entries = Some entries
broken_entries other entries = None

-- that of a place
unfoldable pub broken_at : ℕ → List ℕ → Which → Option ℕ
broken_at sector image which = broken_entries (answer_at sector image which) (entries_at sector image which)

-- a number above a least one
abbrev pub above : ℕ → Option ℕ → Option ℕ
above least None = None
above least (Some number) = if nat_lt least number then Some number else None

-- of two copies, the first broken one that has more than so many entries, beside a copy that isn't the primary: what is
-- written to a partition could make the array of such a copy right
abbrev pub wider : Origin → ℕ → Option ℕ → Option ℕ → Option ℕ
wider origins.Primary entries primary backup = None
wider other entries primary backup = option_or (above entries primary) (above entries backup)

-- the number of entries of that copy of an image, beside a table that is taken from this place
unfoldable pub wider_copy : ℕ → List ℕ → Origin → Table → Option ℕ
wider_copy sector image origin table = wider origin table.entries (broken_at sector image Primary) (broken_at sector image Backup)

-- the first row that isn't within the usable units
unfoldable pub row_outside : Table → Option Row
row_outside table = find (λ row. not (nat_le table.first row.start && nat_le (row.start + row.size) (table.last + 1))) table.rows

-- two rows share a unit
abbrev pub share_unit : Row → Row → Bool
share_unit a b = nat_lt a.start (b.start + b.size) && nat_lt b.start (a.start + a.size)

-- the first row that shares a unit with a later one, and the first such row
unfoldable pub overlap : List Row → Option (Row × Row)
overlap [] = None
overlap (row ∷ rows) = option_or (option_map (λ later. (row, later)) (find (share_unit row) rows)) (overlap rows)

-- the first fault of a table's rows: a row that isn't within the usable units, then the least pair that shares a unit
unfoldable pub rows_fault : Table → Option TableFault
rows_fault table = option_or
    (option_map (λ row. faults.RowRange row.slot) (row_outside table))
    (option_map (λ pair. faults.Overlap pair.0.slot pair.1.slot) (overlap table.rows))

-- a table's first fault on an image of so many bytes: its usable units aren't behind the primary copy, or there are none;
-- they aren't before the backup copy; one of its rows
unfoldable pub table_fault : ℕ → Table → Option TableFault
table_fault len table =
    if nat_lt table.first (first_usable table.sector table.entries) || nat_lt table.last table.first
    then Some (faults.Bounds table.first table.last)
    else if nat_le (usable_end table.sector table.entries (len / table.sector)) table.last then Some (faults.TooShort len)
    else rows_fault table

-- a fault, or what is seen where there is none
abbrev pub unless : Option TableFault → Result Seen TableFault → Result Seen TableFault
unless None seen = seen
unless (Some fault) seen = Err fault

-- what is seen of an image that shows a table, or is given one; then where no broken copy is wider
unfoldable pub seen_of : ℕ → List ℕ → Origin → Table → Bool → Bool → Result Seen TableFault
seen_of sector image origin table primary_same backup_same =
    unless (option_map (λ entries. faults.EntryCount entries 128) (wider_copy sector image origin table)) (Ok record {
      sectors = sectors_of 512 image;
      shown = table;
      origin = origin;
      primary_same = primary_same;
      backup_same = backup_same;
      mbr = mbr_state (take 512 image) (sectors_of sector image);
    })

-- a place holds the exact copy of a table
unfoldable pub holds_exact : ℕ → List ℕ → Table → Which → Bool
holds_exact sector image table which =
    bytes_eq (place_of sector image table.entries which) (exact table which (sectors_of sector image))

-- an image that shows a table
unfoldable pub accepted_table : ℕ → List ℕ → Empty → Table → Result Seen TableFault
accepted_table sector image Require table = Err faults.NotEmpty
accepted_table sector image empty table =
    unless (table_fault (length image) table)
    (seen_of sector image (origin_of sector image) table (holds_exact sector image table Primary) (holds_exact sector image table Backup))

-- the table of an image of so many sectors that shows none: 1 MiB before the first usable unit, and room for the backup
-- behind the last
unfoldable pub blank : ℕ → ℕ → Table
blank sector sectors = record {
  sector = sector;
  entries = 128;
  disk = record { 0 = replicate 16 0 };
  first = 2048;
  last = usable_end sector 128 sectors - 1;
  rows = [];
}

-- an image that shows no table
unfoldable pub accepted_blank : ℕ → List ℕ → Empty → Result Seen TableFault
accepted_blank sector image empty = unless (option_map (λ kind. faults.OtherTable kind) (foreign_type (take 512 image))) (taken empty) where
  taken : Empty → Result Seen TableFault
  taken Refuse = Err faults.NoTable
  taken other =
      let table = blank sector (sectors_of sector image) in
      if nat_lt table.last 2048 then Err (faults.TooShort (length image))
      else seen_of sector image origins.Neither table false false

-- by what an image shows
unfoldable pub accepted_as : ℕ → List ℕ → Empty → Told → Result Seen TableFault
accepted_as sector image empty (shows table) = accepted_table sector image empty table
accepted_as sector image empty (refuses fault) = Err fault
accepted_as sector image empty nothing = accepted_blank sector image empty

-- what is seen of an image, or the first fault
unfoldable pub accepted : ℕ → List ℕ → Empty → Result Seen TableFault
accepted sector image empty =
    if nat_lt (2 ^ 44) (length image) then Err (faults.TooLong (length image))
    else if not (length image % sector == 0) || nat_lt (sectors_of sector image) (least_sectors sector 128)
    then Err (faults.TooShort (length image))
    else accepted_as sector image empty (shown sector image)
