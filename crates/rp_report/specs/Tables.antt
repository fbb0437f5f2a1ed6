-- What `show` prints of an image.
use Rattle.std.specs.Prelude.{ℕ, List, [], ◌++◌, Bool, codes, if◌then◌else◌, unwrap_or}
use Rattle.std.specs.Fmt.{decimal}
use Rattle.std.specs.Int.{w64, to_be_bytes}
use Rattle.std.specs.List.{flat_map}
use Rattle.hex.specs.Hex.{encode_lower}
use Rattle.rp_base.specs.declared.guid.Guid.{Guid}
use Rattle.rp_base.specs.declared.seen.Mbr.{Mbr}
use Rattle.rp_base.specs.declared.seen.Mbr.TheVariants.{Same, Differs, Foreign}
use Rattle.rp_base.specs.declared.seen.Origin.{Origin}
use Rattle.rp_base.specs.declared.seen.Origin.TheVariants.{Primary, Backup, Neither}
use Rattle.rp_base.specs.declared.seen.Seen.{Seen}
use Rattle.rp_base.specs.declared.table.Row.{Row}
use Rattle.rp_base.specs.declared.table.Table.{Table}
use Rattle.rp_types.specs.Guids.{guid_text}
use Rattle.rp_types.specs.Types.{by_guid}
use Rattle.rp_report.specs.Names.{name_text}

-- a type is written as its name, or as its GUID where it has none
unfoldable pub kind_text : Guid → List ℕ
kind_text kind = unwrap_or (by_guid kind) (guid_text kind)

-- the copy that is shown; the text of an image that shows none is never asked for
abbrev pub origin_text : Origin → List ℕ
origin_text Primary = codes "primary"
origin_text Backup = codes "backup"
origin_text Neither = []

-- the line of a table: which copy it is of, the image's sectors, the usable sectors, and the disk's GUID
unfoldable pub table_line : Origin → ℕ → Table → List ℕ
table_line origin sectors table = codes "table " ++ origin_text origin ++ codes " sectors " ++ decimal sectors
    ++ codes " usable " ++ decimal table.first ++ codes "-" ++ decimal table.last
    ++ codes " disk " ++ guid_text table.disk ++ codes "\n"

-- a row behind its slot: its type, its sectors, its GUID, its attributes as 16 hexadecimal digits, and its name
unfoldable pub facts_text : Row → List ℕ
facts_text row = kind_text row.kind
    ++ codes " start " ++ decimal row.start ++ codes " size " ++ decimal row.size
    ++ codes " id " ++ guid_text row.id
    ++ codes " attrs " ++ encode_lower (to_be_bytes w64 row.attrs)
    ++ codes " name \"" ++ name_text row.name ++ codes "\"\n"

-- the line of a row: its slot, and what it is
unfoldable pub row_line : Row → List ℕ
row_line row = decimal row.slot ++ codes " " ++ facts_text row

-- a table's line, and behind it one line for each row in slot order
unfoldable pub table_lines : Origin → ℕ → Table → List ℕ
table_lines origin sectors table = table_line origin sectors table ++ flat_map row_line table.rows

unfoldable pub same_text : Bool → List ℕ
same_text same = if same then codes "same" else codes "differs"

unfoldable pub mbr_word : Mbr → List ℕ
mbr_word Same = codes "same"
mbr_word Differs = codes "differs"
mbr_word Foreign = codes "foreign"

-- the line of the copies: whether each is what would be written for the table, and the state of the protective MBR
unfoldable pub copies_line : Seen → List ℕ
copies_line seen = codes "copies" ++ (codes " primary=" ++ same_text seen.primary_same) ++ (codes " backup=" ++ same_text seen.backup_same)
    ++ (codes " mbr=" ++ mbr_word seen.mbr) ++ codes "\n"

-- what is printed of an image that shows a table
unfoldable pub show_bytes : Seen → List ℕ
show_bytes seen = table_lines seen.origin seen.sectors seen.shown ++ copies_line seen
