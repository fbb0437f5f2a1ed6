-- What `show` prints of an image as JSON: one line, the keys in the order of their bytes.
use Rattle.std.specs.Prelude.{ℕ, List, ◌++◌, codes, map}
use Rattle.std.specs.Int.{w64, to_be_bytes}
use Rattle.hex.specs.Hex.{encode_lower}
use Rattle.serde_json.specs.Data.{Data, array, item, member, no_items, no_members, number, object, string, unsigned}
use Rattle.serde_json.specs.View.{items_of}
use Rattle.serde_json.specs.Written.{compact_text}
use Rattle.rp_base.specs.declared.seen.Seen.{Seen}
use Rattle.rp_base.specs.declared.table.Row.{Row}
use Rattle.rp_types.specs.Guids.{guid_text}
use Rattle.rp_report.specs.Names.{name_text}
use Rattle.rp_report.specs.Tables.{kind_text, mbr_word, origin_text, same_text}

-- a number without a fraction
abbrev pub integer : ℕ → Data
integer n = number (unsigned n)

-- a row; its name is the text between the quotes of the text's line
abbrev pub row_data : Row → Data
row_data row = object
    (member (codes "attrs") (string (encode_lower (to_be_bytes w64 row.attrs)))
    (member (codes "id") (string (guid_text row.id))
    (member (codes "name") (string (name_text row.name))
    (member (codes "size") (integer row.size)
    (member (codes "slot") (integer row.slot)
    (member (codes "start") (integer row.start)
    (member (codes "type") (string (kind_text row.kind))
    no_members)))))))

-- an image's table, and how far its copies and the MBR are what would be written for it
abbrev pub seen_data : Seen → Data
seen_data seen = object
    (member (codes "backup") (string (same_text seen.backup_same))
    (member (codes "disk") (string (guid_text seen.shown.disk))
    (member (codes "mbr") (string (mbr_word seen.mbr))
    (member (codes "origin") (string (origin_text seen.origin))
    (member (codes "primary") (string (same_text seen.primary_same))
    (member (codes "rows") (array (items_of (map row_data seen.shown.rows)))
    (member (codes "sectors") (integer seen.sectors)
    (member (codes "usable") (array (item (integer seen.shown.first) (item (integer seen.shown.last) no_items)))
    no_members))))))))

-- the object, and the line's end
unfoldable pub show_json : Seen → List ℕ
show_json seen = compact_text (seen_data seen) ++ codes "\n"
