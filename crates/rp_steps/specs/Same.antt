-- Whether two tables are equal, as a test.
use Rattle.std.specs.Prelude.{Bool, ◌&&◌, ◌==◌, List, bytes_eq}
use Rattle.std.specs.Cmp.Lexicographic.{pointwise}
use Rattle.rp_base.specs.declared.table.Row.{Row}
use Rattle.rp_base.specs.declared.table.Table.{Table}

-- two rows are equal; a name is compared as bytes are, number by number
unfoldable pub same_row : Row → Row → Bool
same_row a b =
    (a.slot == b.slot) && (bytes_eq a.kind.0 b.kind.0 && (bytes_eq a.id.0 b.id.0 && ((a.start == b.start)
    && ((a.size == b.size) && ((a.attrs == b.attrs) && bytes_eq a.name b.name)))))

-- as many rows, each equal to the one in its place
abbrev pub same_rows : List Row → List Row → Bool
same_rows = pointwise same_row

-- two tables are equal
unfoldable pub same_table : Table → Table → Bool
same_table a b =
    (a.sector == b.sector) && ((a.entries == b.entries) && (bytes_eq a.disk.0 b.disk.0 && ((a.first == b.first)
    && ((a.last == b.last) && same_rows a.rows b.rows))))
