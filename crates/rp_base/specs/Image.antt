-- An image is a list of bytes, cut into sectors (UEFI 2.10, 5.3.1). Tables count in units of 512 bytes.
use Rattle.std.specs.Prelude.{ℕ, List, ◌+◌, ◌*◌, ◌/◌, length, slice_range}
use Rattle.rp_base.specs.declared.table.Row.{Row}

-- how many whole sectors of so many bytes an image has
abbrev pub sectors_of : ℕ → List ℕ → ℕ
sectors_of sector image = length image / sector

-- so many bytes from an offset on
abbrev pub bytes_at : List ℕ → ℕ → ℕ → List ℕ
bytes_at image at count = slice_range image at (at + count)

-- the bytes of a row: those of its units
abbrev pub range_of : List ℕ → Row → List ℕ
range_of image row = bytes_at image (512 * row.start) (512 * row.size)
