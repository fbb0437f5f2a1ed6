-- A partition's name: 36 units of UTF-16, with zeros behind it (UEFI 2.10, 5.3.3, table 5-6).
use Rattle.std.specs.Prelude.{ℕ, ◌-◌, List, ◌++◌, not, ◌&&◌, ◌==◌, nat_le, length, replicate, if◌then◌else◌, Option, Some, None}
use Rattle.std.specs.List.{flat_map, list_any}
use Rattle.std.specs.Str.{chars}
use Rattle.std.specs.Char.Escape.{encode_utf16}

-- the units of a text
unfoldable pub units_of : List ℕ → List ℕ
units_of text = flat_map encode_utf16 (chars text)

-- the name of a text that has at most 36 units, none of them zero
unfoldable pub name_of : List ℕ → Option (List ℕ)
name_of text =
    let units = units_of text in
    if nat_le (length units) 36 && not (list_any (λ unit. unit == 0) units) then Some (units ++ replicate (36 - length units) 0) else None
