-- The printed text of a partition's name.
use Rattle.std.specs.Prelude.{ℕ, List, [], ◌∷◌, ◌++◌, Bool, not, ◌&&◌, ◌==◌, nat_le, if◌then◌else◌, codes, take_while}
use Rattle.std.specs.Int.{w16, to_be_bytes}
use Rattle.std.specs.List.{flat_map}
use Rattle.hex.specs.Hex.{encode_lower}

-- printable ASCII but the quote and the backslash
abbrev pub is_plain : ℕ → Bool
is_plain unit = nat_le 0x20 unit && nat_le unit 0x7e && not (unit == 0x22) && not (unit == 0x5c)

-- a UTF-16 unit stands for itself, or is written as its four hexadecimal digits
unfoldable pub unit_text : ℕ → List ℕ
unit_text unit = if is_plain unit then unit ∷ [] else codes "\\u" ++ encode_lower (to_be_bytes w16 unit)

abbrev pub is_nonzero : ℕ → Bool
is_nonzero unit = not (unit == 0)

-- a name ends before its first zero unit (UEFI 2.10, 5.3.3)
unfoldable pub name_text : List ℕ → List ℕ
name_text name = flat_map unit_text (take_while is_nonzero name)
