-- GUIDs on disk.
use Rattle.std.specs.Prelude.{ℕ, List, [], ◌∷◌, map, slice_index}

-- the 16 bytes of a GUID's text in the order that a disk has, and back: the first three fields, of 4, 2 and 2 bytes, are
-- little-endian there (UEFI 2.10, appendix A)
abbrev pub disk_order : List ℕ → List ℕ
disk_order bytes = map (slice_index bytes)
    (3 ∷ 2 ∷ 1 ∷ 0 ∷ 5 ∷ 4 ∷ 7 ∷ 6 ∷ 8 ∷ 9 ∷ 10 ∷ 11 ∷ 12 ∷ 13 ∷ 14 ∷ 15 ∷ [])
