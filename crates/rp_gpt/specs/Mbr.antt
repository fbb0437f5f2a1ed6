-- The protective MBR: bytes 446 to 511 of LBA 0 (UEFI 2.10, 5.2.3).
use Rattle.std.specs.Prelude.{ℕ, ◌+◌, ◌*◌, ◌-◌, ◌^◌, min, List, [], ◌∷◌, not, ◌&&◌, ◌==◌, if◌then◌else◌, replicate, map, find, slice_index, slice_range, Option, None, is_some}
use Rattle.std.specs.List.{range_with_len, concat}
use Rattle.std.specs.Str.{bytes_eq}
use Rattle.rp_base.specs.declared.seen.Mbr.{Mbr}
use Rattle.rp_base.specs.declared.seen.Mbr.TheVariants.{Same, Differs, Foreign}
use Rattle.rp_gpt.specs.Numbers.{u32_bytes}

-- one record over the whole disk, three empty ones, and the signature (table 5-4): its boot indicator, first CHS,
-- type, last CHS, first LBA, and its size, or the greatest number where that doesn't fit
unfoldable pub mbr_bytes : ℕ → List ℕ
mbr_bytes sectors = concat (
    (0 ∷ []) ∷ (0 ∷ 2 ∷ 0 ∷ []) ∷ (0xee ∷ []) ∷ (0xff ∷ 0xff ∷ 0xff ∷ []) ∷ u32_bytes 1 ∷ u32_bytes (min (sectors - 1) (2 ^ 32 - 1))
    ∷ replicate 48 0 ∷ (0x55 ∷ 0xaa ∷ []) ∷ [])

-- the types of the four records of a sector
unfoldable pub record_types : List ℕ → List ℕ
record_types sector = map (λ k. slice_index sector (450 + 16 * k)) (range_with_len 0 4)

-- the first type that is of a partition of another table: neither none nor the protective one
unfoldable pub foreign_type : List ℕ → Option ℕ
foreign_type sector =
    if slice_index sector 510 == 0x55 && slice_index sector 511 == 0xaa
    then find (λ kind. not (kind == 0) && not (kind == 0xee)) (record_types sector)
    else None

-- the state of a sector, on a disk of this many sectors
unfoldable pub mbr_state : List ℕ → ℕ → Mbr
mbr_state sector sectors =
    if is_some (foreign_type sector) then Foreign
    else if bytes_eq (slice_range sector 446 512) (mbr_bytes sectors) then Same
    else Differs
