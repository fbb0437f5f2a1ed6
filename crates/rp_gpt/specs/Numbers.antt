-- Numbers and GUIDs, as bytes and at an offset. All numbers are little-endian (UEFI 2.10, 1.8.1).
use Rattle.std.specs.Prelude.{ℕ, List, ◌+◌, ◌*◌, slice_range, map}
use Rattle.std.specs.Int.{w16, w32, w64, from_le_bytes, to_le_bytes}
use Rattle.std.specs.List.{range_with_len, flat_map}
use Rattle.rp_base.specs.Guid.{disk_order}
use Rattle.rp_base.specs.declared.guid.Guid.{Guid}

unfoldable pub u16_at : List ℕ → ℕ → ℕ
u16_at bytes at = from_le_bytes w16 (slice_range bytes at (at + 2))

unfoldable pub u32_at : List ℕ → ℕ → ℕ
u32_at bytes at = from_le_bytes w32 (slice_range bytes at (at + 4))

unfoldable pub u64_at : List ℕ → ℕ → ℕ
u64_at bytes at = from_le_bytes w64 (slice_range bytes at (at + 8))

-- a GUID's first three fields are numbers (UEFI 2.10, appendix A)
unfoldable pub guid_at : List ℕ → ℕ → Guid
guid_at bytes at = record { 0 = disk_order (slice_range bytes at (at + 16)) }

-- UTF-16 units
unfoldable pub units_at : List ℕ → ℕ → ℕ → List ℕ
units_at bytes at count = map (λ k. u16_at bytes (at + 2 * k)) (range_with_len 0 count)

unfoldable pub u16_bytes : ℕ → List ℕ
u16_bytes number = to_le_bytes w16 number

unfoldable pub u32_bytes : ℕ → List ℕ
u32_bytes number = to_le_bytes w32 number

unfoldable pub u64_bytes : ℕ → List ℕ
u64_bytes number = to_le_bytes w64 number

unfoldable pub guid_bytes : Guid → List ℕ
guid_bytes guid = disk_order guid.0

unfoldable pub units_bytes : List ℕ → List ℕ
units_bytes units = flat_map u16_bytes units
