-- Identifiers that are derived from a seed.
use Rattle.std.specs.Prelude.{ℕ, ◌+◌, ◌%◌, ◌==◌, List, [], ◌++◌, take, slice_index, slice_set, if◌then◌else◌}
use Rattle.std.specs.Int.{to_le_bytes, w64}
use Rattle.rp_base.specs.declared.guid.Guid.{Guid}
use Rattle.rp_hmac.specs.Hmac.{hmac}

-- 16 bytes with the version 4 in the high half of byte 6, and the variant, binary 10, in the two high bits of byte 8
-- (RFC 9562, 4.1, 4.2)
abbrev pub stamped : List ℕ → List ℕ
stamped bytes = slice_set (slice_set bytes 6 (0x40 + slice_index bytes 6 % 16)) 8 (0x80 + slice_index bytes 8 % 64)

-- a text with a number behind it, as 8 bytes, the low one first; the number 0 isn't written (own)
abbrev pub numbered : List ℕ → ℕ → List ℕ
numbered text k = text ++ (if k == 0 then [] else to_le_bytes w64 k)

-- the identifier with number k that a seed gives a text: HMAC of the text, cut to 16 bytes (own)
unfoldable pub derived : Guid → List ℕ → ℕ → Guid
derived seed text k = record { 0 = stamped (take 16 (hmac seed.0 (numbered text k))) }
