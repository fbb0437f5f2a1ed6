-- Fields one behind another, and what is read at their offsets.
use Rattle.std.proofs.Common.{◌≡◌, ℕ, zero, suc, ◌+◌, ◌-◌, ◌*◌, ◌^◌, ◌<◌, List, [], ◌∷◌, ◌++◌, length, take, drop, get_or, refl, sym, ap, ◌∙◌, arith, All}
use Rattle.std.specs.Int.{w16, w32, w64, from_le_bytes}
use Rattle.std.proofs.lemmas.Nat.{from_le_bytes-to_le_bytes_2, from_le_bytes-to_le_bytes_4, from_le_bytes-to_le_bytes_8}
use Rattle.std.proofs.lemmas.List.{take_at, drop_at, drop-drop, append_assoc, length-append}
use Rattle.std.proofs.lemmas.List.FromFn.{fill_by_all}
use Rattle.rp_base.specs.declared.guid.Guid.{Guid}
use Rattle.rp_base.specs.Guid.{disk_order}
use Rattle.rp_base.proofs.GuidLemmas.{twice}
use Rattle.rp_gpt.specs.Numbers.{u16_at, u32_at, u64_at, guid_at, units_at, u16_bytes, u32_bytes, u64_bytes, guid_bytes, units_bytes}

pub length-u16_bytes : (n : ℕ) → length (u16_bytes n) ≡ 2
unfolding u16_bytes
length-u16_bytes n = refl

pub length-u32_bytes : (n : ℕ) → length (u32_bytes n) ≡ 4
unfolding u32_bytes
length-u32_bytes n = refl

pub length-u64_bytes : (n : ℕ) → length (u64_bytes n) ≡ 8
unfolding u64_bytes
length-u64_bytes n = refl

pub length-guid_bytes : (guid : Guid) → length (guid_bytes guid) ≡ 16
unfolding guid_bytes
length-guid_bytes guid = refl

pub length-units_bytes : (units : List ℕ) → length (units_bytes units) ≡ 2 * length units
unfolding units_bytes
length-units_bytes [] = refl
length-units_bytes (unit ∷ units) =
    length-append (u16_bytes unit) (units_bytes units) ∙ omega (arith, length-u16_bytes unit, length-units_bytes units)

-- the bytes behind a field
pub behind : (bytes : List ℕ) (at n next : ℕ) (field rest : List ℕ) → drop at bytes ≡ field ++ rest → length field ≡ n → at + n ≡ next → drop next bytes ≡ rest
behind bytes at n next field rest e len sum =
    ap (λ k. drop k bytes) (sym sum) ∙ sym (drop-drop n at bytes) ∙ ap (drop n) e ∙ drop_at field rest n len

-- a range that a field fills
pub range_here : (bytes : List ℕ) (at n : ℕ) (field rest : List ℕ) → drop at bytes ≡ field ++ rest → length field ≡ n → take (at + n - at) (drop at bytes) ≡ field
range_here bytes at n field rest e len =
    let width : at + n - at ≡ n = omega arith in
    rw (width, e) (take_at field rest n len)

pub u16_at-field : (bytes : List ℕ) (at n : ℕ) (rest : List ℕ) → drop at bytes ≡ u16_bytes n ++ rest → n < 2 ^ 16 → u16_at bytes at ≡ n
unfolding u16_at u16_bytes
u16_at-field bytes at n rest e h = ap (from_le_bytes w16) (range_here bytes at 2 (u16_bytes n) rest e refl) ∙ from_le_bytes-to_le_bytes_2 n h

pub u32_at-field : (bytes : List ℕ) (at n : ℕ) (rest : List ℕ) → drop at bytes ≡ u32_bytes n ++ rest → n < 2 ^ 32 → u32_at bytes at ≡ n
unfolding u32_at u32_bytes
u32_at-field bytes at n rest e h = ap (from_le_bytes w32) (range_here bytes at 4 (u32_bytes n) rest e refl) ∙ from_le_bytes-to_le_bytes_4 n h

pub u64_at-field : (bytes : List ℕ) (at n : ℕ) (rest : List ℕ) → drop at bytes ≡ u64_bytes n ++ rest → n < 2 ^ 64 → u64_at bytes at ≡ n
unfolding u64_at u64_bytes
u64_at-field bytes at n rest e h = ap (from_le_bytes w64) (range_here bytes at 8 (u64_bytes n) rest e refl) ∙ from_le_bytes-to_le_bytes_8 n h

pub guid_at-field : (bytes : List ℕ) (at : ℕ) (guid : Guid) (rest : List ℕ) → drop at bytes ≡ guid_bytes guid ++ rest → length guid.0 ≡ 16 → guid_at bytes at ≡ guid
unfolding guid_at guid_bytes
guid_at-field bytes at guid rest e h =
    let of_bytes : List ℕ → Guid = λ b. record { 0 = b } in
    ap of_bytes (ap disk_order (range_here bytes at 16 (guid_bytes guid) rest e refl) ∙ twice guid.0 h)

-- the bytes from a unit on
units_from : (units : List ℕ) (k : ℕ) (rest : List ℕ) → k < length units → (more : List ℕ) × (drop (2 * k) (units_bytes units ++ rest) ≡ u16_bytes (get_or units k 0) ++ more)
unfolding units_bytes
units_from [] k rest h = absurd (omega arith)
units_from (unit ∷ units) zero rest h = (units_bytes units ++ rest, append_assoc (u16_bytes unit) (units_bytes units) rest)
units_from (unit ∷ units) (suc k) rest h =
    let later = units_from units k rest (omega arith) in
    let two : 2 * suc k ≡ 2 + 2 * k = omega arith in (
      later.0,
      ap (λ n. drop n (u16_bytes unit ++ units_bytes units ++ rest)) two
          ∙ sym (drop-drop (2 * k) 2 (u16_bytes unit ++ units_bytes units ++ rest))
          ∙ ap (drop (2 * k)) (ap (drop 2) (append_assoc (u16_bytes unit) (units_bytes units) rest) ∙ drop_at (u16_bytes unit) (units_bytes units ++ rest) 2 (length-u16_bytes unit))
          ∙ later.1,
    )

pub units_at-field : (bytes : List ℕ) (at count : ℕ) (units rest : List ℕ) → drop at bytes ≡ units_bytes units ++ rest → length units ≡ count → All (λ unit. unit < 2 ^ 16) units → units_at bytes at count ≡ units
unfolding units_at
units_at-field bytes at count units rest e len fits =
    let unit_is : (k : ℕ) → k < count → u16_at bytes (at + 2 * k) ≡ get_or units k 0 = λ k below.
    let from = units_from units k rest (omega arith) in
    u16_at-field bytes (at + 2 * k) (get_or units k 0) from.0
    (sym (drop-drop (2 * k) at bytes) ∙ ap (drop (2 * k)) e ∙ from.1) (fits k 0 (omega arith)) in
    sym (fill_by_all (λ k. u16_at bytes (at + 2 * k)) units count 0 len (λ k below. sym (unit_is k below)))
