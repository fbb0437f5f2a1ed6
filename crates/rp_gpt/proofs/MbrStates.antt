-- The exact MBR, and one of another table.
use Rattle.std.proofs.Common.{◌≡◌, ℕ, ◌+◌, ◌<◌, Bool, true, false, cond, List, drop, get_or, refl, sym, ap, ◌∙◌, arith}
use Rattle.std.specs.Prelude.{slice_index, slice_range, is_some}
use Rattle.std.specs.Str.{bytes_eq}
use Rattle.std.proofs.lemmas.List.{get_or-take, get_or-drop}
use Rattle.std.proofs.lemmas.Slice.Eq.{bytes_eq-Decides}
use Rattle.rp_base.specs.declared.seen.Mbr.TheVariants.{Same, Differs, Foreign}
use Rattle.rp_gpt.specs.Numbers.{u32_bytes}
use Rattle.rp_gpt.specs.Mbr.{mbr_bytes, record_types, foreign_type, mbr_state}

-- a byte of the range from a place on
byte_at : (sector bytes : List ℕ) (k : ℕ) → k < 66 → slice_range sector 446 512 ≡ bytes → slice_index sector (446 + k) ≡ slice_index bytes k
byte_at sector bytes k inside e = sym (ap (λ (xs : List ℕ). get_or xs k 0) (sym e) ∙ (get_or-take 66 (drop 446 sector) k 0 inside ∙ get_or-drop 446 sector k 0))

pub exact-same : (sector : List ℕ) (sectors : ℕ) → slice_range sector 446 512 ≡ mbr_bytes sectors → mbr_state sector sectors ≡ Same
unfolding mbr_state foreign_type record_types mbr_bytes u32_bytes
exact-same sector sectors e =
    let first : slice_index sector 450 ≡ 0xee = byte_at sector _ 4 (omega arith) e in
    let second : slice_index sector 466 ≡ 0 = byte_at sector _ 20 (omega arith) e in
    let third : slice_index sector 482 ≡ 0 = byte_at sector _ 36 (omega arith) e in
    let fourth : slice_index sector 498 ≡ 0 = byte_at sector _ 52 (omega arith) e in
    let same : bytes_eq (slice_range sector 446 512) (mbr_bytes sectors) ≡ true = (bytes_eq-Decides (slice_range sector 446 512) (mbr_bytes sectors)).1 e in
    let sign : slice_index sector 510 ≡ 0x55 = byte_at sector _ 64 (omega arith) e in
    let signed : slice_index sector 511 ≡ 0xaa = byte_at sector _ 65 (omega arith) e in
    rw (first, second, third, fourth, sign, signed, same) refl

-- a state is Foreign by the sector alone
pub foreign-alone : (sector : List ℕ) (sectors others : ℕ) → mbr_state sector sectors ≡ Foreign → mbr_state sector others ≡ Foreign
unfolding mbr_state
foreign-alone sector sectors others = by_type (is_some (foreign_type sector)) refl where
  by_type : (b : Bool) → is_some (foreign_type sector) ≡ b
      → cond b Foreign (cond (bytes_eq (slice_range sector 446 512) (mbr_bytes sectors)) Same Differs) ≡ Foreign
      → cond b Foreign (cond (bytes_eq (slice_range sector 446 512) (mbr_bytes others)) Same Differs) ≡ Foreign
  by_type true is e = refl
  by_type false is e = by_same (bytes_eq (slice_range sector 446 512) (mbr_bytes sectors)) e where
    by_same : (b : Bool) → cond b Same Differs ≡ Foreign → cond (bytes_eq (slice_range sector 446 512) (mbr_bytes others)) Same Differs ≡ Foreign
    by_same true e = cc
    by_same false e = cc
