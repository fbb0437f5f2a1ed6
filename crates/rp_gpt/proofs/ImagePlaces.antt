-- The places of an image: where they lie, and how long they are.
use Rattle.std.proofs.Common.{◌≡◌, ℕ, ◌+◌, ◌*◌, ◌≤◌, Bool, true, false, cond, List, length, All, refl, inl, inr, arith, length-drop, length-take}
use Rattle.std.proofs.lemmas.Bool.Decides.{nat_tests}
use Rattle.std.proofs.lemmas.List.Elements.{All-take, All-drop}
use Rattle.rp_base.specs.Geometry.{IsSector, AreEntries, copy_bytes, copy_place, least_sectors}
use Rattle.rp_base.specs.Image.{bytes_at, sectors_of}
use Rattle.rp_base.specs.declared.geometry.Which.{Which}
use Rattle.rp_base.specs.declared.geometry.Which.TheVariants.{Primary, Backup}
use Rattle.rp_gpt.specs.Fields.{entry_count}
use Rattle.rp_gpt.specs.Shown.{may_have, entries_or_least, entries_at, header_at, place_of}

pub length-bytes_at : (image : List ℕ) (at count : ℕ) → at + count ≤ length image → length (bytes_at image at count) ≡ count
length-bytes_at image at count inside = simp (length-take, length-drop) (omega arith)

pub All-bytes_at : (P : ℕ → Type 0) (image : List ℕ) (at count : ℕ) → All P image → All P (bytes_at image at count)
All-bytes_at P image at count all = All-take P _ _ (All-drop P at image all)

-- a copy ends within a disk that has room for two
pub copy_end : (which : Which) (sector entries sectors : ℕ) → IsSector sector → least_sectors sector entries ≤ sectors
    → sector * copy_place which sector entries sectors + copy_bytes entries sector ≤ sector * sectors
copy_end Primary sector entries sectors (inl e) room = let room_is : least_sectors 512 entries ≤ sectors = rw e at room in rw e (omega arith)
copy_end Primary sector entries sectors (inr e) room = let room_is : least_sectors 4096 entries ≤ sectors = rw e at room in rw e (omega arith)
copy_end Backup sector entries sectors (inl e) room = let room_is : least_sectors 512 entries ≤ sectors = rw e at room in rw e (omega arith)
copy_end Backup sector entries sectors (inr e) room = let room_is : least_sectors 4096 entries ≤ sectors = rw e at room in rw e (omega arith)

-- the number of entries of a copy in a place
pub entries_or_least-may_have : (sector sectors entries : ℕ) → may_have sector sectors 128 ≡ true → may_have sector sectors (entries_or_least sector sectors entries) ≡ true
entries_or_least-may_have sector sectors entries least = by_test (may_have sector sectors entries) refl where
  by_test : (b : Bool) → may_have sector sectors entries ≡ b → may_have sector sectors (cond b entries 128) ≡ true
  by_test true is = is
  by_test false is = least

pub may_have-room : (sector sectors entries : ℕ) → may_have sector sectors entries ≡ true → AreEntries entries × (least_sectors sector entries ≤ sectors)
may_have-room sector sectors entries has = (record { least = grind (arith, nat_tests, has); most = grind (arith, nat_tests, has) }, grind (arith, nat_tests, has))

pub room-may_have : (sector sectors entries : ℕ) → AreEntries entries → least_sectors sector entries ≤ sectors → may_have sector sectors entries ≡ true
room-may_have sector sectors entries are room = let least = are.least in let most = are.most in grind (arith, nat_tests)

module _ (sector : ℕ) (image : List ℕ) (is : IsSector sector) (whole : length image ≡ sector * sectors_of sector image) where
  -- a place has the bytes of its entries
  pub length-place_of : (entries : ℕ) (which : Which) → least_sectors sector entries ≤ sectors_of sector image → length (place_of sector image entries which) ≡ copy_bytes entries sector
  unfolding place_of
  length-place_of entries which room =
      length-bytes_at image _ (copy_bytes entries sector) (let end = copy_end which sector entries (sectors_of sector image) is room in omega (arith, end, whole))

  pub entries_at-may_have : (which : Which) → least_sectors sector 128 ≤ sectors_of sector image → may_have sector (sectors_of sector image) (entries_at sector image which) ≡ true
  unfolding entries_at
  entries_at-may_have which least =
      entries_or_least-may_have sector (sectors_of sector image) (entry_count (header_at sector image which))
      (room-may_have sector (sectors_of sector image) 128 (record { least = omega arith; most = omega arith }) least)
