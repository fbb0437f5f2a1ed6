-- A fault of a header doesn't depend on the array beside it.
use Rattle.std.proofs.Common.{◌≡◌, ◌≢◌, ℕ, Bool, true, false, cond, List, Option, Some, None, Err, refl, sym, ap, ◌∙◌}
use Rattle.std.specs.Prelude.{not, ◌&&◌, ◌==◌, nat_le}
use Rattle.rp_base.specs.Geometry.{array_place, header_place}
use Rattle.rp_base.specs.declared.geometry.Which.{Which}
use Rattle.rp_crc.specs.Crc.{crc}
use Rattle.rp_gpt.specs.declared.copy.CopyFault.{CopyFault}
use Rattle.rp_gpt.specs.declared.copy.CopyFault.TheVariants.{Signature, Revision, HeaderSize, HeaderCrc, Place, ArrayPlace, Counts, ArrayCrc}
use Rattle.rp_gpt.specs.Copy.{answer, header_fault, summed, table_of, unordered_slot}
use Rattle.rp_gpt.specs.Fields.{signature, revision, header_size, header_crc, my_lba, array_lba, entry_count, entry_size, array_crc}
use Rattle.rp_gpt.specs.Shown.{shows, refuses, nothing, told}
use Rattle.rp_gpt.proofs.Passes.{IsReadAs, answer-fault, answer-slot, answer-table}

-- one test before others
step : (fault first : CopyFault) (b : Bool) (x y : Option CopyFault) → (x ≡ Some fault → y ≡ Some fault)
    → cond b (Some first) x ≡ Some fault → cond b (Some first) y ≡ Some fault
step fault first true x y go e = e
step fault first false x y go e = go e

-- the last one, of the array
last : (fault : CopyFault) → fault ≢ ArrayCrc → (b c : Bool) → cond b (Some ArrayCrc) None ≡ Some fault
    → cond c (Some ArrayCrc) None ≡ Some fault
last fault other true c e = absurd (other (cc))
last fault other false c e = absurd (cc)

pub fault-alone : (sector entries : ℕ) (which : Which) (sectors : ℕ) (header xs ys : List ℕ) (fault : CopyFault) → fault ≢ ArrayCrc
    → header_fault sector entries which sectors header xs ≡ Some fault → header_fault sector entries which sectors header ys ≡ Some fault
unfolding header_fault
fault-alone sector entries which sectors header xs ys fault other e =
    step fault Signature (not (signature header == 0x5452415020494645)) _ _
    (step fault Revision (not (revision header == 0x00010000)) _ _
    (step fault HeaderSize (not (nat_le 92 (header_size header) && nat_le (header_size header) sector)) _ _
    (step fault HeaderCrc (not (crc (summed header (header_size header)) == header_crc header)) _ _
    (step fault Place (not (my_lba header == header_place which sectors)) _ _
    (step fault ArrayPlace (not (array_lba header == array_place which sector entries sectors)) _ _
    (step fault (Counts (entry_count header) (entry_size header)) (not (entry_count header == entries && entry_size header == 128)) _ _
    (last fault other (not (crc xs == array_crc header)) (not (crc ys == array_crc header))))))))) e

-- a place that tells nothing, and not for its array's checksum, tells nothing whatever its array is
module _ (sector sectors entries : ℕ) (which : Which) (header xs ys bytes others : List ℕ)
    (read : IsReadAs bytes which sector entries header xs) (read_other : IsReadAs others which sector entries header ys) where
  pub nothing-alone : told (answer bytes which sectors sector) ≡ nothing → (answer bytes which sectors sector ≡ Err ArrayCrc → ⊥)
      → told (answer others which sectors sector) ≡ nothing
  nothing-alone none not_crc = by_fault (header_fault sector entries which sectors header xs) refl where
    by_fault : (o : Option CopyFault) → header_fault sector entries which sectors header xs ≡ o
        → told (answer others which sectors sector) ≡ nothing
    by_fault (Some fault) e =
        let says = answer-fault bytes which sectors sector entries header xs read fault e in
        let other : fault ≢ ArrayCrc = λ is. not_crc (says ∙ ap Err is) in
        let said = answer-fault others which sectors sector entries header ys read_other fault
        (fault-alone sector entries which sectors header xs ys fault other e) in
        ap told said ∙ sym (ap told says) ∙ none
    by_fault None e = by_slot (unordered_slot sector xs entries) refl where
      by_slot : (o : Option ℕ) → unordered_slot sector xs entries ≡ o → told (answer others which sectors sector) ≡ nothing
      by_slot (Some slot) e' = let refused : refuses _ ≡ nothing =
          sym (ap told (answer-slot bytes which sectors sector entries header xs read slot e e')) ∙ none in absurd (cc)
      by_slot None e' =
          let shown : shows (table_of sector entries header xs) ≡ nothing =
          sym (ap told (answer-table bytes which sectors sector entries header xs read
          (table_of sector entries header xs) e e' refl)) ∙ none in
          absurd (cc)
