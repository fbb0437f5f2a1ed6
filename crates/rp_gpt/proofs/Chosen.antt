-- The number of entries with which a place is read.
use Rattle.std.proofs.Common.{◌≡◌, ◌≢◌, ℕ, zero, suc, ◌+◌, ◌-◌, ◌*◌, ◌<◌, ◌≤◌, Bool, true, false, cond, List, ◌∷◌, find, Some, None, refl, sym, ap, subst, ◌∙◌, arith}
use Rattle.std.specs.List.{range_with_len}
use Rattle.std.proofs.lemmas.Bool.{leb-true, eqb-true, false≢true}
use Rattle.std.proofs.lemmas.List.Folds.{find-append}
use Rattle.rp_base.specs.Geometry.{IsSector, AreEntries, copy_bytes, least_sectors}
use Rattle.rp_gpt.specs.Fields.{entry_count}
use Rattle.rp_gpt.specs.Copy.{IsPlace, is_place, least_from, least_entries, chosen_entries}
use Rattle.rp_gpt.proofs.Parts.{both}
use Rattle.rp_gpt.proofs.Sectors.{same_room, only_128, copy_bytes-is, array_room}
use Rattle.rp_gpt.proofs.Slots.{range_split}
use Rattle.rp_gpt.proofs.Passes.{place-is}

-- so many entries have a place of so many bytes, and a disk has room for two
pub record IsChosen (sector sectors bytes entries : ℕ) : Type 0 where
  pub allowed : AreEntries entries
  pub whole : bytes ≡ copy_bytes entries sector
  pub room : least_sectors sector entries ≤ sectors

-- what the test says
pub is_place-true : (sector bytes entries : ℕ) → is_place sector bytes entries ≡ true → AreEntries entries × (bytes ≡ copy_bytes entries sector)
is_place-true sector bytes entries h =
    let outer = both _ _ h in
    let inner = both _ _ outer.0 in
    (record { least = leb-true _ _ inner.0; most = leb-true _ _ inner.1 }, eqb-true _ _ outer.1)

-- a number in a range that passes is found there, or a lesser one
find_cons : (test : ℕ → Bool) (at : ℕ) (rest : List ℕ) → (test at ≡ false → (m : ℕ) × (find test rest ≡ Some m) × (test m ≡ true)) → (b : Bool) → test at ≡ b → (m : ℕ) × (find test (at ∷ rest) ≡ Some m) × (test m ≡ true)
find_cons test at rest later true e = (at, rw e refl, e)
find_cons test at rest later false e = let l = later e in (l.0, rw e l.1, l.2)

find_passes : (test : ℕ → Bool) (at count n : ℕ) → at ≤ n → n < at + count → test n ≡ true → (m : ℕ) × (find test (range_with_len at count) ≡ Some m) × (test m ≡ true)
find_passes test at zero n low high h = absurd (omega arith)
find_passes test at (suc count) n low high h =
    find_cons test at (range_with_len (at + 1) count)
    (λ fails.
    let other : n ≢ at = λ e. false≢true (sym fails ∙ ap test (sym e) ∙ h) in
    find_passes test (at + 1) count n (omega arith) (omega arith) h)
    (test at) refl

-- the least number of a place
least_passes : (sector bytes at count n : ℕ) → at ≤ n → n < at + count → is_place sector bytes n ≡ true → (m : ℕ) × (least_from sector bytes at count ≡ Some m) × (is_place sector bytes m ≡ true)
unfolding least_from
least_passes sector bytes at count n low high h = find_passes (is_place sector bytes) at count n low high h

least-place : (sector bytes n : ℕ) → AreEntries n → bytes ≡ copy_bytes n sector → is_place sector bytes (least_entries sector bytes) ≡ true
least-place sector bytes n allowed whole =
    let least = least_passes sector bytes 128 897 n allowed.least (omega (arith, allowed.most)) (place-is sector bytes n allowed whole) in
    rw (least.1) (least.2)

-- no number
pub least_from-none : (sector bytes at : ℕ) → least_from sector bytes at 0 ≡ None
unfolding least_from
least_from-none sector bytes at = refl

-- none of some numbers, one more, and the first that is one
module _ (sector bytes at n : ℕ) (none : least_from sector bytes at n ≡ None) where
  pub least_from-more : is_place sector bytes (at + n) ≡ false → least_from sector bytes at (n + 1) ≡ None
  unfolding least_from
  least_from-more fails = rw (range_split, find-append, none, fails) refl

  pub least_from-found : (m : ℕ) → n < m → is_place sector bytes (at + n) ≡ true → least_from sector bytes at m ≡ Some (at + n)
  unfolding least_from
  least_from-found m below passes =
      let e : m ≡ n + suc (m - n - 1) = omega arith in
      ap (λ k. find (is_place sector bytes) (range_with_len at k)) e ∙ rw (range_split at n (suc (m - n - 1)), find-append, none, passes) refl

-- the header's number, or the least
chosen-passes : (sector bytes count least : ℕ) → is_place sector bytes least ≡ true → (b : Bool) → is_place sector bytes count ≡ b → is_place sector bytes (cond b count least) ≡ true
chosen-passes sector bytes count least h true e = e
chosen-passes sector bytes count least h false e = h

pub chosen-place : (sector sectors bytes : ℕ) (header : List ℕ) → IsSector sector → IsPlace sector sectors bytes → IsChosen sector sectors bytes (chosen_entries sector bytes header)
chosen-place sector sectors bytes header is place =
    let passes = chosen-passes sector bytes (entry_count header) (least_entries sector bytes) (least-place sector bytes place.entries place.allowed place.whole) _ refl in
    let says = is_place-true sector bytes (chosen_entries sector bytes header) passes in
    record {
      allowed = says.0;
      whole = says.1;
      room = same_room sector is place.entries (chosen_entries sector bytes header) sectors (sym place.whole ∙ says.1) place.room;
    }

-- a place of the least number of entries is read with it, whatever its header
pub chosen-128 : (sector : ℕ) (header : List ℕ) → IsSector sector → chosen_entries sector (copy_bytes 128 sector) header ≡ 128
chosen-128 sector header is =
    let bytes = copy_bytes 128 sector in
    let place : IsPlace sector (least_sectors sector 128) bytes = record { entries = 128; allowed = record { least = omega arith; most = omega arith }; whole = refl; room = omega arith } in
    let chosen = chosen-place sector (least_sectors sector 128) bytes header is place in
    only_128 sector is (chosen_entries sector bytes header) chosen.allowed chosen.whole

-- the number with which the code reads a place
pub chosen-read : (sector sectors bytes entries : ℕ) (header : List ℕ) → IsSector sector → IsPlace sector sectors bytes → entries ≡ chosen_entries sector bytes header → IsChosen sector sectors bytes entries
chosen-read sector sectors bytes entries header is place e = subst (IsChosen sector sectors bytes) (sym e) (chosen-place sector sectors bytes header is place)

pub entries_inside : (sector sectors bytes entries array : ℕ) → IsSector sector → IsChosen sector sectors bytes entries → array + sector ≡ bytes → 128 * entries ≤ array
entries_inside sector sectors bytes entries array is chosen sum = omega (arith, chosen.whole, copy_bytes-is sector is entries, array_room sector is entries)
