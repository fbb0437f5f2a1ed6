-- What is seen of an accepted image can be planned for, whatever the image's bytes are.
use Rattle.std.proofs.Common.{◌≡◌, ℕ, ◌-◌, ◌/◌, ◌%◌, ◌^◌, ◌<◌, ◌≤◌, Bool, true, false, cond, List, length, Result, Ok, Err, arith, inl, inr, refl, sym, subst}
use Rattle.std.specs.Prelude.{◌==◌, ◌||◌, nat_lt, not}
use Rattle.std.proofs.lemmas.Bool.{ltb-false}
use Rattle.std.proofs.lemmas.Bool.Decides.{nat_tests}
use Rattle.rp_base.specs.Geometry.{IsSector, least_sectors, sector_units, usable_end}
use Rattle.rp_base.specs.Image.{sectors_of}
use Rattle.rp_base.specs.Table.{IsWhole, IsWritable}
use Rattle.rp_base.specs.declared.geometry.Which.{Which}
use Rattle.rp_base.specs.declared.geometry.Which.TheVariants.{Primary, Backup}
use Rattle.rp_base.specs.declared.seen.Origin.{Origin}
use Rattle.rp_base.specs.declared.seen.Origin.TheVariants as origins
use Rattle.rp_base.specs.declared.seen.Seen.{Seen}
use Rattle.rp_base.specs.declared.table.Table.{Table}
use Rattle.rp_gpt.specs.Accepted.{IsSeenOf, TellBy}
use Rattle.rp_gpt.specs.Shown.{accepted, accepted_as, answer_at, blank, entries_at, place_of, shown, shows, told, told_at}
use Rattle.rp_gpt.specs.declared.copy.CopyFault.{CopyFault}
use Rattle.rp_gpt.specs.declared.copy.CopyFault.TheVariants as copies
use Rattle.rp_gpt.specs.declared.table_fault.Empty.{Empty}
use Rattle.rp_gpt.specs.declared.table_fault.TableFault.{TableFault}
use Rattle.rp_gpt.specs.declared.table_fault.TableFault.TheVariants as faults
use Rattle.rp_gpt.proofs.ImagePlaces.{entries_at-may_have, length-place_of, may_have-room}
use Rattle.rp_gpt.proofs.InPlace.{blank-seen, whole_units}
use Rattle.rp_gpt.proofs.Writable.{answer-writable}
use Rattle.rp_stops.proofs.Accepting.{accepted-sized}
use Rattle.rp_stops.proofs.Given.{IsSized}
use Rattle.rp_plan.specs.Plannable.{IsPlannable}

-- neither test refuses what is accepted
cond_ok : (b : Bool) (fault : TableFault) (rest : Result Seen TableFault) (seen : Seen) → cond b (Err fault) rest ≡ Ok seen
    → (b ≡ false) × (rest ≡ Ok seen)
cond_ok true fault rest seen e = absurd (cc)
cond_ok false fault rest seen e = (refl, e)

-- an image that is accepted has whole sectors, room for two copies, and at most 2^44 bytes
record IsWholeImage (sector : ℕ) (image : List ℕ) : Type 0 where
  most : length image ≤ 2 ^ 44
  whole : length image % sector ≡ 0
  least : least_sectors sector 128 ≤ sectors_of sector image

is_whole : (sector : ℕ) (image : List ℕ) (empty : Empty) (seen : Seen) → accepted sector image empty ≡ Ok seen → IsWholeImage sector image
unfolding accepted
is_whole sector image empty seen e =
    let long = cond_ok (nat_lt (2 ^ 44) (length image)) (faults.TooLong (length image))
    (cond (not (length image % sector == 0) || nat_lt (sectors_of sector image) (least_sectors sector 128))
    (Err (faults.TooShort (length image))) (accepted_as sector image empty (shown sector image))) seen e in
    let short = cond_ok (not (length image % sector == 0) || nat_lt (sectors_of sector image) (least_sectors sector 128))
    (faults.TooShort (length image)) (accepted_as sector image empty (shown sector image)) seen long.1 in
    let short_is : (not (length image % sector == 0) || nat_lt (sectors_of sector image) (least_sectors sector 128)) ≡ false = short.0 in
    record {
      most = ltb-false (2 ^ 44) (length image) long.0;
      whole = grind (arith, nat_tests, short_is);
      least = grind (arith, nat_tests, short_is);
    }

-- a place that tells a table says it
told_shows : (said : Result Table CopyFault) (table : Table) → told said ≡ shows table → said ≡ Ok table
told_shows (Ok other) table e = cc
told_shows (Err copies.Signature) table e = cc
told_shows (Err copies.Revision) table e = cc
told_shows (Err copies.HeaderSize) table e = cc
told_shows (Err copies.HeaderCrc) table e = cc
told_shows (Err copies.Place) table e = cc
told_shows (Err copies.ArrayPlace) table e = cc
told_shows (Err (copies.Counts count size)) table e = cc
told_shows (Err copies.ArrayCrc) table e = cc
told_shows (Err (copies.RowOrder slot)) table e = cc
told_shows (Err copies.Memory) table e = cc

-- usable units that lie on the image have small numbers
low_512 : (entries units first last : ℕ) → units ≤ 2 ^ 35 → first ≤ last → last < usable_end 512 entries (units / sector_units 512)
    → first < 2 ^ 64 - 1
low_512 entries units first last most bounds end = omega (arith, most, bounds, end)

low_4096 : (entries units first last : ℕ) → units ≤ 2 ^ 35 → first ≤ last → last < usable_end 4096 entries (units / sector_units 4096)
    → first < 2 ^ 64 - 1
low_4096 entries units first last most bounds end = omega (arith, most, bounds, end)

low : (sector entries units first last : ℕ) → IsSector sector → units ≤ 2 ^ 35 → first ≤ last
    → last < usable_end sector entries (units / sector_units sector) → first < 2 ^ 64 - 1
low sector entries units first last (inl e) most bounds end =
    low_512 entries units first last most bounds (subst (λ s. last < usable_end s entries (units / sector_units s)) e end)
low sector entries units first last (inr e) most bounds end =
    low_4096 entries units first last most bounds (subst (λ s. last < usable_end s entries (units / sector_units s)) e end)

blank_first : (sector sectors : ℕ) → (blank sector sectors).first ≡ 2048
unfolding blank
blank_first sector sectors = refl

module _ (sector : ℕ) (image : List ℕ) (seen : Seen) (is : IsSector sector) (ok : IsWholeImage sector image)
    (sized : IsSized sector seen) (of_image : IsSeenOf sector image seen) where
  units_most : seen.sectors ≤ 2 ^ 35
  units_most = omega (arith, ok.most, of_image.len)

  first_low : seen.shown.first < 2 ^ 64 - 1
  first_low = low seen.shown.sector seen.shown.entries seen.sectors seen.shown.first seen.shown.last
      (subst IsSector (sym sized.of_sector) is) units_most sized.in_place.bounds sized.in_place.bounded.last

  -- a table that a place tells can be written
  told_writable : (which : Which) → told_at sector image which ≡ shows seen.shown → IsWritable seen.shown
  unfolding told_at answer_at
  told_writable which tells =
      let whole = (whole_units sector (length image) is ok.whole).2 in
      let entries = entries_at sector image which in
      let has = may_have-room sector (sectors_of sector image) entries (entries_at-may_have sector image is whole which ok.least) in
      let says = told_shows (answer_at sector image which) seen.shown tells in
      answer-writable (place_of sector image entries which) which (sectors_of sector image) sector seen.shown is (record {
        entries = entries;
        allowed = has.0;
        whole = length-place_of sector image is whole entries which has.1;
        room = has.1;
      }) says first_low

  blank_writable : seen.shown ≡ blank sector (sectors_of sector image) → IsWritable seen.shown
  blank_writable shown_is =
      let last : (blank sector (sectors_of sector image)).first ≤ (blank sector (sectors_of sector image)).last =
      subst (λ (t : Table). t.first ≤ t.last) shown_is sized.in_place.bounds in
      let start = blank_first sector (sectors_of sector image) in
      (blank-seen sector (length image) seen is ok.whole ok.most ok.least (omega (arith, last, start)) shown_is
      (omega (arith, of_image.len))).writable

  by_origin : (origin : Origin) → TellBy origin sector image seen.shown → IsWritable seen.shown
  by_origin origins.Primary tell = told_writable Primary tell
  by_origin origins.Backup tell = told_writable Backup tell.1
  by_origin origins.Neither tell = blank_writable tell.2

  can_be_planned : IsPlannable seen
  can_be_planned = record {
    whole = subst (λ s. IsWhole s seen.sectors) (sym sized.of_sector) sized.whole;
    most = units_most;
    writable = by_origin seen.origin of_image.tell;
    in_place = sized.in_place;
  }

pub plannable : (sector : ℕ) (image : List ℕ) (empty : Empty) (seen : Seen) → IsSector sector → accepted sector image empty ≡ Ok seen
    → IsPlannable seen × (seen.shown.sector ≡ sector)
plannable sector image empty seen is e =
    let both = accepted-sized sector image empty seen is e in
    (can_be_planned sector image seen is (is_whole sector image empty seen e) both.0 both.1, both.0.of_sector)
