-- What follows of an image from its being accepted, whatever its bytes are.
use Rattle.std.proofs.Common.{◌≡◌, ◌≢◌, ℕ, ◌*◌, ◌/◌, ◌%◌, ◌^◌, ◌≤◌, ◌⊎◌, Bool, true, false, cond, List, length, take, Option, Some, None, Result, Ok, Err, refl, sym, subst, inl, inr, arith}
use Rattle.std.specs.Prelude.{◌↔◌, IsTrue, not, ◌||◌, ◌==◌, nat_lt, option_map}
use Rattle.std.proofs.lemmas.Bool.{ltb-false}
use Rattle.std.proofs.lemmas.Bool.Decides.{nat_tests}
use Rattle.std.proofs.lemmas.Slice.Eq.{bytes_eq-Decides}
use Rattle.rp_base.specs.Geometry.{IsSector, least_sectors}
use Rattle.rp_base.specs.Image.{sectors_of}
use Rattle.rp_base.specs.declared.geometry.Which.{Which}
use Rattle.rp_base.specs.declared.geometry.Which.TheVariants.{Primary, Backup}
use Rattle.rp_base.specs.declared.table.Table.{Table}
use Rattle.rp_base.specs.declared.seen.Seen.{Seen}
use Rattle.rp_base.specs.declared.seen.Origin.{Origin}
use Rattle.rp_base.specs.declared.seen.Origin.TheVariants as origins
use Rattle.rp_gpt.specs.declared.table_fault.Empty.{Empty}
use Rattle.rp_gpt.specs.declared.table_fault.Empty.TheVariants.{Refuse, Allow, Require}
use Rattle.rp_gpt.specs.declared.table_fault.TableFault.{TableFault}
use Rattle.rp_gpt.specs.declared.table_fault.TableFault.TheVariants as faults
use Rattle.rp_gpt.specs.Copy.{exact}
use Rattle.rp_gpt.specs.Mbr.{foreign_type}
use Rattle.rp_gpt.specs.Shown.{Told, shows, refuses, nothing, told_at, place_of, first_told, first_place, shown, origin_of, wider_copy, table_fault, unless, seen_of, holds_exact, accepted_table, accepted_blank, accepted_as, accepted, blank}
use Rattle.rp_gpt.specs.Accepted.{seen_record, IsSeenOf, TellBy, HoldsShown}
use Rattle.rp_gpt.proofs.AnswerRead.{answer-sector}
use Rattle.rp_gpt.proofs.InPlace.{blank-seen, no_fault-in_place, units_in_sectors, whole_units}
use Rattle.rp_gpt.proofs.Writable.{answer-rows}
use Rattle.rp_stops.proofs.Given.{IsSized}
use Rattle.rp_stops.proofs.Places.{tells-room, tells-says}

-- neither test refuses what is accepted
cond_ok : (b : Bool) (fault : TableFault) (rest : Result Seen TableFault) (seen : Seen) → cond b (Err fault) rest ≡ Ok seen → (b ≡ false)
    × (rest ≡ Ok seen)
cond_ok true fault rest seen e = cc
cond_ok false fault rest seen e = (refl, e)

unless_ok : (o : Option TableFault) (rest : Result Seen TableFault) (seen : Seen) → unless o rest ≡ Ok seen → (o ≡ None)
    × (rest ≡ Ok seen)
unless_ok None rest seen e = (refl, e)
unless_ok (Some fault) rest seen e = cc

no_map : {T U : Type 0} (f : T → U) (o : Option T) → option_map f o ≡ None → o ≡ None
no_map f None h = refl
no_map f (Some x) h = cc

module _ (sector : ℕ) (image : List ℕ) where
  seen_of-ok : (origin : Origin) (table : Table) (p b : Bool) (seen : Seen) → seen_of sector image origin table p b ≡ Ok seen
      → (wider_copy sector image origin table ≡ None) × (seen ≡ seen_record sector image origin table p b)
  unfolding seen_of
  seen_of-ok origin table p b seen e =
      let both = unless_ok (option_map (λ entries. faults.EntryCount entries 128) (wider_copy sector image origin table))
      (Ok (seen_record sector image origin table p b)) seen e in
      (no_map (λ entries. faults.EntryCount entries 128) (wider_copy sector image origin table) both.0, cc both.1)

  accepted_table-ok : (empty : Empty) (table : Table) (seen : Seen) → accepted_table sector image empty table ≡ Ok seen
      → (table_fault (length image) table ≡ None)
      × (seen_of sector image (origin_of sector image) table (holds_exact sector image table Primary)
      (holds_exact sector image table Backup) ≡ Ok seen)
  unfolding accepted_table
  accepted_table-ok Refuse table seen e = unless_ok (table_fault (length image) table) _ seen e
  accepted_table-ok Allow table seen e = unless_ok (table_fault (length image) table) _ seen e
  accepted_table-ok Require table seen e = cc

  accepted_blank-ok : (empty : Empty) (seen : Seen) → accepted_blank sector image empty ≡ Ok seen
      → (2048 ≤ (blank sector (sectors_of sector image)).last)
      × (seen_of sector image origins.Neither (blank sector (sectors_of sector image)) false false ≡ Ok seen)
  unfolding accepted_blank
  accepted_blank-ok Refuse seen e =
      let both = unless_ok (option_map (λ kind. faults.OtherTable kind) (foreign_type (take 512 image))) _ seen e in
      cc both.1
  accepted_blank-ok Allow seen e =
      let both = unless_ok (option_map (λ kind. faults.OtherTable kind) (foreign_type (take 512 image))) _ seen e in
      let more = cond_ok (nat_lt (blank sector (sectors_of sector image)).last 2048) _ _ seen both.1 in
      (ltb-false _ _ more.0, more.1)
  accepted_blank-ok Require seen e =
      let both = unless_ok (option_map (λ kind. faults.OtherTable kind) (foreign_type (take 512 image))) _ seen e in
      let more = cond_ok (nat_lt (blank sector (sectors_of sector image)).last 2048) _ _ seen both.1 in
      (ltb-false _ _ more.0, more.1)

  -- an image that may be accepted is whole
  record IsWholeImage : Type 0 where
    most : length image ≤ 2 ^ 44
    whole : length image % sector ≡ 0
    least : least_sectors sector 128 ≤ sectors_of sector image

  accepted-ok : (empty : Empty) (seen : Seen) → accepted sector image empty ≡ Ok seen
      → IsWholeImage × (accepted_as sector image empty (shown sector image) ≡ Ok seen)
  unfolding accepted
  accepted-ok empty seen e =
      let long = cond_ok (nat_lt (2 ^ 44) (length image)) _ _ seen e in
      let short = cond_ok (not (length image % sector == 0) || nat_lt (sectors_of sector image)
      (least_sectors sector 128)) _ _ seen long.1 in
      let short_is : (not (length image % sector == 0) || nat_lt (sectors_of sector image) (least_sectors sector 128)) ≡ false =
      short.0 in (
        record { most = ltb-false _ _ long.0; whole = grind (arith, nat_tests, short_is); least = grind (arith, nat_tests, short_is) },
        short.1,
      )

-- the place whose copy is shown, by what both tell
by_shown : (p b : Told) (table : Table) → first_told p b ≡ shows table
    → ((p ≡ shows table) × (first_place p b ≡ origins.Primary)) ⊎ ((p ≡ nothing) × (b ≡ shows table) × (first_place p b ≡ origins.Backup))
by_shown (shows other) b table e = inl (e, refl)
by_shown (refuses fault) b table e = cc
by_shown nothing (shows other) table e = inr (refl, e, refl)
by_shown nothing (refuses fault) table e = cc
by_shown nothing nothing table e = cc

none_shown : (p b : Told) → first_told p b ≡ nothing → (p ≡ nothing) × (b ≡ nothing)
none_shown (shows table) b e = cc
none_shown (refuses fault) b e = cc
none_shown nothing b e = (refl, e)

module _ (sector : ℕ) (image : List ℕ) (is : IsSector sector) (ok : IsWholeImage sector image) where
  whole_image : length image ≡ sector * sectors_of sector image
  whole_image = (whole_units sector (length image) is ok.whole).2

  -- what is known of a table that a place tells and that has no fault
  told_sized : (which : Which) (table : Table) → told_at sector image which ≡ shows table → table_fault (length image) table ≡ None
      → (seen : Seen) → seen.shown ≡ table → seen.sectors ≡ length image / 512 → IsSized sector seen
  told_sized which table tells none seen shown_is units =
      let says = tells-says sector is image (sectors_of sector image) whole_image ok.least table which tells in
      let of_sector : table.sector ≡ sector = answer-sector (place_of sector image table.entries which) which
      (sectors_of sector image) sector table says in
      let rows = answer-rows (place_of sector image table.entries which) which (sectors_of sector image) sector table is says in
      let its : IsSector table.sector = subst IsSector (sym of_sector) is in
      let whole : length image % table.sector ≡ 0 = subst (λ z. length image % z ≡ 0) (sym of_sector) ok.whole in
      rw (shown_is, units) record {
        of_sector = of_sector;
        whole = (whole_units sector (length image) is ok.whole).0;
        room = rw (units_in_sectors sector (length image) is ok.whole)
            (tells-room sector is image (sectors_of sector image) whole_image ok.least table which tells);
        in_place = no_fault-in_place (length image) table its whole rows none;
      }

  -- what the places tell where a table is shown, and by which of them
  tell_shown : (table : Table) → shown sector image ≡ shows table
      → TellBy (origin_of sector image) sector image table × (origin_of sector image ≢ origins.Neither)
      × ((which : Which) × (told_at sector image which ≡ shows table))
  unfolding shown origin_of
  tell_shown table e = by_place (by_shown (told_at sector image Primary) (told_at sector image Backup) table e) where
    by_place : ((told_at sector image Primary ≡ shows table)
        × (first_place (told_at sector image Primary) (told_at sector image Backup) ≡ origins.Primary))
        ⊎ ((told_at sector image Primary ≡ nothing) × (told_at sector image Backup ≡ shows table)
        × (first_place (told_at sector image Primary) (told_at sector image Backup) ≡ origins.Backup))
        → TellBy (first_place (told_at sector image Primary) (told_at sector image Backup)) sector image table
        × (first_place (told_at sector image Primary) (told_at sector image Backup) ≢ origins.Neither)
        × ((which : Which) × (told_at sector image which ≡ shows table))
    by_place (inl h) = rw (h.1) (h.0, λ e. cc, (Primary, h.0))
    by_place (inr h) = rw (h.2) ((h.0, h.1), λ e. cc, (Backup, h.1))

  same_holds : (origin : Origin) (table : Table) (p b : Bool) (which : Which) → origin ≢ origins.Neither
      → IsTrue (holds_exact sector image table which) ↔ HoldsShown sector image (seen_record sector image origin table p b) which
  unfolding holds_exact
  same_holds origin table p b which other =
      let same = bytes_eq-Decides (place_of sector image table.entries which) (exact table which (sectors_of sector image)) in
      (λ is. record { origin = other; exact = same.0 is }, λ h. same.1 h.exact)

  none_holds : (table : Table) (p b : Bool) (which : Which)
      → IsTrue false ↔ HoldsShown sector image (seen_record sector image origins.Neither table p b) which
  none_holds table p b which = (λ e. cc, λ h. absurd (h.origin refl))

  as_table : (empty : Empty) (table : Table) (seen : Seen) → shown sector image ≡ shows table
      → accepted_table sector image empty table ≡ Ok seen
      → IsSized sector seen × IsSeenOf sector image seen
  as_table empty table seen shows_it e =
      let both = accepted_table-ok sector image empty table seen e in
      let origin = origin_of sector image in
      let p = holds_exact sector image table Primary in
      let b = holds_exact sector image table Backup in
      let made = seen_of-ok sector image origin table p b seen both.1 in
      let tell = tell_shown table shows_it in
      rw (made.1) (
        told_sized tell.2.0 table tell.2.1 both.0 (seen_record sector image origin table p b) refl refl,
        record {
          len = (whole_units sector (length image) is ok.whole).1;
          tell = tell.0;
          wider = made.0;
          primary_same = same_holds origin table p b Primary tell.1;
          backup_same = same_holds origin table p b Backup tell.1;
          mbr = refl;
        },
      )

  as_blank : (empty : Empty) (seen : Seen) → shown sector image ≡ nothing → accepted_blank sector image empty ≡ Ok seen
      → IsSized sector seen × IsSeenOf sector image seen
  unfolding shown
  as_blank empty seen none e =
      let both = accepted_blank-ok sector image empty seen e in
      let table = blank sector (sectors_of sector image) in
      let made = seen_of-ok sector image origins.Neither table false false seen both.1 in
      let sized = blank-seen sector (length image)
      (seen_record sector image origins.Neither table false false) is ok.whole ok.most ok.least both.0 refl refl in
      rw (made.1) (
        record { of_sector = sized.of_sector; whole = sized.whole; room = sized.room; in_place = sized.in_place },
        record {
          len = (whole_units sector (length image) is ok.whole).1;
          tell = let nones = none_shown (told_at sector image Primary) (told_at sector image Backup) none in (nones.0, nones.1, refl);
          wider = made.0;
          primary_same = none_holds table false false Primary;
          backup_same = none_holds table false false Backup;
          mbr = refl;
        },
      )

-- an image that is accepted
pub accepted-sized : (sector : ℕ) (image : List ℕ) (empty : Empty) (seen : Seen) → IsSector sector → accepted sector image empty ≡ Ok seen
    → IsSized sector seen × IsSeenOf sector image seen
unfolding accepted_as
accepted-sized sector image empty seen is e =
    let both = accepted-ok sector image empty seen e in by_told both.0 (shown sector image) refl both.1 where
      by_told : IsWholeImage sector image → (t : Told) → shown sector image ≡ t → accepted_as sector image empty t ≡ Ok seen
          → IsSized sector seen × IsSeenOf sector image seen
      by_told ok (shows table) shows_it rest = as_table sector image is ok empty table seen shows_it rest
      by_told ok (refuses fault) shows_it rest = cc
      by_told ok nothing shows_it rest = as_blank sector image is ok empty seen shows_it rest
