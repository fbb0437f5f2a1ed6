-- An image whose places hold the exact copies of a table in place is accepted as that table.
use Rattle.std.proofs.Common.{◌≡◌, ◌≢◌, ℕ, suc, ◌+◌, ◌*◌, ◌-◌, ◌/◌, ◌%◌, ◌^◌, ◌<◌, ◌≤◌, Bool, true, false, cond, List, [], ◌∷◌, length, take, drop, Some, None, Ok, All, AllPairs, refl, sym, ap, subst, ◌∙◌, inl, inr, arith}
use Rattle.std.specs.Prelude.{not, ◌||◌, ◌&&◌, ◌==◌, nat_lt, nat_le, find}
use Rattle.std.specs.Str.{bytes_eq}
use Rattle.std.proofs.lemmas.Bool.Decides.{nat_tests}
use Rattle.std.proofs.lemmas.List.{drop-drop, drop-take, take-take}
use Rattle.std.proofs.lemmas.List.Elements.{All-head, All-tail}
use Rattle.std.proofs.lemmas.Slice.Eq.{bytes_eq-Decides}
use Rattle.rp_base.specs.Geometry.{IsSector, AreEntries, copy_bytes, copy_place, header_place, first_usable, least_sectors, usable_end}
use Rattle.rp_base.specs.Image.{bytes_at, sectors_of}
use Rattle.rp_base.specs.Table.{AreApart, IsInPlace, IsLaidOut, IsWritable}
use Rattle.rp_base.specs.declared.geometry.Which.{Which}
use Rattle.rp_base.specs.declared.geometry.Which.TheVariants.{Primary, Backup}
use Rattle.rp_base.specs.declared.table.Row.{Row}
use Rattle.rp_base.specs.declared.table.Table.{Table}
use Rattle.rp_base.specs.declared.seen.Origin.TheVariants as origins
use Rattle.rp_gpt.specs.declared.table_fault.Empty.{Empty}
use Rattle.rp_gpt.specs.declared.table_fault.Empty.TheVariants.{Refuse, Allow, Require}
use Rattle.rp_gpt.specs.Fields.{entry_count}
use Rattle.rp_gpt.specs.Copy.{answer, exact, header_of, ReadsBack}
use Rattle.rp_gpt.specs.Shown.{shows, told_at, answer_at, entries_at, header_at, place_of, shown, origin_of, wider_copy, row_outside, share_unit, overlap, rows_fault, table_fault, seen_of, holds_exact, accepted_table, accepted_as, accepted}
use Rattle.rp_gpt.specs.Accepted.{HoldsTable, seen_record}
use Rattle.rp_gpt.proofs.InPlace.{units_in_sectors}
use Rattle.rp_gpt.proofs.AnswerRead.{answer-count}
use Rattle.rp_gpt.proofs.ImagePlaces.{copy_end, length-bytes_at, room-may_have}

-- where no element passes, nothing is found
none_pass : {X : Type 0} (test : X → Bool) (P : X → Type 0) → ((x : X) → P x → test x ≡ false) → (xs : List X) → All P xs → find test xs ≡ None
none_pass test P fails [] all = refl
none_pass test P fails (x ∷ xs) all = let here = fails x (All-head P x xs all) in let rest = none_pass test P fails xs (All-tail P x xs all) in ap (λ b. cond b (Some x) (find test xs)) here ∙ rest

apart_fails : (a b : Row) → AreApart a b → share_unit a b ≡ false
apart_fails a b (inl h) = grind (arith, nat_tests)
apart_fails a b (inr h) = grind (arith, nat_tests)

none_overlap : (rows : List Row) → AllPairs AreApart rows → overlap rows ≡ None
unfolding overlap
none_overlap [] apart = refl
none_overlap (row ∷ rows) apart =
    let here : find (share_unit row) rows ≡ None = none_pass (share_unit row) (AreApart row) (apart_fails row) rows (λ k d inside. apart 0 (suc k) d (omega arith) (omega arith)) in
    rw here (none_overlap rows (λ i j d before inside. apart (suc i) (suc j) d (omega arith) (omega arith)))

none_outside : (table : Table) → IsLaidOut table → row_outside table ≡ None
unfolding row_outside
none_outside table laid =
    none_pass (λ row. not (nat_le table.first row.start && nat_le (row.start + row.size) (table.last + 1)))
    (λ (row : Row). (table.first ≤ row.start) × (row.start + row.size ≤ table.last + 1)) (λ row h. passes row h.0 h.1) table.rows laid.in_bounds where
      passes : (row : Row) → table.first ≤ row.start → row.start + row.size ≤ table.last + 1 → not (nat_le table.first row.start && nat_le (row.start + row.size) (table.last + 1)) ≡ false
      passes row low high = grind (arith, nat_tests)

-- a table in place has no fault
pub in_place-no_fault : (len : ℕ) (table : Table) → (len / 512) / (table.sector / 512) ≡ len / table.sector → IsInPlace (len / 512) table → table_fault len table ≡ None
unfolding table_fault rows_fault
in_place-no_fault len table units placed =
    let first = placed.bounded.first in
    let bounds = placed.bounds in
    let last : table.last < usable_end table.sector table.entries (len / table.sector) = rw units at placed.bounded.last in
    let bounds_are : (nat_lt table.first (first_usable table.sector table.entries) || nat_lt table.last table.first) ≡ false = within first bounds in
    let last_is : nat_le (usable_end table.sector table.entries (len / table.sector)) table.last ≡ false = before last in
    rw (bounds_are, last_is, none_outside table placed.rows, none_overlap table.rows placed.rows.apart) refl where
      within : first_usable table.sector table.entries ≤ table.first → table.first ≤ table.last → (nat_lt table.first (first_usable table.sector table.entries) || nat_lt table.last table.first) ≡ false
      within first bounds = grind (arith, nat_tests)

      before : table.last < usable_end table.sector table.entries (len / table.sector) → nat_le (usable_end table.sector table.entries (len / table.sector)) table.last ≡ false
      before last = grind (arith, nat_tests)

-- the first bytes of some bytes, and the last
front_of : (image : List ℕ) (at count some : ℕ) → some ≤ count → take some (bytes_at image at count) ≡ bytes_at image at some
front_of image at count some few =
    let all : at + count - at ≡ count = omega arith in
    let part : at + some - at ≡ some = omega arith in
    rw (all, part) (take-take some count (drop at image) few)

back_of : (image : List ℕ) (at count some : ℕ) → some ≤ count → drop (count - some) (bytes_at image at count) ≡ bytes_at image (at + count - some) some
back_of image at count some few =
    let all : at + count - at ≡ (count - some) + some = omega arith in
    let part : at + count - some + some - (at + count - some) ≡ some = omega arith in
    let place : at + (count - some) ≡ at + count - some = omega arith in
    ap (λ n. drop (count - some) (take n (drop at image))) all ∙ drop-take (count - some) some (drop at image) ∙ ap (take some) (drop-drop (count - some) at image ∙ ap (λ n. drop n image) place)
    ∙ ap (λ n. take n (drop (at + count - some) image)) (sym part)

-- the header stands in a place where it is looked for
copy_holds_header : (sector entries : ℕ) → IsSector sector → sector ≤ copy_bytes entries sector
copy_holds_header sector entries (inl e) = rw e (omega arith)
copy_holds_header sector entries (inr e) = rw e (omega arith)

header_last : (sector entries sectors : ℕ) → IsSector sector → least_sectors sector entries ≤ sectors
    → sector * copy_place Backup sector entries sectors + copy_bytes entries sector - sector ≡ sector * header_place Backup sectors
header_last sector entries sectors (inl e) room = let room_is : least_sectors 512 entries ≤ sectors = rw e at room in rw e (omega arith)
header_last sector entries sectors (inr e) room = let room_is : least_sectors 4096 entries ≤ sectors = rw e at room in rw e (omega arith)

module _ (sector : ℕ) (image : List ℕ) (is : IsSector sector) (whole : length image ≡ sector * sectors_of sector image) where
  header_in_place : (entries : ℕ) (which : Which) → least_sectors sector entries ≤ sectors_of sector image
      → header_of sector (place_of sector image entries which) which ≡ header_at sector image which
  unfolding header_of place_of header_at
  header_in_place entries Primary room = front_of image (sector * 1) (copy_bytes entries sector) sector (copy_holds_header sector entries is)
  header_in_place entries Backup room =
      let len : length (bytes_at image (sector * copy_place Backup sector entries (sectors_of sector image)) (copy_bytes entries sector)) ≡ copy_bytes entries sector =
      length-bytes_at image _ (copy_bytes entries sector) (let end = copy_end Backup sector entries (sectors_of sector image) is room in omega (arith, end, whole)) in
      rw len (back_of image _ (copy_bytes entries sector) sector (copy_holds_header sector entries is) ∙ ap (λ n. bytes_at image n sector) (header_last sector entries (sectors_of sector image) is room))

  -- a copy that says a table with so many entries is read with that number
  pub entries_at-said : (table : Table) (which : Which) → AreEntries table.entries → least_sectors sector table.entries ≤ sectors_of sector image
      → answer (place_of sector image table.entries which) which (sectors_of sector image) sector ≡ Ok table → entries_at sector image which ≡ table.entries
  unfolding entries_at
  entries_at-said table which are room says =
      let count : entry_count (header_at sector image which) ≡ table.entries = ap entry_count (sym (header_in_place table.entries which room)) ∙ answer-count (place_of sector image table.entries which) which (sectors_of sector image) sector table says in
      rw count (ap (λ b. cond b table.entries 128) (room-may_have sector (sectors_of sector image) table.entries are room))

  -- a place that holds the exact copy of a table has its number of entries
  pub exact-entries : (table : Table) (which : Which) → table.sector ≡ sector → IsWritable table → ReadsBack table → least_sectors table.sector table.entries ≤ sectors_of sector image → sectors_of sector image ≤ 2 ^ 35
      → place_of sector image table.entries which ≡ exact table which (sectors_of sector image) → entries_at sector image which ≡ table.entries
  exact-entries table which of_sector writable reads room most holds =
      entries_at-said table which writable.entries (subst (λ z. least_sectors z table.entries ≤ sectors_of sector image) of_sector room) (ap (λ bytes. answer bytes which (sectors_of sector image) sector) holds
      ∙ subst (λ z. answer (exact table which (sectors_of sector image)) which (sectors_of sector image) z ≡ Ok table) of_sector (reads which (sectors_of sector image) room most))

-- the room that a table in place has
in_place-room : (sector entries units first last : ℕ) → IsSector sector → AreEntries entries → first_usable sector entries ≤ first → first ≤ last → last < usable_end sector entries (units / (sector / 512))
    → least_sectors sector entries ≤ units / (sector / 512)
in_place-room sector entries units first last is are low bounds high = by_size is low high where
  by_size : IsSector sector → first_usable sector entries ≤ first → last < usable_end sector entries (units / (sector / 512)) → least_sectors sector entries ≤ units / (sector / 512)
  by_size (inl e) low high = let low_is : first_usable 512 entries ≤ first = rw e at low in let high_is : last < usable_end 512 entries (units / 1) = rw e at high in rw e (omega arith)
  by_size (inr e) low high = let low_is : first_usable 4096 entries ≤ first = rw e at low in let high_is : last < usable_end 4096 entries (units / 8) = rw e at high in rw e (omega arith)

least_of_all : (sector entries sectors : ℕ) → IsSector sector → AreEntries entries → least_sectors sector entries ≤ sectors → least_sectors sector 128 ≤ sectors
least_of_all sector entries sectors (inl e) are room = let least = are.least in let room_is : least_sectors 512 entries ≤ sectors = rw e at room in rw e (omega arith)
least_of_all sector entries sectors (inr e) are room = let least = are.least in let room_is : least_sectors 4096 entries ≤ sectors = rw e at room in rw e (omega arith)

not_short : (rest sectors least : ℕ) → rest ≡ 0 → least ≤ sectors → (not (rest == 0) || nat_lt sectors least) ≡ false
not_short rest sectors least whole room = grind (arith, nat_tests)

holds_true : (bytes others : List ℕ) → bytes ≡ others → bytes_eq bytes others ≡ true
holds_true bytes others e = (bytes_eq-Decides bytes others).1 e

module _ (image : List ℕ) (table : Table) (holds : HoldsTable image table) (writable : IsWritable table) (reads : ReadsBack table) where
  divides : (sector sectors : ℕ) → IsSector sector → length image ≡ sector * sectors → length image % sector ≡ 0
  divides sector sectors (inl e) h = let h_is : length image ≡ 512 * sectors = rw e at h in rw e (omega arith)
  divides sector sectors (inr e) h = let h_is : length image ≡ 4096 * sectors = rw e at h in rw e (omega arith)

  is_whole : length image % table.sector ≡ 0
  is_whole = divides table.sector _ writable.sector holds.whole

  units : (length image / 512) / (table.sector / 512) ≡ length image / table.sector
  units = units_in_sectors table.sector (length image) writable.sector is_whole

  room : least_sectors table.sector table.entries ≤ sectors_of table.sector image
  room = let placed = holds.in_place in
      rw units at (in_place-room table.sector table.entries (length image / 512) table.first table.last writable.sector writable.entries placed.bounded.first placed.bounds placed.bounded.last)

  most : sectors_of table.sector image ≤ 2 ^ 35
  most = few table.sector writable.sector where
    few : (sector : ℕ) → IsSector sector → length image / sector ≤ 2 ^ 35
    few sector (inl e) = let at_most = holds.most in rw e (omega arith)
    few sector (inr e) = let at_most = holds.most in rw e (omega arith)

  says : (which : Which) → answer (place_of table.sector image table.entries which) which (sectors_of table.sector image) table.sector ≡ Ok table
  says which = rw (holds.places which) (reads which (sectors_of table.sector image) room most)

  tells : (which : Which) → told_at table.sector image which ≡ shows table
  unfolding told_at answer_at
  tells which =
      let count = entries_at-said table.sector image writable.sector holds.whole table which writable.entries room (says which) in
      rw (count, says which) refl

  shows_it : shown table.sector image ≡ shows table
  unfolding shown
  shows_it = rw (tells Primary) refl

  by_primary : origin_of table.sector image ≡ origins.Primary
  unfolding origin_of
  by_primary = rw (tells Primary) refl

  same : (which : Which) → holds_exact table.sector image table which ≡ true
  unfolding holds_exact
  same which = holds_true _ _ (holds.places which)

  accepted_here : (empty : Empty) → empty ≢ Require → accepted_table table.sector image empty table ≡ Ok (seen_record table.sector image origins.Primary table true true)
  unfolding accepted_table seen_of wider_copy
  accepted_here Refuse other = rw (in_place-no_fault (length image) table units holds.in_place, by_primary, same Primary, same Backup) refl
  accepted_here Allow other = rw (in_place-no_fault (length image) table units holds.in_place, by_primary, same Primary, same Backup) refl
  accepted_here Require other = absurd (other refl)

  pub exact-accepted : (empty : Empty) → empty ≢ Require → accepted table.sector image empty ≡ Ok (seen_record table.sector image origins.Primary table true true)
  unfolding accepted accepted_as
  exact-accepted empty other =
      let at_most = holds.most in
      let long : nat_lt (2 ^ 44) (length image) ≡ false = grind (arith, nat_tests) in
      let least = least_of_all table.sector table.entries (sectors_of table.sector image) writable.sector writable.entries room in
      rw (long, not_short (length image % table.sector) _ _ is_whole least, shows_it) (accepted_here empty other)
