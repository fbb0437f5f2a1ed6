-- What is seen of an image, from its pieces.
use Rattle.std.proofs.Common.{◌≡◌, ◌≢◌, ℕ, ◌*◌, ◌/◌, ◌%◌, ◌^◌, ◌<◌, ◌≤◌, Bool, true, false, List, length, Option, Some, None, Result, Ok, Err, IfOk, refl, sym, ap, subst, ◌∙◌, inl, inr, arith, ne_eqb}
use Rattle.std.specs.Prelude.{◌⊎◌, ◌↔◌, ◌||◌, IsTrue, nat_lt, nat_le, nat_eq, option_map}
use Rattle.std.specs.Option.{option_or}
use Rattle.std.specs.Str.{bytes_eq}
use Rattle.std.proofs.lemmas.Bool.Decides.{same_from_decides, nat_tests}
use Rattle.std.proofs.lemmas.Slice.Eq.{bytes_eq-Decides}
use Rattle.rp_base.specs.Answers.{Gives}
use Rattle.rp_base.specs.Geometry.{IsSector, first_usable, least_sectors, usable_end}
use Rattle.rp_base.specs.Image.{sectors_of}
use Rattle.rp_base.specs.Table.{IsWritable, TableFits}
use Rattle.rp_base.specs.declared.geometry.Which.{Which}
use Rattle.rp_base.specs.declared.geometry.Which.TheVariants.{Primary, Backup}
use Rattle.rp_base.specs.declared.table.Row.{Row}
use Rattle.rp_base.specs.declared.table.Table.{Table}
use Rattle.rp_base.specs.declared.seen.Seen.{Seen}
use Rattle.rp_base.specs.declared.seen.Origin.{Origin}
use Rattle.rp_base.specs.declared.seen.Origin.TheVariants as origins
use Rattle.rp_gpt.specs.declared.table_fault.Empty.{Empty}
use Rattle.rp_gpt.specs.declared.table_fault.Empty.TheVariants.{Refuse, Allow, Require}
use Rattle.rp_gpt.specs.declared.table_fault.TableFault.{TableFault}
use Rattle.rp_gpt.specs.declared.table_fault.TableFault.TheVariants as faults
use Rattle.rp_gpt.specs.Copy.{exact}
use Rattle.rp_gpt.specs.Mbr.{mbr_state, foreign_type}
use Rattle.rp_gpt.specs.Shown.{Told, shows, refuses, nothing, told_at, place_of, shown, origin_of, above, broken_at, wider_copy, row_outside, overlap, rows_fault, table_fault, seen_of, holds_exact, accepted_table, accepted_blank, accepted_as, blank}
use Rattle.rp_gpt.specs.Accepted.{IsRead, IsSeen}
use Rattle.rp_gpt.proofs.InPlace.{blank-seen, no_fault-seen, no_fault-writable}
use Rattle.rp_gpt.proofs.ExactPlaces.{exact-entries}
use Rattle.rp_gpt.proofs.ReadsBack.{reads_back}
use Rattle.rp_table.specs.declared.pieces.Pieces.{Pieces}
use Rattle.rp_table.specs.declared.pieces.Place.{Place}
use Rattle.rp_table.specs.Pieces.{IsDisk, AreSized, ArePieces, TellsTable, place_in}
use Rattle.rp_table.proofs.Saying.{place_is, sectors_are}

-- so many sectors as bytes
pub disk_len : (sector sectors : ℕ) → IsDisk sector sectors → ((sector * sectors) % sector ≡ 0) × ((sector * sectors) / sector ≡ sectors) × ((sector * sectors) / 512 ≡ sector / 512 * sectors) × (sectors ≤ 2 ^ 35)
disk_len sector sectors disk = by_size sector disk.size disk.most where
  by_size : (sector : ℕ) → IsSector sector → sector * sectors ≤ 2 ^ 44 → ((sector * sectors) % sector ≡ 0) × ((sector * sectors) / sector ≡ sectors) × ((sector * sectors) / 512 ≡ sector / 512 * sectors) × (sectors ≤ 2 ^ 35)
  by_size sector (inl e) most = let most_is : 512 * sectors ≤ 2 ^ 44 = rw e at most in rw e (omega arith, omega arith, omega arith, omega arith)
  by_size sector (inr e) most = let most_is : 4096 * sectors ≤ 2 ^ 44 = rw e at most in rw e (omega arith, omega arith, omega arith, omega arith)

-- the tests of a table, in their order, on a disk of so many sectors
module _ (sectors : ℕ) (table : Table) (disk : IsDisk table.sector sectors) where
  len_is : (table.sector * sectors) / table.sector ≡ sectors
  len_is = (disk_len table.sector sectors disk).1

  pub fault-bounds : (table.first < first_usable table.sector table.entries) ⊎ (table.last < table.first) → Some (faults.Bounds table.first table.last) ≡ table_fault (table.sector * sectors) table
  unfolding table_fault
  fault-bounds h =
      let test : (nat_lt table.first (first_usable table.sector table.entries) || nat_lt table.last table.first) ≡ true = either table.first (first_usable table.sector table.entries) table.last h in
      rw test refl where
        either : (first least last : ℕ) → (first < least) ⊎ (last < first) → (nat_lt first least || nat_lt last first) ≡ true
        either first least last (inl h) = grind (arith, nat_tests)
        either first least last (inr h) = grind (arith, nat_tests)

  -- within its bounds
  module _ (first : first_usable table.sector table.entries ≤ table.first) (last : table.first ≤ table.last) where
    bounds_pass : (nat_lt table.first (first_usable table.sector table.entries) || nat_lt table.last table.first) ≡ false
    bounds_pass = both table.first (first_usable table.sector table.entries) table.last first last where
      both : (first least last : ℕ) → least ≤ first → first ≤ last → (nat_lt first least || nat_lt last first) ≡ false
      both first least last low high = grind (arith, nat_tests)

    pub fault-short : usable_end table.sector table.entries sectors ≤ table.last → Some (faults.TooShort (table.sector * sectors)) ≡ table_fault (table.sector * sectors) table
    unfolding table_fault
    fault-short h =
        let test : nat_le (usable_end table.sector table.entries sectors) table.last ≡ true = grind (arith, nat_tests) in
        rw (bounds_pass, len_is, test) refl

    pub fault-rows : table.last < usable_end table.sector table.entries sectors → rows_fault table ≡ table_fault (table.sector * sectors) table
    unfolding table_fault
    fault-rows h =
        let test : nat_le (usable_end table.sector table.entries sectors) table.last ≡ false = grind (arith, nat_tests) in
        rw (bounds_pass, len_is, test) refl

-- the first fault of rows
module _ (table : Table) where
  pub rows-outside : (slot : ℕ) → Some slot ≡ option_map (λ row. row.slot) (row_outside table) → Some (faults.RowRange slot) ≡ rows_fault table
  unfolding rows_fault
  rows-outside slot e = by_row (row_outside table) e where
    by_row : (o : Option Row) → Some slot ≡ option_map (λ row. row.slot) o
        → Some (faults.RowRange slot) ≡ option_or (option_map (λ row. faults.RowRange row.slot) o) (option_map (λ pair. faults.Overlap pair.0.slot pair.1.slot) (overlap table.rows))
    by_row None e = cc
    by_row (Some row) e = let same : slot ≡ row.slot = cc in rw same refl

  -- none is outside
  module _ (inside : None ≡ option_map (λ row. row.slot) (row_outside table)) where
    none_outside : row_outside table ≡ None
    none_outside = by_row (row_outside table) inside where
      by_row : (o : Option Row) → None ≡ option_map {U = ℕ} (λ row. row.slot) o → o ≡ None
      by_row None e = refl
      by_row (Some row) e = cc

    pub rows-overlap : (a b : ℕ) → Some (a, b) ≡ option_map {U = ℕ × ℕ} (λ pair. (pair.0.slot, pair.1.slot)) (overlap table.rows) → Some (faults.Overlap a b) ≡ rows_fault table
    unfolding rows_fault
    rows-overlap a b e = rw none_outside (by_pair (overlap table.rows) e) where
      by_pair : (o : Option (Row × Row)) → Some (a, b) ≡ option_map {U = ℕ × ℕ} (λ pair. (pair.0.slot, pair.1.slot)) o → Some (faults.Overlap a b) ≡ option_map (λ pair. faults.Overlap pair.0.slot pair.1.slot) o
      by_pair None e = cc
      by_pair (Some pair) e = let p : ◌≡◌ {A = ℕ × ℕ} (a, b) (pair.0.slot, pair.1.slot) = cc in rw (ap (λ (x : ℕ × ℕ). x.0) p, ap (λ (x : ℕ × ℕ). x.1) p) refl

    pub rows-none : None ≡ option_map {U = ℕ × ℕ} (λ pair. (pair.0.slot, pair.1.slot)) (overlap table.rows) → None ≡ rows_fault table
    unfolding rows_fault
    rows-none e = rw none_outside (by_pair (overlap table.rows) e) where
      by_pair : (o : Option (Row × Row)) → None ≡ option_map {U = ℕ × ℕ} (λ pair. (pair.0.slot, pair.1.slot)) o → None ≡ option_map (λ pair. faults.Overlap pair.0.slot pair.1.slot) o
      by_pair None e = refl
      by_pair (Some pair) e = cc

-- the pieces of an image, of a disk
module _ (image : List ℕ) (pieces : Pieces) (sized : AreSized pieces) (are : ArePieces image pieces) where
  is : IsSector pieces.sector
  is = sized.disk.size

  same_sectors : sectors_of pieces.sector image ≡ pieces.sectors
  same_sectors = sectors_are image pieces is are

  whole : length image ≡ pieces.sector * sectors_of pieces.sector image
  whole = rw same_sectors are.len

  units_are : length image / 512 ≡ pieces.sector / 512 * pieces.sectors
  units_are = ap (λ n. n / 512) are.len ∙ (disk_len pieces.sector pieces.sectors sized.disk).2

  -- a place of as many entries as the table has
  pub same-holds : (which : Which) (table : Table) (place : Place) (bytes : List ℕ) (same : Bool) → place ≡ place_in pieces which → bytes ≡ place.bytes → place.entries ≡ table.entries
      → (IsTrue same ↔ (bytes ≡ exact table which pieces.sectors)) → same ≡ holds_exact pieces.sector image table which
  unfolding holds_exact
  same-holds which table place bytes same here read count h =
      let its = place_is image pieces is are which in
      let bytes_are : bytes ≡ place_of pieces.sector image table.entries which = read ∙ (ap (λ (p : Place). p.bytes) here ∙ (its.bytes ∙ ap (λ n. place_of pieces.sector image n which) (ap (λ (p : Place). p.entries) (sym here) ∙ count))) in
      rw (same_sectors, ← bytes_are) (same_from_decides same (bytes_eq bytes (exact table which pieces.sectors)) h (bytes_eq-Decides bytes (exact table which pieces.sectors)))

  -- a place of another number of entries
  pub other-holds : (which : Which) (table : Table) (place : Place) → place ≡ place_in pieces which → place.entries ≢ table.entries → table.sector ≡ pieces.sector → IsWritable table → TableFits table
      → least_sectors table.sector table.entries ≤ pieces.sectors → nat_eq place.entries table.entries ≡ holds_exact pieces.sector image table which
  unfolding holds_exact
  other-holds which table place here other of_sector writable fits room =
      let its = place_is image pieces is are which in
      let same = bytes_eq-Decides (place_of pieces.sector image table.entries which) (exact table which (sectors_of pieces.sector image)) in
      ne_eqb place.entries table.entries other ∙ sym (never (bytes_eq (place_of pieces.sector image table.entries which) (exact table which (sectors_of pieces.sector image))) (λ holds.
      let count = exact-entries pieces.sector image is whole table which of_sector writable (reads_back table writable fits)
      (rw same_sectors room) (rw same_sectors (disk_len pieces.sector pieces.sectors sized.disk).3) (same.0 holds) in
      other (ap (λ (p : Place). p.entries) here ∙ (its.entries ∙ count)))) where
        never : (b : Bool) → (b ≡ true → ⊥) → b ≡ false
        never true h = absurd (h refl)
        never false h = refl

  -- what is seen, unless a broken copy is wider
  pub seen-wide : (origin : Origin) (table : Table) (p b : Bool) (wide : Option ℕ) (count : ℕ) → wide ≡ wider_copy pieces.sector image origin table → wide ≡ Some count
      → Err (faults.EntryCount count 128) ≡ seen_of pieces.sector image origin table p b
  unfolding seen_of
  seen-wide origin table p b wide count e some = rw (← e, some) refl

  pub seen-made : (origin : Origin) (table : Table) (p b : Bool) (wide : Option ℕ) → wide ≡ wider_copy pieces.sector image origin table → wide ≡ None
      → Ok record { sectors = pieces.sector / 512 * pieces.sectors; shown = table; origin = origin; primary_same = p; backup_same = b; mbr = mbr_state pieces.first pieces.sectors } ≡ seen_of pieces.sector image origin table p b
  unfolding seen_of
  seen-made origin table p b wide e none = rw (← e, none, same_sectors, units_are, are.first) refl

  -- an image that shows a table
  pub table-not_empty : (table : Table) → Err faults.NotEmpty ≡ accepted_table pieces.sector image Require table
  unfolding accepted_table
  table-not_empty table = refl

  pub table-fault : (empty : Empty) (table : Table) (fault : TableFault) → empty ≢ Require → Some fault ≡ table_fault (pieces.sector * pieces.sectors) table → Err fault ≡ accepted_table pieces.sector image empty table
  unfolding accepted_table
  table-fault Refuse table fault other e = rw (are.len, ← e) refl
  table-fault Allow table fault other e = rw (are.len, ← e) refl
  table-fault Require table fault other e = absurd (other refl)

  pub table-seen : (empty : Empty) (origin : Origin) (table : Table) (p b : Bool) (result : Result Seen TableFault) → empty ≢ Require → None ≡ table_fault (pieces.sector * pieces.sectors) table → origin ≡ origin_of pieces.sector image
      → p ≡ holds_exact pieces.sector image table Primary → b ≡ holds_exact pieces.sector image table Backup → result ≡ seen_of pieces.sector image origin table p b → result ≡ accepted_table pieces.sector image empty table
  unfolding accepted_table
  table-seen Refuse origin table p b result other e by p_is b_is r = rw (are.len, ← e, ← by, ← p_is, ← b_is) r
  table-seen Allow origin table p b result other e by p_is b_is r = rw (are.len, ← e, ← by, ← p_is, ← b_is) r
  table-seen Require origin table p b result other e by p_is b_is r = absurd (other refl)

  -- an image that shows none
  pub blank-foreign : (empty : Empty) (kind : ℕ) → Some kind ≡ foreign_type pieces.first → Err (faults.OtherTable kind) ≡ accepted_blank pieces.sector image empty
  unfolding accepted_blank
  blank-foreign empty kind e = rw (← are.first, ← e) refl

  pub blank-refused : None ≡ foreign_type pieces.first → Err faults.NoTable ≡ accepted_blank pieces.sector image Refuse
  unfolding accepted_blank
  blank-refused e = rw (← are.first, ← e) refl

  module _ (empty : Empty) (other : empty ≢ Refuse) (native : None ≡ foreign_type pieces.first) where
    pub blank-short : (blank pieces.sector pieces.sectors).last < 2048 → Err (faults.TooShort (pieces.sector * pieces.sectors)) ≡ accepted_blank pieces.sector image empty
    unfolding accepted_blank
    blank-short short =
        let test : nat_lt (blank pieces.sector pieces.sectors).last 2048 ≡ true = grind (arith, nat_tests) in by_empty empty other test where
          by_empty : (empty : Empty) → empty ≢ Refuse → nat_lt (blank pieces.sector pieces.sectors).last 2048 ≡ true → Err (faults.TooShort (pieces.sector * pieces.sectors)) ≡ accepted_blank pieces.sector image empty
          by_empty Refuse other test = absurd (other refl)
          by_empty Allow other test = rw (← are.first, ← native, same_sectors, test, are.len) refl
          by_empty Require other test = rw (← are.first, ← native, same_sectors, test, are.len) refl

    pub blank-made : (result : Result Seen TableFault) → 2048 ≤ (blank pieces.sector pieces.sectors).last → result ≡ seen_of pieces.sector image origins.Neither (blank pieces.sector pieces.sectors) false false
        → result ≡ accepted_blank pieces.sector image empty
    unfolding accepted_blank
    blank-made result long r =
        let test : nat_lt (blank pieces.sector pieces.sectors).last 2048 ≡ false = grind (arith, nat_tests) in by_empty empty other test where
          by_empty : (empty : Empty) → empty ≢ Refuse → nat_lt (blank pieces.sector pieces.sectors).last 2048 ≡ false → result ≡ accepted_blank pieces.sector image empty
          by_empty Refuse other test = absurd (other refl)
          by_empty Allow other test = rw (← are.first, ← native, same_sectors, test) r
          by_empty Require other test = rw (← are.first, ← native, same_sectors, test) r

  pub blank-result : (empty : Empty) (table : Table) (wide : Option ℕ) (result : Result Seen TableFault) → empty ≢ Refuse → None ≡ foreign_type pieces.first → table ≡ blank pieces.sector pieces.sectors → 2048 ≤ table.last
      → (wide ≡ wider_copy pieces.sector image origins.Neither table → result ≡ seen_of pieces.sector image origins.Neither table false false)
      → wide ≡ wider_copy pieces.sector image origins.Neither (blank pieces.sector pieces.sectors) → result ≡ accepted_blank pieces.sector image empty
  blank-result empty table wide result other native e long r w =
      blank-made empty other native result (subst (λ (t : Table). 2048 ≤ t.last) e long)
      (subst (λ (t : Table). wide ≡ wider_copy pieces.sector image origins.Neither t → result ≡ seen_of pieces.sector image origins.Neither t false false) e r w)

-- what is seen of a disk, where a table was made for it
seen_if : {P : Seen → Type 0} (result : Result Seen TableFault) (table : Table) (origin : Origin) (units : ℕ) → ((seen : Seen) → seen.shown ≡ table → seen.sectors ≡ units → P seen)
    → IfOk result (λ seen. (seen.shown ≡ table) × (seen.origin ≡ origin)) → IfOk result (λ seen. seen.sectors ≡ units) → IfOk result P
seen_if (Ok seen) table origin units f a b = f seen a.0 b
seen_if (Err fault) table origin units f a b = tt

pub origin_if : (result : Result Seen TableFault) (table : Table) (origin : Origin) → IfOk result (λ seen. (seen.shown ≡ table) × (seen.origin ≡ origin)) → IfOk result (λ seen. seen.origin ≡ origin)
origin_if (Ok seen) table origin a = a.1
origin_if (Err fault) table origin a = tt

module _ (pieces : Pieces) (sized : AreSized pieces) where
  lens : ((pieces.sector * pieces.sectors) % pieces.sector ≡ 0) × ((pieces.sector * pieces.sectors) / pieces.sector ≡ pieces.sectors) × ((pieces.sector * pieces.sectors) / 512 ≡ pieces.sector / 512 * pieces.sectors) × (pieces.sectors ≤ 2 ^ 35)
  lens = disk_len pieces.sector pieces.sectors sized.disk

  module _ (table : Table) (read : IsRead pieces.sector pieces.sectors table) (none : None ≡ table_fault (table.sector * pieces.sectors) table) where
    pub none-here : None ≡ table_fault (pieces.sector * pieces.sectors) table
    none-here = subst (λ z. None ≡ table_fault (z * pieces.sectors) table) read.of_sector none

    read_here : IsRead pieces.sector ((pieces.sector * pieces.sectors) / pieces.sector) table
    read_here = rw (lens.1) read

    pub read-writable : IsWritable table
    read-writable = no_fault-writable pieces.sector (pieces.sector * pieces.sectors) table sized.disk.size lens.0 sized.disk.most read_here (sym none-here)

    pub read-seen : (origin : Origin) (result : Result Seen TableFault) → IfOk result (λ seen. (seen.shown ≡ table) × (seen.origin ≡ origin))
        → IfOk result (λ seen. seen.sectors ≡ pieces.sector / 512 * pieces.sectors) → IfOk result (λ seen. IsSeen pieces.sector seen)
    read-seen origin result shown_is units =
        seen_if {P = λ seen. IsSeen pieces.sector seen} result table origin (pieces.sector / 512 * pieces.sectors)
        (λ seen is units. no_fault-seen pieces.sector (pieces.sector * pieces.sectors) table sized.disk.size lens.0 sized.disk.most read_here (sym none-here) seen is (units ∙ sym lens.2)) shown_is units

  pub read-blank : (table : Table) (origin : Origin) (result : Result Seen TableFault) → table ≡ blank pieces.sector pieces.sectors → 2048 ≤ table.last → IfOk result (λ seen. (seen.shown ≡ table) × (seen.origin ≡ origin))
      → IfOk result (λ seen. seen.sectors ≡ pieces.sector / 512 * pieces.sectors) → IfOk result (λ seen. IsSeen pieces.sector seen)
  read-blank table origin result e long shown_is units =
      seen_if {P = λ seen. IsSeen pieces.sector seen} result table origin (pieces.sector / 512 * pieces.sectors)
      (λ seen is units. blank-seen pieces.sector (pieces.sector * pieces.sectors) seen sized.disk.size lens.0 sized.disk.most (rw (lens.1) sized.disk.least)
      (rw (lens.1) (subst (λ (t : Table). 2048 ≤ t.last) e long)) (rw (lens.1) (is ∙ e)) (units ∙ sym lens.2)) shown_is units

-- by what both places tell
abbrev pub judgement : ℕ → List ℕ → Empty → Result Seen TableFault
judgement sector image empty = accepted_as sector image empty (shown sector image)

module _ (sector : ℕ) (image : List ℕ) (empty : Empty) where
  pub by-primary : (said : Option Table) (table : Table) (result : Result Seen TableFault) → TellsTable (told_at sector image Primary) said → said ≡ Some table
      → (origins.Primary ≡ origin_of sector image → None ≡ wider_copy sector image origins.Primary table → result ≡ accepted_table sector image empty table) → Gives faults.Memory (judgement sector image empty) result
  unfolding accepted_as shown origin_of wider_copy
  by-primary said table result tells e r =
      let p : told_at sector image Primary ≡ shows table = rw e at tells in
      inl (r (rw p refl) refl ∙ rw p refl)

  module _ (none : told_at sector image Primary ≡ nothing) where
    pub by-backup : (said : Option Table) (table : Table) (wide : Option ℕ) (result : Result Seen TableFault) → TellsTable (told_at sector image Backup) said → said ≡ Some table
        → wide ≡ option_or (above table.entries (broken_at sector image Primary)) (above table.entries (broken_at sector image Backup))
        → (origins.Backup ≡ origin_of sector image → wide ≡ wider_copy sector image origins.Backup table → result ≡ accepted_table sector image empty table) → Gives faults.Memory (judgement sector image empty) result
    unfolding accepted_as shown origin_of wider_copy
    by-backup said table wide result tells e wide_is r =
        let b : told_at sector image Backup ≡ shows table = rw e at tells in
        inl (r (rw (none, b) refl) wide_is ∙ rw (none, b) refl)

    pub by-neither : (wide : Option ℕ) (sectors : ℕ) (result : Result Seen TableFault) → told_at sector image Backup ≡ nothing
        → wide ≡ option_or (above 128 (broken_at sector image Primary)) (above 128 (broken_at sector image Backup))
        → (wide ≡ wider_copy sector image origins.Neither (blank sector sectors) → result ≡ accepted_blank sector image empty) → Gives faults.Memory (judgement sector image empty) result
    unfolding accepted_as shown wider_copy blank
    by-neither wide sectors result b wide_is r = inl (r wide_is ∙ rw (none, b) refl)

    pub by-refused_backup : (fault : TableFault) → (told_at sector image Backup ≡ refuses fault) ⊎ (fault ≡ faults.Memory) → Gives faults.Memory (judgement sector image empty) (Err fault)
    unfolding accepted_as shown
    by-refused_backup fault (inl b) = inl (rw (none, b) refl)
    by-refused_backup fault (inr e) = inr (ap Err e)

  pub by-refused : (fault : TableFault) → (told_at sector image Primary ≡ refuses fault) ⊎ (fault ≡ faults.Memory) → Gives faults.Memory (judgement sector image empty) (Err fault)
  unfolding accepted_as shown
  by-refused fault (inl p) = inl (rw p refl)
  by-refused fault (inr e) = inr (ap Err e)

-- a place that tells no table tells nothing
pub none_told : (said : Told) (table : Option Table) → TellsTable said table → table ≡ None → said ≡ nothing
none_told said table tells e = rw e at tells

-- the broken copies, as they were read
pub wide_here : (entries : ℕ) (p b primary backup wide : Option ℕ) → p ≡ primary → b ≡ backup → wide ≡ option_or (above entries p) (above entries b) → wide ≡ option_or (above entries primary) (above entries backup)
wide_here entries p b primary backup wide p_is b_is e = e ∙ (ap (λ o. option_or (above entries o) (above entries b)) p_is ∙ ap (λ o. option_or (above entries primary) (above entries o)) b_is)
