-- A table without a fault is in place, and can be written.
use Rattle.std.proofs.Common.{◌≡◌, ℕ, ◌+◌, ◌*◌, ◌-◌, ◌/◌, ◌%◌, ◌^◌, ◌<◌, ◌≤◌, Bool, true, false, cond, List, [], ◌∷◌, Option, Some, None, All, AllPairs, refl, inl, inr, arith}
use Rattle.std.specs.Prelude.{not, ◌||◌, ◌&&◌, nat_lt, nat_le, find, option_map}
use Rattle.std.specs.Option.{option_or}
use Rattle.std.proofs.lemmas.Bool.{ltb-false}
use Rattle.std.proofs.lemmas.Bool.Decides.{nat_tests}
use Rattle.std.proofs.lemmas.List.Elements.{All-nil, All-cons}
use Rattle.std.proofs.lemmas.List.Kept.{AllPairs-cons}
use Rattle.rp_base.specs.Geometry.{IsSector, first_usable, least_sectors, sector_units, usable_end}
use Rattle.rp_base.specs.Table.{AreWholeBounds, AreApart, IsInPlace, IsLaidOut, IsWhole, IsWritable, AreWritableRows, TableFits}
use Rattle.rp_base.specs.declared.table.Row.{Row}
use Rattle.rp_base.specs.declared.table.Table.{Table}
use Rattle.rp_gpt.specs.declared.table_fault.TableFault.{TableFault}
use Rattle.rp_gpt.specs.declared.table_fault.TableFault.TheVariants as faults
use Rattle.rp_gpt.specs.Shown.{row_outside, share_unit, overlap, rows_fault, table_fault, blank}
use Rattle.rp_base.specs.declared.seen.Seen.{Seen}
use Rattle.rp_gpt.specs.Accepted.{IsRead, IsSeen}

pub apart_unshared : (a b : Row) → share_unit a b ≡ false → AreApart a b
apart_unshared a b fails = by_first (nat_lt a.start (b.start + b.size)) refl fails where
  by_first : (first : Bool) → nat_lt a.start (b.start + b.size) ≡ first → (first && nat_lt b.start (a.start + a.size)) ≡ false → AreApart a b
  by_first true is rest = inl (ltb-false b.start (a.start + a.size) rest)
  by_first false is rest = inr (ltb-false a.start (b.start + b.size) is)

-- where nothing is found, each element fails the test
all_fail : {X : Type 0} (test : X → Bool) (P : X → Type 0) → ((x : X) → test x ≡ false → P x) → (xs : List X) → find test xs ≡ None → All P xs
all_fail test P gives [] none = All-nil P
all_fail test P gives (x ∷ xs) none = by_test (test x) refl none (all_fail test P gives xs) where
  by_test : (passes : Bool) → test x ≡ passes → cond passes (Some x) (find test xs) ≡ None → (find test xs ≡ None → All P xs) → All P (x ∷ xs)
  by_test true is rest later = cc
  by_test false is rest later = All-cons P x xs (gives x is) (later rest)

pub all_apart : (rows : List Row) → overlap rows ≡ None → AllPairs AreApart rows
unfolding overlap
all_apart [] none = λ i j d before inside. absurd (omega arith)
all_apart (row ∷ rows) none = by_first (find (share_unit row) rows) refl none (all_apart rows) where
  by_first : (o : Option Row) → find (share_unit row) rows ≡ o → option_or (option_map (λ later. (row, later)) o) (overlap rows) ≡ None → (overlap rows ≡ None → AllPairs AreApart rows)
      → AllPairs AreApart (row ∷ rows)
  by_first None is rest others = AllPairs-cons AreApart row rows (all_fail (share_unit row) (AreApart row) (apart_unshared row) rows is) (others rest)
  by_first (Some later) is rest others = cc

-- a row lies between two units
abbrev IsIn : ℕ → ℕ → Row → Type 0
IsIn first last row = (first ≤ row.start) × (row.start + row.size ≤ last + 1)

all_inside : (table : Table) → row_outside table ≡ None → All (IsIn table.first table.last) table.rows
unfolding row_outside
all_inside table none =
    all_fail (λ row. not (nat_le table.first row.start && nat_le (row.start + row.size) (table.last + 1))) (IsIn table.first table.last)
    (λ row passes. (grind (arith, nat_tests), grind (arith, nat_tests))) table.rows none

-- neither of two options is there
no_or : {T : Type 0} (a b : Option T) → option_or a b ≡ None → (a ≡ None) × (b ≡ None)
no_or None b h = (refl, h)
no_or (Some x) b h = cc

no_map : {T U : Type 0} (f : T → U) (o : Option T) → option_map f o ≡ None → o ≡ None
no_map f None h = refl
no_map f (Some x) h = cc

cond_none : (b : Bool) (fault : TableFault) (rest : Option TableFault) → cond b (Some fault) rest ≡ None → (b ≡ false) × (rest ≡ None)
cond_none true fault rest e = cc
cond_none false fault rest e = (refl, e)

laid_out : (table : Table) → AreWritableRows table → rows_fault table ≡ None → IsLaidOut table
unfolding rows_fault
laid_out table writable none =
    let both = no_or (option_map (λ row. faults.RowRange row.slot) (row_outside table)) _ none in
    record {
      sized = λ k d inside. (writable.rows k d inside).size;
      in_bounds = all_inside table (no_map (λ row. faults.RowRange row.slot) (row_outside table) both.0);
      apart = all_apart table.rows (no_map _ (overlap table.rows) both.1);
    }

-- a number of bytes has as many units in its sectors
pub units_in_sectors : (sector len : ℕ) → IsSector sector → len % sector ≡ 0 → (len / 512) / (sector / 512) ≡ len / sector
units_in_sectors sector len (inl e) whole = rw e (omega arith)
units_in_sectors sector len (inr e) whole = let at_4096 : len % 4096 ≡ 0 = rw e at whole in rw e (omega arith)

pub no_fault-in_place : (len : ℕ) (table : Table) → IsSector table.sector → len % table.sector ≡ 0 → AreWritableRows table → table_fault len table ≡ None → IsInPlace (len / 512) table
unfolding table_fault
no_fault-in_place len table sector whole writable none =
    let bounds = cond_none (nat_lt table.first (first_usable table.sector table.entries) || nat_lt table.last table.first) _ _ none in
    let last = cond_none (nat_le (usable_end table.sector table.entries (len / table.sector)) table.last) _ _ bounds.1 in
    let bounds_are : (nat_lt table.first (first_usable table.sector table.entries) || nat_lt table.last table.first) ≡ false = bounds.0 in
    let last_is : nat_le (usable_end table.sector table.entries (len / table.sector)) table.last ≡ false = last.0 in
    let units = units_in_sectors table.sector len sector whole in
    record {
      bounded = record {
        first = grind (arith, nat_tests, bounds_are);
        last = rw units (grind (arith, nat_tests, last_is));
      };
      bounds = grind (arith, nat_tests, bounds_are);
      rows = laid_out table writable last.1;
    }

-- the blank table is in place where it has usable units
pub blank-in_place : (sector units : ℕ) → IsSector sector → 2048 ≤ (blank sector (units / (sector / 512))).last → IsInPlace units (blank sector (units / (sector / 512)))
unfolding blank
blank-in_place sector units is least = record {
  bounded = record { first = first_fits is; last = omega arith };
  bounds = least;
  rows = record { sized = All-nil _; in_bounds = All-nil _; apart = λ i j d before inside. absurd (omega arith) };
} where
  first_fits : IsSector sector → first_usable sector 128 ≤ 2048
  first_fits (inl e) = rw e (omega arith)
  first_fits (inr e) = rw e (omega arith)

-- the blank table can be written, and its numbers are within their fields
pub blank-writable : (sector sectors : ℕ) → IsSector sector → 1 ≤ usable_end sector 128 sectors → IsWritable (blank sector sectors)
unfolding blank
blank-writable sector sectors is least = record {
  sector = is;
  entries = record { least = omega arith; most = omega arith };
  bounds = whole is least;
  rows = record { rows = All-nil _; rising = λ i j d before inside. absurd (omega arith) };
} where
  whole : IsSector sector → 1 ≤ usable_end sector 128 sectors → AreWholeBounds (blank sector sectors)
  whole (inl e) least = let least_is : 1 ≤ usable_end 512 128 sectors = rw e at least in rw e record { first = omega arith; last = omega arith }
  whole (inr e) least = let least_is : 1 ≤ usable_end 4096 128 sectors = rw e at least in rw e record { first = omega arith; last = omega arith }

pub blank-fits : (sector sectors : ℕ) → IsSector sector → sector * sectors ≤ 2 ^ 44 → TableFits (blank sector sectors)
unfolding blank
blank-fits sector sectors is most = record { disk = refl; first = omega arith; last = below is; rows = All-nil _ } where
  below : IsSector sector → usable_end sector 128 sectors - 1 < 2 ^ 64
  below (inl e) = let most_is : 512 * sectors ≤ 2 ^ 44 = rw e at most in rw e (omega arith)
  below (inr e) = let most_is : 4096 * sectors ≤ 2 ^ 44 = rw e at most in rw e (omega arith)

-- a table in place begins below the end of a disk of at most 2^44 bytes
pub in_place-first : (units : ℕ) (table : Table) → IsSector table.sector → units ≤ 2 ^ 35 → IsInPlace units table → table.first < 2 ^ 64 - 1
in_place-first units table is most placed = by_sector is where
  end : (sector : ℕ) → IsSector sector → usable_end sector table.entries (units / (sector / 512)) ≤ units
  end sector (inl e) = rw e (omega arith)
  end sector (inr e) = rw e (omega arith)

  by_sector : IsSector table.sector → table.first < 2 ^ 64 - 1
  by_sector is = let last = placed.bounded.last in let first = placed.bounds in omega (arith, first, last, end table.sector is)

-- a disk on which a table is in place has room for both copies
pub in_place-room : (units : ℕ) (table : Table) → IsSector table.sector → IsInPlace units table
    → least_sectors table.sector table.entries ≤ units / sector_units table.sector
in_place-room units table is placed = room table.sector is placed.bounded.first placed.bounded.last where
  room : (sector : ℕ) → IsSector sector → first_usable sector table.entries ≤ table.first
      → table.last < usable_end sector table.entries (units / sector_units sector)
      → least_sectors sector table.entries ≤ units / sector_units sector
  room sector (inl e) = rw e (λ first last. let some = placed.bounds in omega (arith, first, last, some))
  room sector (inr e) = rw e (λ first last. let some = placed.bounds in omega (arith, first, last, some))

-- whole sectors in units of 512 bytes
pub whole_units : (sector len : ℕ) → IsSector sector → len % sector ≡ 0 → (IsWhole sector (len / 512)) × (len ≡ 512 * (len / 512)) × (len ≡ sector * (len / sector))
whole_units sector len (inl e) whole = let whole_is : len % 512 ≡ 0 = rw e at whole in rw e (omega arith, omega arith, omega arith)
whole_units sector len (inr e) whole = let whole_is : len % 4096 ≡ 0 = rw e at whole in rw e (omega arith, omega arith, omega arith)

-- a table that is read and has no fault, on a disk of so many bytes
module _ (sector len : ℕ) (table : Table) (is : IsSector sector) (whole : len % sector ≡ 0) (most : len ≤ 2 ^ 44) (read : IsRead sector (len / sector) table) (none : table_fault len table ≡ None) where
  its : IsSector table.sector
  its = rw (read.of_sector) is

  placed : IsInPlace (len / 512) table
  placed = no_fault-in_place len table its (rw (read.of_sector) whole) read.rows none

  units_most : len / 512 ≤ 2 ^ 35
  units_most = omega arith

  pub no_fault-writable : IsWritable table
  no_fault-writable = read.writable (in_place-first (len / 512) table its units_most placed)

  pub no_fault-seen : (seen : Seen) → seen.shown ≡ table → seen.sectors ≡ len / 512 → IsSeen sector seen
  no_fault-seen seen shown_is units = rw (shown_is, units) record {
    of_sector = read.of_sector;
    whole = (whole_units sector len is whole).0;
    room = rw (units_in_sectors sector len is whole) read.room;
    most = units_most;
    writable = no_fault-writable;
    fits = read.fits;
    in_place = placed;
  }

pub blank-seen : (sector len : ℕ) (seen : Seen) → IsSector sector → len % sector ≡ 0 → len ≤ 2 ^ 44 → least_sectors sector 128 ≤ len / sector → 2048 ≤ (blank sector (len / sector)).last
    → seen.shown ≡ blank sector (len / sector) → seen.sectors ≡ len / 512 → IsSeen sector seen
unfolding blank
blank-seen sector len seen is whole most least last shown_is units =
    let same = units_in_sectors sector len is whole in
    let sectors = (whole_units sector len is whole).2 in
    rw (shown_is, units) record {
      of_sector = refl;
      whole = (whole_units sector len is whole).0;
      room = rw same least;
      most = omega arith;
      writable = blank-writable sector (len / sector) is (omega arith);
      fits = blank-fits sector (len / sector) is (omega arith);
      in_place = rw same at (blank-in_place sector (len / 512) is (rw same last));
    }
