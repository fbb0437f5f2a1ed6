-- A table that is read can be written.
use Rattle.std.proofs.Common.{◌≡◌, ℕ, suc, zero, ◌+◌, ◌-◌, ◌^◌, ◌<◌, ◌≤◌, Bool, true, false, eqb, List, [], ◌∷◌, ◌++◌, length, None, Ok, refl, sym, ap, ◌∙◌, arith}
use Rattle.std.specs.Prelude.{not, All, AllPairs}
use Rattle.std.proofs.Math.Numerals.{add-one}
use Rattle.std.proofs.lemmas.Bool.{false≢true}
use Rattle.std.proofs.lemmas.List.Elements.{All-nil, All-push}
use Rattle.std.proofs.lemmas.List.Quantifiers.{all_pairs_push}
use Rattle.std.specs.List.{list_all}
use Rattle.rp_base.specs.Geometry.{IsSector, AreEntries}
use Rattle.rp_base.specs.Table.{IsWritableRow, AreWritableRows, IsWritable}
use Rattle.rp_base.specs.declared.geometry.Which.{Which}
use Rattle.rp_base.specs.declared.table.Row.{Row}
use Rattle.rp_base.specs.declared.table.Table.{Table}
use Rattle.rp_gpt.specs.Copy.{IsPlace, header_of, array_of, entry_bytes, chosen_entries, entry_of, is_used, is_ordered, used_slots, rows_of, row_of, unordered_slot, table_of, answer}
use Rattle.rp_gpt.proofs.Parts.{all_from_zeros}
use Rattle.rp_gpt.proofs.Sectors.{units_whole, first_whole, last_whole}
use Rattle.rp_gpt.proofs.Slots.{ordered_bounds, ordered_at, rows_of-used, rows_of-unused}
use Rattle.rp_gpt.proofs.Chosen.{chosen-place}
use Rattle.rp_gpt.proofs.Passes.{IsReadAs, answer-ok}

-- a used entry in order stands for a row that can be written
row_of-writable : (sector entries : ℕ) (entry : List ℕ) (slot : ℕ) → IsSector sector → slot < entries → is_used entry ≡ true → is_ordered sector entry ≡ true → IsWritableRow sector entries (row_of sector entry slot)
unfolding is_used row_of
row_of-writable sector entries entry slot is below used ordered =
    let bounds = ordered_bounds sector entry ordered in
    let whole = units_whole sector _ _ is bounds.0 bounds.1 in
    record {
      slot = below;
      used = λ zeros. false≢true (ap not (sym (ap (list_all (λ byte. eqb byte 0)) zeros ∙ all_from_zeros 16)) ∙ used);
      size = whole.some;
      fits = whole.fits;
      start_whole = whole.start_whole;
      size_whole = whole.size_whole;
    }

-- rows of slots below n
record AreRows (sector entries n : ℕ) (rows : List Row) : Type 0 where
  writable : All (IsWritableRow sector entries) rows
  below : All (λ row. row.slot < n) rows
  rising : AllPairs (λ a b. a.slot < b.slot) rows

AreRows-push : (sector entries n : ℕ) (rows : List Row) (row : Row) → AreRows sector entries n rows → row.slot ≡ n → IsWritableRow sector entries row → AreRows sector entries (n + 1) (rows ++ row ∷ [])
AreRows-push sector entries n rows row before at writable = record {
  writable = All-push (IsWritableRow sector entries) rows row before.writable writable;
  below = All-push (λ r. r.slot < n + 1) rows row (λ k d h. omega (arith, before.below k d h)) (omega arith);
  rising = all_pairs_push (λ a b. a.slot < b.slot) rows row before.rising (λ k d h. omega (arith, before.below k d h));
}

module _ (sector entries : ℕ) (is : IsSector sector) (array : List ℕ) (none : unordered_slot sector array entries ≡ None) where
  rows_of-more : (n : ℕ) → n < entries → AreRows sector entries n (rows_of sector array n) → (used : Bool) → is_used (entry_of array n) ≡ used → AreRows sector entries (n + 1) (rows_of sector array (n + 1))
  unfolding row_of
  rows_of-more n below before true used =
      rw (rows_of-used sector array n used)
      (AreRows-push sector entries n (rows_of sector array n) (row_of sector (entry_of array n) n) before refl
      (row_of-writable sector entries (entry_of array n) n is below used (ordered_at sector array n entries below none used)))
  rows_of-more n below before false unused =
      rw (rows_of-unused sector array n unused)
      record { writable = before.writable; below = λ k d h. omega (arith, before.below k d h); rising = before.rising }

  rows_of-none : AreRows sector entries 0 (rows_of sector array 0)
  unfolding rows_of used_slots
  rows_of-none = record {
    writable = All-nil (IsWritableRow sector entries);
    below = All-nil (λ row. row.slot < 0);
    rising = λ i j d i_j j_0. absurd (omega arith);
  }

  rows_of-are : (n : ℕ) → n ≤ entries → AreRows sector entries n (rows_of sector array n)
  rows_of-are zero h = rows_of-none
  rows_of-are (suc n) h = rw (← add-one n) (rows_of-more n (omega arith) (rows_of-are n (omega arith)) _ refl)

  pub table_of-rows : (header : List ℕ) → AreWritableRows (table_of sector entries header array)
  unfolding table_of
  table_of-rows header = let rows = rows_of-are entries (omega arith) in record { rows = rows.writable; rising = rows.rising }

  pub table_of-writable : AreEntries entries → (header : List ℕ) → (table_of sector entries header array).first < 2 ^ 64 - 1 → IsWritable (table_of sector entries header array)
  unfolding table_of
  table_of-writable allowed header first = record {
    sector = is;
    entries = allowed;
    bounds = record { first = first_whole sector _ is first; last = last_whole sector _ is };
    rows = table_of-rows header;
  }

-- a table that is the answer
read_as : (bytes : List ℕ) (which : Which) (sector : ℕ) → IsReadAs bytes which sector (chosen_entries sector (length bytes) (header_of sector bytes which)) (header_of sector bytes which) (entry_bytes (chosen_entries sector (length bytes) (header_of sector bytes which)) (array_of sector bytes which))
read_as bytes which sector = record { header_is = refl; entries_are = refl; array_is = refl }

pub answer-rows : (bytes : List ℕ) (which : Which) (sectors sector : ℕ) (table : Table) → IsSector sector → answer bytes which sectors sector ≡ Ok table → AreWritableRows table
answer-rows bytes which sectors sector table is h =
    let found = answer-ok bytes which sectors sector _ _ _ table (read_as bytes which sector) h in
    rw (← found.1) (table_of-rows sector _ is _ found.0 (header_of sector bytes which))

pub answer-writable : (bytes : List ℕ) (which : Which) (sectors sector : ℕ) (table : Table) → IsSector sector → IsPlace sector sectors (length bytes) → answer bytes which sectors sector ≡ Ok table → table.first < 2 ^ 64 - 1 → IsWritable table
answer-writable bytes which sectors sector table is place h first =
    let found = answer-ok bytes which sectors sector _ _ _ table (read_as bytes which sector) h in
    let chosen = chosen-place sector sectors (length bytes) (header_of sector bytes which) is place in
    rw (← found.1) (table_of-writable sector _ is _ found.0 chosen.allowed (header_of sector bytes which) (rw (found.1) first))
