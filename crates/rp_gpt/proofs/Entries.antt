-- The entries of an array, one behind another.
use Rattle.std.proofs.Common.{◌≡◌, ℕ, zero, suc, ◌+◌, ◌-◌, ◌*◌, ◌<◌, ◌≤◌, Bool, true, false, cond, eqb, ltb, List, [], ◌∷◌, ◌++◌, length, take, drop, replicate, take-add, length-take-le, Option, Some, None, refl, sym, ap, subst, ◌∙◌, arith, add-one, eqb-true, eq-eqb, ne_eqb, find, filter, All, IfSome, inl, inr, ◌⊎◌}
use Rattle.std.proofs.lemmas.Bool.{cases_lt}
use Rattle.std.specs.Option.{option_map_or}
use Rattle.std.specs.List.{AllByRecursion, flat_map, range_with_len}
use Rattle.std.proofs.Math.Nat.{zero-add}
use Rattle.std.proofs.lemmas.Grind.{flat_map-append}
use Rattle.std.proofs.lemmas.List.{flat_map_more, append-nil, length-append, drop_at}
use Rattle.std.proofs.lemmas.List.Elements.{recursion_from_All, All-nil, All-cons, All-tail}
use Rattle.rp_base.specs.declared.table.Row.{Row}
use Rattle.rp_base.specs.Geometry.{IsSector}
use Rattle.rp_base.specs.Table.{IsWritableRow, RowFits}
use Rattle.rp_gpt.specs.Copy.{row_bytes, slot_bytes, array_bytes, entry_of, is_used, is_ordered, rows_of, row_of, unordered_slot}
use Rattle.rp_gpt.proofs.Fields.{range_here}
use Rattle.rp_gpt.proofs.Rising.{Rising, filter_above, find_above, filter_more, found_passes}
use Rattle.rp_gpt.proofs.RowEntry.{row_sectors, length-row_bytes, row_bytes-holds, holds-used, holds-ordered, holds-row, zeros-unused}
use Rattle.rp_gpt.proofs.Slots.{range_split, slots_split, rows_of-used, rows_of-unused, unordered-used, unordered-unused, rows_of-zero, unordered-zero}

-- what is found in a list has what each of its elements has
found_here : {X : Type 0} (P : X → Type 0) (b : Bool) (x y : X) (rest : Option X) → P y → (Some x ≡ rest → P x) → Some x ≡ cond b (Some y) rest → P x
found_here P true x y rest here later e = let same : y ≡ x = cc in subst P same here
found_here P false x y rest here later e = later e

found_in_recursion : {X : Type 0} (P : X → Type 0) (test : X → Bool) (xs : List X) (x : X) → AllByRecursion P xs → Some x ≡ find test xs → P x
found_in_recursion P test [] x h e = cc
found_in_recursion P test (y ∷ ys) x h e = found_here P (test y) x y (find test ys) h.0 (found_in_recursion P test ys x h.1) e

pub found_in : {X : Type 0} (P : X → Type 0) (test : X → Bool) (xs : List X) (x : X) → All P xs → Some x ≡ find test xs → P x
found_in P test xs x h e = found_in_recursion P test xs x (recursion_from_All P xs h) e

-- what the row of each slot has, each row has
rest_fits : (row : Row) (rows : List Row) (slot : ℕ) → Rising (row.slot + 1) rows → IfSome (find (λ r. eqb r.slot slot) (row ∷ rows)) RowFits → (row.slot < slot) ⊎ (slot ≤ row.slot) → IfSome (find (λ r. eqb r.slot slot) rows) RowFits
rest_fits row rows slot rising h (inl above) = rw (ne_eqb row.slot slot (λ e. omega (arith, e))) at h
rest_fits row rows slot rising h (inr below) = rw (find_above (row.slot + 1) slot rows (omega arith) rising) tt

pub rows_fit : (low m : ℕ) (rows : List Row) → Rising low rows → All (λ row. row.slot < m) rows → ((slot : ℕ) → slot < m → IfSome (find (λ r. eqb r.slot slot) rows) RowFits) → All RowFits rows
rows_fit low m [] rising below h = All-nil RowFits
rows_fit low m (row ∷ rows) rising below h =
    let first : RowFits row = rw (eq-eqb row.slot row.slot refl) at (h row.slot (below 0 row (omega arith))) in
    All-cons RowFits row rows first
    (rows_fit (row.slot + 1) m rows rising.1 (All-tail (λ r. r.slot < m) row rows below)
    (λ slot inside. rest_fits row rows slot rising.1 (h slot inside) (cases_lt row.slot slot)))

pub array_bytes-none : (sector : ℕ) (rows : List Row) → array_bytes sector rows 0 ≡ []
unfolding array_bytes
array_bytes-none sector rows = refl

-- one entry more
pub array_bytes-more : (sector : ℕ) (rows : List Row) (n : ℕ) → array_bytes sector rows n ++ slot_bytes sector rows n ≡ array_bytes sector rows (n + 1)
unfolding array_bytes
array_bytes-more sector rows n =
    flat_map_more (slot_bytes sector rows) [] (range_with_len 0 n) n
    ∙ ap (λ k. flat_map (slot_bytes sector rows) (range_with_len 0 n ++ k ∷ [])) (sym (zero-add n))
    ∙ ap (flat_map (slot_bytes sector rows)) (sym (range_split 0 n 1))

-- the array from a slot on
array_bytes-from : (sector : ℕ) (rows : List Row) (n m : ℕ) → n < m → (rest : List ℕ) × (array_bytes sector rows m ≡ array_bytes sector rows n ++ (slot_bytes sector rows n ++ rest))
unfolding array_bytes
array_bytes-from sector rows n m below = (
  flat_map (slot_bytes sector rows) (range_with_len (n + 1) (m - n - 1)),
  ap (flat_map (slot_bytes sector rows)) (slots_split n m below) ∙ flat_map-append (slot_bytes sector rows) (range_with_len 0 n) (n ∷ range_with_len (n + 1) (m - n - 1)),
)

-- the entries have one length
module _ (sector : ℕ) (rows : List Row) (fits : All RowFits rows) where
  length-entry : (slot : ℕ) (found : Option Row) → find (λ r. eqb r.slot slot) rows ≡ found → length (option_map_or (row_bytes sector) found (replicate 128 0)) ≡ 128
  length-entry slot None e = refl
  length-entry slot (Some row) e = length-row_bytes sector row (found_in RowFits (λ r. eqb r.slot slot) rows row fits (sym e))

  pub length-slot_bytes : (slot : ℕ) → length (slot_bytes sector rows slot) ≡ 128
  unfolding slot_bytes
  length-slot_bytes slot = length-entry slot _ refl

  pub length-array_bytes : (n : ℕ) → length (array_bytes sector rows n) ≡ 128 * n
  length-array_bytes zero = ap length (array_bytes-none sector rows)
  length-array_bytes (suc n) =
      ap (λ k. length (array_bytes sector rows k)) (sym (add-one n)) ∙ ap length (sym (array_bytes-more sector rows n))
      ∙ length-append (array_bytes sector rows n) (slot_bytes sector rows n) ∙ omega (arith, length-array_bytes n, length-slot_bytes n)

  -- each slot has its entry
  pub entry_of-array_bytes : (n m : ℕ) → n < m → entry_of (array_bytes sector rows m) n ≡ slot_bytes sector rows n
  unfolding entry_of
  entry_of-array_bytes n m below =
      let from = array_bytes-from sector rows n m below in
      range_here (array_bytes sector rows m) (128 * n) 128 (slot_bytes sector rows n) from.0
      (ap (drop (128 * n)) from.1 ∙ drop_at (array_bytes sector rows n) (slot_bytes sector rows n ++ from.0) (128 * n) (length-array_bytes n)) (length-slot_bytes n)

-- the entry of a slot with a row, and of one without
pub slot_bytes-some : (sector : ℕ) (rows : List Row) (slot : ℕ) (row : Row) → find (λ r. eqb r.slot slot) rows ≡ Some row → slot_bytes sector rows slot ≡ row_bytes sector row
unfolding slot_bytes
slot_bytes-some sector rows slot row e = rw e refl

pub slot_bytes-none : (sector : ℕ) (rows : List Row) (slot : ℕ) → find (λ r. eqb r.slot slot) rows ≡ None → slot_bytes sector rows slot ≡ replicate 128 0
unfolding slot_bytes
slot_bytes-none sector rows slot e = rw e refl

-- rows that can be written are those that are read
pub record Reads (sector : ℕ) (rows : List Row) (m n : ℕ) : Type 0 where
  pub below : rows_of sector (array_bytes sector rows m) n ≡ filter (λ r. ltb r.slot n) rows
  pub ordered : unordered_slot sector (array_bytes sector rows m) n ≡ None

module _ (sector entries : ℕ) (is : IsSector sector) (rows : List Row) (writable : All (IsWritableRow sector entries) rows) (fits : All RowFits rows) (rising : Rising 0 rows) (m : ℕ) where
  reads-more : (n : ℕ) → n < m → Reads sector rows m n → (found : Option Row) → find (λ r. eqb r.slot n) rows ≡ found → Reads sector rows m (n + 1)
  reads-more n inside before None e =
      let array = array_bytes sector rows m in
      let unused : is_used (entry_of array n) ≡ false = rw (entry_of-array_bytes sector rows fits n m inside, slot_bytes-none sector rows n e) zeros-unused in
      record {
        below = rows_of-unused sector array n unused ∙ before.below ∙ sym (filter_more 0 n rows rising ∙ rw (e, append-nil) refl);
        ordered = unordered-unused sector array n unused before.ordered;
      }
  reads-more n inside before (Some row) e =
      let array = array_bytes sector rows m in
      let slot_is = eqb-true row.slot n (found_passes (λ r. eqb r.slot n) rows row e) in
      let row_writable = found_in (IsWritableRow sector entries) (λ r. eqb r.slot n) rows row writable (sym e) in
      let row_fits = found_in RowFits (λ r. eqb r.slot n) rows row fits (sym e) in
      let entry_is = entry_of-array_bytes sector rows fits n m inside ∙ slot_bytes-some sector rows n row e in
      let sectors = row_sectors sector entries row is row_writable in
      let holds = row_bytes-holds sector row sectors row_fits in
      let used : is_used (entry_of array n) ≡ true = rw entry_is (holds-used sector (row_bytes sector row) row row_fits holds row_writable.used) in
      let ordered : is_ordered sector (entry_of array n) ≡ true = rw entry_is (holds-ordered sector (row_bytes sector row) row row_fits holds sectors) in
      let same : row_of sector (entry_of array n) n ≡ row = rw entry_is (holds-row sector (row_bytes sector row) row row_fits holds sectors n slot_is) in
      record {
        below = rows_of-used sector array n used ∙ rw (before.below, same) (sym (filter_more 0 n rows rising ∙ rw e refl));
        ordered = unordered-used sector array n used ordered before.ordered;
      }

  pub reads : (n : ℕ) → n ≤ m → Reads sector rows m n
  reads zero inside = record { below = rows_of-zero sector (array_bytes sector rows m) ∙ sym (filter_above 0 0 rows (omega arith) rising); ordered = unordered-zero sector (array_bytes sector rows m) }
  reads (suc n) inside = rw (← add-one n) (reads-more n (omega arith) (reads n (omega arith)) _ refl)

-- an array that agrees below a slot, one slot more, and where it differs
module _ (sector : ℕ) (rows : List Row) (array : List ℕ) (n : ℕ) (front : take (128 * n) array ≡ array_bytes sector rows n) where
  pub agrees-more : take (128 * n + 128 - 128 * n) (drop (128 * n) array) ≡ slot_bytes sector rows n → take (128 * (n + 1)) array ≡ array_bytes sector rows (n + 1)
  agrees-more same =
      let next : 128 * (n + 1) ≡ 128 * n + 128 = omega arith in
      let width : 128 * n + 128 - 128 * n ≡ 128 = omega arith in
      ap (λ k. take k array) next ∙ take-add (128 * n) 128 array
      ∙ rw (front, rw width at same) (array_bytes-more sector rows n)

  pub agrees-entry : (m : ℕ) → n < m → 128 * n ≤ length array → length (slot_bytes sector rows n) ≡ 128 → array ≡ array_bytes sector rows m → take (128 * n + 128 - 128 * n) (drop (128 * n) array) ≡ slot_bytes sector rows n
  agrees-entry m below inside len same =
      let from = array_bytes-from sector rows n m below in
      range_here array (128 * n) 128 (slot_bytes sector rows n) from.0
      (ap (drop (128 * n)) (same ∙ from.1)
      ∙ drop_at (array_bytes sector rows n) (slot_bytes sector rows n ++ from.0) (128 * n) (ap length (sym front) ∙ length-take-le (128 * n) array inside)) len
