-- Rows whose slots rise, cut at a slot.
use Rattle.std.proofs.Common.{◌≡◌, ℕ, suc, ◌+◌, ◌<◌, ◌≤◌, Bool, true, false, cond, eqb, ltb, List, [], ◌∷◌, ◌++◌, length, get_or, Option, Some, None, refl, sym, ap, ◌∙◌, arith, All, AllPairs, find, filter, option_to_list, inl, inr, ◌⊎◌, eq-eqb, ne_eqb, le-ltb, lt-ltb}
use Rattle.std.specs.List.{slice_get}
use Rattle.std.proofs.lemmas.Bool.{cases_order}
use Rattle.std.proofs.lemmas.Option.{slice_get-get_or, slice_get_past}
use Rattle.std.proofs.lemmas.List.{append-nil, length-append}
use Rattle.std.proofs.lemmas.List.Elements.{All-tail}
use Rattle.rp_base.specs.declared.table.Row.{Row}

-- slots from low on, each above the one before
abbrev pub Rising : ℕ → List Row → Type 0
Rising low [] = Unit {0}
Rising low (row ∷ rows) = (low ≤ row.slot) × Rising (row.slot + 1) rows

pub Rising-from : (low : ℕ) (rows : List Row) → All (λ row. low ≤ row.slot) rows → AllPairs (λ a b. a.slot < b.slot) rows → Rising low rows
Rising-from low [] h rising = tt
Rising-from low (row ∷ rows) h rising = (
  h 0 row (omega arith),
  Rising-from (row.slot + 1) rows
      (λ k d below. let pair = rising 0 (suc k) d (omega arith) (omega arith) in omega arith)
      (λ i j d i_j j_n. rising (suc i) (suc j) d (omega arith) (omega arith)),
)

-- rows from a slot on
pub filter_above : (low n : ℕ) (rows : List Row) → n ≤ low → Rising low rows → filter (λ row. ltb row.slot n) rows ≡ []
filter_above low n [] h rising = refl
filter_above low n (row ∷ rows) h rising =
    rw (le-ltb row.slot n (omega (arith, rising.0))) (filter_above (row.slot + 1) n rows (omega (arith, rising.0)) rising.1)

pub find_above : (low n : ℕ) (rows : List Row) → n < low → Rising low rows → find (λ row. eqb row.slot n) rows ≡ None
find_above low n [] h rising = refl
find_above low n (row ∷ rows) h rising =
    rw (ne_eqb row.slot n (λ e. omega (arith, rising.0, e))) (find_above (row.slot + 1) n rows (omega (arith, rising.0)) rising.1)

-- rows below a slot
pub filter_all : (n : ℕ) (rows : List Row) → All (λ row. row.slot < n) rows → filter (λ row. ltb row.slot n) rows ≡ rows
filter_all n [] h = refl
filter_all n (row ∷ rows) h =
    rw (lt-ltb row.slot n (h 0 row (omega arith))) (ap (λ rs. row ∷ rs) (filter_all n rows (All-tail (λ r. r.slot < n) row rows h)))

-- the rows below a slot and the slot's own are those below the next
filter_more_cons : (n : ℕ) (row : Row) (rows : List Row) → Rising (row.slot + 1) rows → filter (λ r. ltb r.slot (n + 1)) rows ≡ filter (λ r. ltb r.slot n) rows ++ option_to_list (find (λ r. eqb r.slot n) rows) → (row.slot ≡ n) ⊎ ((row.slot < n) ⊎ (n < row.slot)) → filter (λ r. ltb r.slot (n + 1)) (row ∷ rows) ≡ filter (λ r. ltb r.slot n) (row ∷ rows) ++ option_to_list (find (λ r. eqb r.slot n) (row ∷ rows))
filter_more_cons n row rows rising later (inl e) =
    rw (
      lt-ltb row.slot (n + 1) (omega (arith, e)),
      le-ltb row.slot n (omega (arith, e)),
      eq-eqb row.slot n e,
      filter_above (row.slot + 1) (n + 1) rows (omega (arith, e)) rising,
      filter_above (row.slot + 1) n rows (omega (arith, e)) rising,
    ) refl
filter_more_cons n row rows rising later (inr (inl below)) =
    rw (lt-ltb row.slot (n + 1) (omega arith), lt-ltb row.slot n below, ne_eqb row.slot n (λ e. omega (arith, e))) (ap (λ rs. row ∷ rs) later)
filter_more_cons n row rows rising later (inr (inr above)) =
    rw (le-ltb row.slot (n + 1) (omega arith), le-ltb row.slot n (omega arith), ne_eqb row.slot n (λ e. omega (arith, e))) later

pub filter_more : (low n : ℕ) (rows : List Row) → Rising low rows → filter (λ row. ltb row.slot (n + 1)) rows ≡ filter (λ row. ltb row.slot n) rows ++ option_to_list (find (λ row. eqb row.slot n) rows)
filter_more low n [] rising = refl
filter_more low n (row ∷ rows) rising =
    filter_more_cons n row rows rising.1 (filter_more (row.slot + 1) n rows rising.1) (cases_order row.slot n)

-- what is found passes the test
passes_here : (test : Row → Bool) (r row : Row) (rest : Option Row) → (rest ≡ Some row → test row ≡ true) → (b : Bool) → test r ≡ b → cond b (Some r) rest ≡ Some row → test row ≡ true
passes_here test r row rest later true here e = let same : r ≡ row = cc in ap test (sym same) ∙ here
passes_here test r row rest later false here e = later e

pub found_passes : (test : Row → Bool) (rows : List Row) (row : Row) → find test rows ≡ Some row → test row ≡ true
found_passes test [] row e = cc
found_passes test (r ∷ rows) row e = passes_here test r row (find test rows) (found_passes test rows row) (test r) refl e

-- the row of a slot, if a row has it
abbrev at_slot : ℕ → Option Row → Option Row
at_slot n None = None
at_slot n (Some row) = cond (eqb row.slot n) (Some row) None

-- the row of a slot is the one behind those of lower slots
cut_cons : (n : ℕ) (row : Row) (rows : List Row) → Rising (row.slot + 1) rows → find (λ r. eqb r.slot n) rows ≡ at_slot n (slice_get rows (length (filter (λ r. ltb r.slot n) rows))) → (row.slot ≡ n) ⊎ ((row.slot < n) ⊎ (n < row.slot)) → find (λ r. eqb r.slot n) (row ∷ rows) ≡ at_slot n (slice_get (row ∷ rows) (length (filter (λ r. ltb r.slot n) (row ∷ rows))))
cut_cons n row rows rising later (inl e) =
    rw (le-ltb row.slot n (omega (arith, e)), eq-eqb row.slot n e, filter_above (row.slot + 1) n rows (omega (arith, e)) rising, eq-eqb row.slot n e) refl
cut_cons n row rows rising later (inr (inl below)) =
    rw (lt-ltb row.slot n below, ne_eqb row.slot n (λ e. omega (arith, e))) later
cut_cons n row rows rising later (inr (inr above)) =
    rw (
      le-ltb row.slot n (omega arith),
      ne_eqb row.slot n (λ e. omega (arith, e)),
      filter_above (row.slot + 1) n rows (omega arith) rising,
      ne_eqb row.slot n (λ e. omega (arith, e)),
    ) (find_above (row.slot + 1) n rows (omega arith) rising)

pub find-cut : (low n : ℕ) (rows : List Row) → Rising low rows → find (λ r. eqb r.slot n) rows ≡ at_slot n (slice_get rows (length (filter (λ r. ltb r.slot n) rows)))
find-cut low n [] rising = refl
find-cut low n (row ∷ rows) rising = cut_cons n row rows rising.1 (find-cut (row.slot + 1) n rows rising.1) (cases_order row.slot n)

-- the row at the number of those of lower slots, and that number for the next slot
module _ (n next : ℕ) (rows : List Row) (rising : Rising 0 rows) (cut : next ≡ length (filter (λ r. ltb r.slot n) rows)) where
  pub found_here : (d : Row) → next < length rows → (get_or rows next d).slot ≡ n → find (λ r. eqb r.slot n) rows ≡ Some (get_or rows next d)
  found_here d inside at = find-cut 0 n rows rising ∙ rw (← cut, slice_get-get_or rows next d inside, eq-eqb _ _ at) refl

  pub none_past : length rows ≤ next → find (λ r. eqb r.slot n) rows ≡ None
  none_past past = find-cut 0 n rows rising ∙ rw (← cut, slice_get_past rows next past) refl

  pub none_here : (d : Row) → next < length rows → ((get_or rows next d).slot ≡ n → ⊥) → find (λ r. eqb r.slot n) rows ≡ None
  none_here d inside other = find-cut 0 n rows rising ∙ rw (← cut, slice_get-get_or rows next d inside, ne_eqb _ _ other) refl

  pub more_found : (row : Row) → find (λ r. eqb r.slot n) rows ≡ Some row → next + 1 ≡ length (filter (λ r. ltb r.slot (n + 1)) rows)
  more_found row found = sym (ap length (filter_more 0 n rows rising) ∙ rw (found, length-append, ← cut) refl)

  pub more_none : find (λ r. eqb r.slot n) rows ≡ None → next ≡ length (filter (λ r. ltb r.slot (n + 1)) rows)
  more_none none = sym (ap length (filter_more 0 n rows rising) ∙ rw (none, append-nil, ← cut) refl)

-- no row is of a lower slot than the first
pub none_below : (rows : List Row) → AllPairs (λ a b. a.slot < b.slot) rows → length (filter (λ r. ltb r.slot 0) rows) ≡ 0
none_below rows rising = ap length (filter_above 0 0 rows (omega arith) (Rising-from 0 rows (λ k d h. omega arith) rising))
