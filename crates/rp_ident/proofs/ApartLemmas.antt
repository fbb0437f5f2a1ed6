-- Identifiers that were given are apart, named rows are done, and rows that are done are named as themselves.
use Rattle.std.proofs.Common.{◌≡◌, ◌≢◌, ℕ, zero, suc, ◌+◌, ◌<◌, ◌==◌, Bool, true, false, List, [], ◌∷◌, length, get_or, replicate, Option, Some, None, Result, Ok, Err, inl, inr, refl, sym, ◌∙◌, ap, arith, true≢false}
use Rattle.std.specs.Prelude.{◌⊎◌, ◌||◌, All, IfSome, codes, fold, slice_get, slice_index, option_map, unwrap_or, if◌then◌else◌}
use Rattle.std.proofs.lemmas.Bool.{eqb-true, ne_eqb}
use Rattle.std.proofs.lemmas.Bool.Decides.{eqb_tells}
use Rattle.std.proofs.lemmas.List.Elements.{All-cons, All-head, All-nil, All-tail, All-weaker}
use Rattle.std.proofs.lemmas.Slice.Eq.{bytes_eq-Decides}
use Rattle.rp_base.specs.declared.guid.Guid.{Guid}
use Rattle.rp_base.specs.declared.table.Row.{Row}
use Rattle.rp_base.specs.declared.table.Table.{Table}
use Rattle.rp_hmac.specs.Derived.{derived}
use Rattle.rp_ident.specs.declared.naming.Naming.{Naming}
use Rattle.rp_ident.specs.declared.fault.IdentFault.{IdentFault}
use Rattle.rp_ident.specs.Naming.{changed, derived_one, disk_id, fixed_one, given, in_turn, is_used, is_zero, labeled, named, rows_named, same_id, then_with, waits}
use Rattle.rp_ident.specs.Facts.{AllStay, AreApart, IsDone, IsNamed}
use Rattle.rp_ident.proofs.TriedLemmas.{derived-some}
use Rattle.rp_ident.proofs.LawLemmas.{IsGiven, Settles, Steps, all_stay-label, all_stay-self, changed-other, derived-settles, derived-steps, in_turn-keeps, labels-keep, rows_named-keeps, steps-other, steps-stay}

-- no naming is asked for anything
all_any : (namings : List Naming) → All (λ (naming : Naming). Unit {0}) namings
all_any [] = All-nil (λ (naming : Naming). Unit {0})
all_any (naming ∷ namings) = All-cons (λ (n : Naming). Unit {0}) naming namings tt (all_any namings)

length-changed : (f : Row → Row) (rows : List Row) (place : ℕ) → length (changed f rows place) ≡ length rows
unfolding changed
length-changed f [] place = refl
length-changed f (row ∷ rows) zero = refl
length-changed f (row ∷ rows) (suc place) = ap suc (length-changed f rows place)

-- identifiers, by place
given-here : (rows : List Row) (place : ℕ) (id : Guid) (d : Row) → waits rows place ≡ true → (get_or (given rows place id) place d).id ≡ id
unfolding changed
given-here [] place id d waited = absurd (true≢false (sym waited))
given-here (row ∷ rows) zero id d waited = refl
given-here (row ∷ rows) (suc place) id d waited = given-here rows place id d waited

given-other : (rows : List Row) (place k : ℕ) (id : Guid) (d : Row) → place ≢ k → get_or (given rows place id) k d ≡ get_or rows k d
unfolding changed
given-other [] place k id d differ = refl
given-other (row ∷ rows) zero zero id d differ = absurd (differ refl)
given-other (row ∷ rows) zero (suc k) id d differ = refl
given-other (row ∷ rows) (suc place) zero id d differ = refl
given-other (row ∷ rows) (suc place) (suc k) id d differ = given-other rows place k id d (λ e. differ (ap suc e))

unused-at : (rows : List Row) (k : ℕ) (id : Guid) (d : Row) → k < length rows → is_used rows id ≡ false → same_id (get_or rows k d).id id ≡ false
unused-at [] k id d inside free = absurd (omega arith)
unused-at (row ∷ rows) zero id d inside free = by_test (same_id row.id id) refl free where
  by_test : (t : Bool) → same_id row.id id ≡ t → (t || is_used rows id) ≡ false → same_id row.id id ≡ false
  by_test true is free = absurd (true≢false free)
  by_test false is free = is
unused-at (row ∷ rows) (suc k) id d inside free = by_test (same_id row.id id) free (unused-at rows k id d (omega arith)) where
  by_test : (t : Bool) → (t || is_used rows id) ≡ false → (is_used rows id ≡ false → same_id (get_or rows k d).id id ≡ false)
      → same_id (get_or rows k d).id id ≡ false
  by_test true free later = absurd (true≢false free)
  by_test false free later = later free

other-way : (a b : Guid) → same_id a b ≡ false → same_id b a ≡ false
other-way a b differ = by_test (same_id b a) refl where
  by_test : (t : Bool) → same_id b a ≡ t → t ≡ false
  by_test false is = refl
  by_test true is =
      let same : same_id a b ≡ true = (bytes_eq-Decides a.0 b.0).1 (sym ((bytes_eq-Decides b.0 a.0).0 is)) in
      absurd (cc)

apart-given : (before rows : List Row) (place : ℕ) (id : Guid) → waits rows place ≡ true → is_used rows id ≡ false
    → AreApart before rows → AreApart before (given rows place id)
apart-given before rows place id waited free apart i j d differ in_i in_j zeros some =
    let size : length (given rows place id) ≡ length rows = length-changed (λ (row : Row). record row { id = id }) rows place in
    let inside_i : i < length rows = omega arith in
    let inside_j : j < length rows = omega arith in
    elim (eqb_tells place i) [
      | inl w ↦
          let not_j : place ≢ j = λ e. differ (sym w.1 ∙ e) in
          let here : (get_or (given rows place id) i d).id ≡ id = rw (← w.1) (given-here rows place id d waited) in
          let there : get_or (given rows place id) j d ≡ get_or rows j d = given-other rows place j id d not_j in
          rw (here, there) (unused-at rows j id d inside_j free)
      | inr w ↦
          let there : get_or (given rows place id) i d ≡ get_or rows i d = given-other rows place i id d w.1 in
          elim (eqb_tells place j) [
            | inl v ↦
                let here : (get_or (given rows place id) j d).id ≡ id = rw (← v.1) (given-here rows place id d waited) in
                rw (here, there) (other-way (get_or rows i d).id id (unused-at rows i id d inside_i free))
            | inr v ↦
                let too : get_or (given rows place id) j d ≡ get_or rows j d = given-other rows place j id d v.1 in
                rw (there, too) (apart i j d differ inside_i inside_j zeros (rw there at some))
          ]
    ]

steps-apart : (before rows : List Row) (place : ℕ) (after : List Row) → Steps rows place after → AreApart before rows → AreApart before after
steps-apart before rows place after (inl same) apart = rw same apart
steps-apart before rows place after (inr (id, g)) apart = rw g.is (apart-given before rows place id g.waited g.free apart)

-- labels change no identifier
unfoldable SameIds : List Row → List Row → Type 0
SameIds before rows = (k : ℕ) (d : Row) → (get_or rows k d).id ≡ (get_or before k d).id

label-ids : (rows : List Row) (place : ℕ) (label : List ℕ)
    → SameIds rows (changed (λ row. if slice_index row.name 0 == 0 then record row { name = label } else row) rows place)
unfolding changed SameIds
label-ids [] place label k d = refl
label-ids (row ∷ rows) (suc place) label zero d = refl
label-ids (row ∷ rows) (suc place) label (suc k) d = label-ids rows place label k d
label-ids (row ∷ rows) zero label (suc k) d = refl
label-ids (row ∷ rows) zero label zero d = by_name (slice_index row.name 0 == 0) where
  by_name : (t : Bool) → (if t then record row { name = label } else row).id ≡ row.id
  by_name true = refl
  by_name false = refl

labels-ids : (rows : List Row) (namings : List Naming) → SameIds rows (fold labeled rows namings)
unfolding SameIds
labels-ids rows namings =
    labels-keep (λ (naming : Naming). Unit {0}) (SameIds rows)
    (λ now naming q same. λ k d. label-ids now naming.row naming.label k d ∙ same k d) rows namings (all_any namings) (λ k d. refl)

apart-start : (before rows : List Row) → SameIds before rows → AreApart before rows
unfolding SameIds
apart-start before rows same i j d differ in_i in_j zeros some =
    let row : (get_or rows i d).id ≡ (get_or before i d).id = same i d in
    absurd (true≢false (sym zeros ∙ rw row at some))

pub named-apart : (rows : List Row) (namings : List Naming) (seed : Guid) (after : List Row) → rows_named rows namings seed ≡ Ok after
    → AreApart rows after
named-apart rows namings seed after done =
    rows_named-keeps (λ (naming : Naming). Unit {0}) (AreApart rows)
    (λ now naming later q step apart. steps-apart rows now naming.row later step apart) rows namings seed after (all_any namings) done
    (apart-start rows (fold labeled rows namings) (labels-ids rows namings))

-- what holds of the row at a place, where changing keeps it or gives it
changed-keeps : (f : Row → Row) (C : Row → Type 0) → ((row : Row) → C row → C (f row)) → (rows : List Row) (place k : ℕ)
    → IfSome (slice_get rows k) C → IfSome (slice_get (changed f rows place) k) C
unfolding changed
changed-keeps f C keeps [] place k holds = holds
changed-keeps f C keeps (row ∷ rows) zero zero holds = keeps row holds
changed-keeps f C keeps (row ∷ rows) zero (suc k) holds = holds
changed-keeps f C keeps (row ∷ rows) (suc place) zero holds = holds
changed-keeps f C keeps (row ∷ rows) (suc place) (suc k) holds = changed-keeps f C keeps rows place k holds

changed-gives : (f : Row → Row) (C : Row → Type 0) → ((row : Row) → C (f row)) → (rows : List Row) (place : ℕ)
    → IfSome (slice_get (changed f rows place) place) C
unfolding changed
changed-gives f C gives [] place = tt
changed-gives f C gives (row ∷ rows) zero = gives row
changed-gives f C gives (row ∷ rows) (suc place) = changed-gives f C gives rows place

-- a row has a name
unfoldable HasName : Row → Type 0
HasName row = slice_index row.name 0 ≢ 0

label-named : (label : List ℕ) → slice_index label 0 ≢ 0 → (row : Row)
    → HasName (if slice_index row.name 0 == 0 then record row { name = label } else row)
unfolding HasName
label-named label some row =
    elim (eqb_tells (slice_index row.name 0) 0) [
      | inl w ↦ rw w.0 some
      | inr w ↦ rw w.0 w.1
    ]

labels-named : (rows : List Row) (namings : List Naming) → All (λ naming. slice_index naming.label 0 ≢ 0) namings
    → All (λ naming. IfSome (slice_get (fold labeled rows namings) naming.row) HasName) namings
labels-named rows [] some = All-nil (λ (naming : Naming). IfSome (slice_get rows naming.row) HasName)
labels-named rows (naming ∷ namings) some =
    let label : slice_index naming.label 0 ≢ 0 = All-head (λ (n : Naming). slice_index n.label 0 ≢ 0) naming namings some in
    let rest : All (λ (n : Naming). slice_index n.label 0 ≢ 0) namings = All-tail (λ (n : Naming). slice_index n.label 0 ≢ 0) naming namings some in
    All-cons (λ (n : Naming). IfSome (slice_get (fold labeled (labeled rows naming) namings) n.row) HasName) naming namings
    (labels-keep (λ (n : Naming). slice_index n.label 0 ≢ 0) (λ (now : List Row). IfSome (slice_get now naming.row) HasName)
    (λ now n ok holds.
    changed-keeps (λ (row : Row). if slice_index row.name 0 == 0 then record row { name = n.label } else row) HasName
    (λ row named. label-named n.label ok row) now n.row naming.row holds)
    (labeled rows naming) namings rest
    (changed-gives (λ (row : Row). if slice_index row.name 0 == 0 then record row { name = naming.label } else row) HasName
    (label-named naming.label label) rows naming.row))
    (labels-named (labeled rows naming) namings rest)

steps-named : (rows : List Row) (place k : ℕ) (after : List Row) → Steps rows place after → IfSome (slice_get rows k) HasName
    → IfSome (slice_get after k) HasName
unfolding HasName
steps-named rows place k after (inl same) holds = rw same holds
steps-named rows place k after (inr (id, g)) holds =
    rw g.is (changed-keeps (λ (row : Row). record row { id = id }) (λ row. slice_index row.name 0 ≢ 0) (λ row named. named) rows place k holds)

-- a row that has an identifier waits no longer
given-settled : (rows : List Row) (place k : ℕ) (id : Guid) → is_zero id ≡ false → waits rows k ≡ false → waits (given rows place id) k ≡ false
unfolding changed
given-settled [] place k id some settled = settled
given-settled (row ∷ rows) zero zero id some settled = some
given-settled (row ∷ rows) zero (suc k) id some settled = settled
given-settled (row ∷ rows) (suc place) zero id some settled = settled
given-settled (row ∷ rows) (suc place) (suc k) id some settled = given-settled rows place k id some settled

given-settles : (rows : List Row) (place : ℕ) (id : Guid) → is_zero id ≡ false → waits (given rows place id) place ≡ false
unfolding changed
given-settles [] place id some = refl
given-settles (row ∷ rows) zero id some = some
given-settles (row ∷ rows) (suc place) id some = given-settles rows place id some

steps-settled : (rows : List Row) (place k : ℕ) (after : List Row) → Steps rows place after → waits rows k ≡ false → waits after k ≡ false
steps-settled rows place k after (inl same) settled = rw same settled
steps-settled rows place k after (inr (id, g)) settled = rw g.is (given-settled rows place k id g.some settled)

settles-here : (rows : List Row) (place : ℕ) (after : List Row) → Settles rows place after → waits after place ≡ false
settles-here rows place after (inl same) = rw same.1 same.0
settles-here rows place after (inr (id, g)) = rw g.is (given-settles rows place id g.some)

derived-settled : (seed : Guid) (rows : List Row) (namings : List Naming) (after : List Row) → in_turn (derived_one seed) rows namings ≡ Ok after
    → All (λ naming. waits after naming.row ≡ false) namings
unfolding in_turn
derived-settled seed rows [] after done = All-nil (λ (naming : Naming). waits after naming.row ≡ false)
derived-settled seed rows (naming ∷ namings) after done =
    by_step (derived_one seed rows naming) refl done (λ middle rest. derived-settled seed middle namings after rest) where
      by_step : (r : Result (List Row) IdentFault) → derived_one seed rows naming ≡ r
          → then_with r (λ middle. in_turn (derived_one seed) middle namings) ≡ Ok after
          → ((middle : List Row) → in_turn (derived_one seed) middle namings ≡ Ok after → All (λ n. waits after n.row ≡ false) namings)
          → All (λ n. waits after n.row ≡ false) (naming ∷ namings)
      by_step (Err fault) is done later = absurd (cc)
      by_step (Ok middle) is done later =
          All-cons (λ (n : Naming). waits after n.row ≡ false) naming namings
          (in_turn-keeps (derived_one seed) (λ (n : Naming). Unit {0}) (λ (now : List Row). waits now naming.row ≡ false)
          (λ now n next q step settled. steps-settled now n.row naming.row next (derived-steps seed now n next step) settled)
          middle namings after (all_any namings) done
          (settles-here rows naming.row middle (derived-settles seed rows naming middle is)))
          (later middle done)

named-settled : (rows : List Row) (namings : List Naming) (seed : Guid) (after : List Row) → rows_named rows namings seed ≡ Ok after
    → All (λ naming. waits after naming.row ≡ false) namings
unfolding rows_named
named-settled rows namings seed after done = by_fixed (in_turn fixed_one (fold labeled rows namings) namings) done where
  by_fixed : (r : Result (List Row) IdentFault) → then_with r (λ fixed. in_turn (derived_one seed) fixed namings) ≡ Ok after
      → All (λ naming. waits after naming.row ≡ false) namings
  by_fixed (Err fault) done = absurd (cc)
  by_fixed (Ok fixed) done = derived-settled seed fixed namings after done

-- a row with a name that doesn't wait is done
done-both : (rows : List Row) (naming : Naming) → IfSome (slice_get rows naming.row) HasName → waits rows naming.row ≡ false → IsDone rows naming
unfolding HasName
done-both rows naming name settled = by_row (slice_get rows naming.row) name settled where
  by_row : (o : Option Row) → IfSome o (λ row. slice_index row.name 0 ≢ 0) → unwrap_or (option_map (λ row. is_zero row.id) o) false ≡ false
      → IfSome o IsNamed
  by_row None name settled = tt
  by_row (Some row) name settled = record { name = name; id = settled }

pub named-done : (rows : List Row) (namings : List Naming) (seed : Guid) (after : List Row) → All (λ naming. slice_index naming.label 0 ≢ 0) namings
    → rows_named rows namings seed ≡ Ok after → All (IsDone after) namings
named-done rows namings seed after some done k d inside =
    done-both after (get_or namings k d)
    (rows_named-keeps (λ (n : Naming). Unit {0}) (λ (now : List Row). IfSome (slice_get now (get_or namings k d).row) HasName)
    (λ now n next q step holds. steps-named now n.row (get_or namings k d).row next step holds) rows namings seed after (all_any namings) done
    (labels-named rows namings some k d inside))
    (named-settled rows namings seed after done k d inside)

-- rows that are done are named as themselves
changed-same : (f : Row → Row) (rows : List Row) (place : ℕ) → IfSome (slice_get rows place) (λ row. f row ≡ row) → changed f rows place ≡ rows
unfolding changed
changed-same f [] place same = refl
changed-same f (row ∷ rows) zero same = rw same refl
changed-same f (row ∷ rows) (suc place) same = ap (λ (rest : List Row). row ∷ rest) (changed-same f rows place same)

done-label : (rows : List Row) (naming : Naming) → IsDone rows naming → labeled rows naming ≡ rows
done-label rows naming done =
    changed-same (λ (row : Row). if slice_index row.name 0 == 0 then record row { name = naming.label } else row) rows naming.row
    (by_row (slice_get rows naming.row) done) where
      by_row : (o : Option Row) → IfSome o IsNamed
          → IfSome o (λ row. (if slice_index row.name 0 == 0 then record row { name = naming.label } else row) ≡ row)
      by_row None done = tt
      by_row (Some row) done = rw (ne_eqb (slice_index row.name 0) 0 done.name) refl

done-settled : (rows : List Row) (naming : Naming) → IsDone rows naming → waits rows naming.row ≡ false
done-settled rows naming done = by_row (slice_get rows naming.row) done where
  by_row : (o : Option Row) → IfSome o IsNamed → unwrap_or (option_map (λ row. is_zero row.id) o) false ≡ false
  by_row None done = refl
  by_row (Some row) done = done.id

labels-done : (rows : List Row) (namings : List Naming) → All (IsDone rows) namings → fold labeled rows namings ≡ rows
labels-done rows [] done = refl
labels-done rows (naming ∷ namings) done =
    rw (done-label rows naming (All-head (IsDone rows) naming namings done)) (labels-done rows namings (All-tail (IsDone rows) naming namings done))

fixed-done : (rows : List Row) (namings : List Naming) → All (IsDone rows) namings → in_turn fixed_one rows namings ≡ Ok rows
unfolding in_turn
fixed-done rows [] done = refl
fixed-done rows (naming ∷ namings) done =
    rw (done-settled rows naming (All-head (IsDone rows) naming namings done)) (fixed-done rows namings (All-tail (IsDone rows) naming namings done))

derived-done : (seed : Guid) (rows : List Row) (namings : List Naming) → All (IsDone rows) namings → in_turn (derived_one seed) rows namings ≡ Ok rows
unfolding in_turn
derived-done seed rows [] done = refl
derived-done seed rows (naming ∷ namings) done =
    rw (done-settled rows naming (All-head (IsDone rows) naming namings done)) (derived-done seed rows namings (All-tail (IsDone rows) naming namings done))

pub named-same : (table : Table) (namings : List Naming) (seed : Guid) → is_zero table.disk ≡ false → All (IsDone table.rows) namings
    → named table namings seed ≡ Ok table
unfolding named rows_named
named-same table namings seed some done =
    rw (labels-done table.rows namings done, fixed-done table.rows namings done, derived-done seed table.rows namings done, some) refl

-- the disk has an identifier then, and keeps the one that it had
pub disk-same : (seed disk : Guid) → is_zero disk ≡ false → disk_id seed disk ≡ disk
disk-same seed disk some = rw some refl

pub disk-some : (seed disk : Guid) → is_zero (disk_id seed disk) ≡ false
disk-some seed disk = by_test (is_zero disk) refl where
  by_test : (t : Bool) → is_zero disk ≡ t → is_zero (if t then derived seed (codes "disk-uuid") 0 else disk) ≡ false
  by_test true is = derived-some seed (codes "disk-uuid") 0
  by_test false is = is

-- rows stay
pub named-stay : (rows : List Row) (namings : List Naming) (seed : Guid) (after : List Row) → rows_named rows namings seed ≡ Ok after
    → AllStay rows after
named-stay rows namings seed after done =
    rows_named-keeps (λ (n : Naming). Unit {0}) (AllStay rows)
    (λ now n next q step stay. steps-stay rows now n.row next step stay) rows namings seed after (all_any namings) done
    (labels-keep (λ (n : Naming). Unit {0}) (AllStay rows) (λ now n q stay. all_stay-label rows now n.row n.label stay) rows namings
    (all_any namings) (all_stay-self rows))

pub named-others : (rows : List Row) (namings : List Naming) (seed : Guid) (after : List Row) (place : ℕ)
    → All (λ naming. naming.row ≢ place) namings → rows_named rows namings seed ≡ Ok after → slice_get after place ≡ slice_get rows place
named-others rows namings seed after place others done =
    rows_named-keeps (λ (n : Naming). n.row ≢ place) (λ (now : List Row). slice_get now place ≡ slice_get rows place)
    (λ now n next differ step same. steps-other now n.row place next differ step ∙ same) rows namings seed after others done
    (labels-keep (λ (n : Naming). n.row ≢ place) (λ (now : List Row). slice_get now place ≡ slice_get rows place)
    (λ now n differ same.
    changed-other (λ (row : Row). if slice_index row.name 0 == 0 then record row { name = n.label } else row) now n.row place differ ∙ same)
    rows namings others refl)
