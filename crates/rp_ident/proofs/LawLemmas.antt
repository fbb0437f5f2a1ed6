-- What naming leaves, a step at a time.
use Rattle.std.proofs.Common.{◌≡◌, ◌≢◌, ℕ, zero, suc, ◌+◌, ◌<◌, ◌==◌, Bool, true, false, List, [], ◌∷◌, length, get_or, replicate, Option, Some, None, Result, Ok, Err, inl, inr, refl, sym, ◌∙◌, ap, arith, true≢false}
use Rattle.std.specs.Prelude.{◌⊎◌, ◌||◌, All, IfSome, fold, not, slice_get, slice_index, option_and_then, option_map, find, map, if◌then◌else◌}
use Rattle.std.specs.List.{range_with_len}
use Rattle.std.proofs.lemmas.Bool.{eqb-true, ne_eqb}
use Rattle.std.proofs.lemmas.Bool.Decides.{eqb_tells}
use Rattle.std.proofs.lemmas.List.Elements.{All-cons, All-head, All-nil, All-tail, All-weaker}
use Rattle.std.proofs.lemmas.Slice.Eq.{bytes_eq-Decides}
use Rattle.rp_base.specs.declared.guid.Guid.{Guid}
use Rattle.rp_base.specs.declared.table.Row.{Row}
use Rattle.rp_base.specs.declared.table.Table.{Table}
use Rattle.rp_hmac.specs.Derived.{derived}
use Rattle.rp_ident.specs.declared.naming.Naming.{Naming}
use Rattle.rp_ident.specs.declared.fault.IdentFault.{IdentFault}
use Rattle.rp_ident.specs.declared.fault.IdentFault.TheVariants.{NoIdentifier, TakenIdentifier}
use Rattle.rp_ident.specs.Naming.{changed, derived_one, derived_to, disk_id, first_unused, fixed_one, fixed_to, given, in_turn, is_used, is_zero, kind_of, labeled, named, rows_named, same_id, then_with, waits}
use Rattle.rp_ident.specs.Facts.{AllStay, AreApart, IsDone, IsNamed, Stays}
use Rattle.rp_ident.proofs.TriedLemmas.{derived-some}

-- a row that waited got an identifier that isn't zero and was no row's
pub record IsGiven (rows : List Row) (place : ℕ) (id : Guid) (after : List Row) : Type 0 where
  pub waited : waits rows place ≡ true
  pub free : is_used rows id ≡ false
  pub some : is_zero id ≡ false
  pub is : after ≡ given rows place id

-- what a step that was done left: the rows as they were, or one that got an identifier
abbrev pub Steps : List Row → ℕ → List Row → Type 0
Steps rows place after = (after ≡ rows) ⊎ ((id : Guid) × IsGiven rows place id after)

ok-same : (a b : List Row) → ◌≡◌ {A = Result (List Row) IdentFault} (Ok a) (Ok b) → b ≡ a
ok-same a b e = sym (cc)

or-false : (a b : Bool) → (a || b) ≡ false → (a ≡ false) × (b ≡ false)
or-false true b e = absurd (true≢false e)
or-false false b e = (refl, e)

pub fixed-steps : (rows : List Row) (naming : Naming) (after : List Row) → fixed_one rows naming ≡ Ok after → Steps rows naming.row after
fixed-steps rows naming after done = by_wait (waits rows naming.row) naming.fixed refl refl done where
  by_test : (id : Guid) (t : Bool) → waits rows naming.row ≡ true → (is_zero id || is_used rows id) ≡ t
      → (if t then Err (TakenIdentifier naming.file) else Ok (given rows naming.row id)) ≡ Ok after → Steps rows naming.row after
  by_test id true waited is done = absurd (cc)
  by_test id false waited is done =
      let free = or-false (is_zero id) (is_used rows id) is in
      inr (id, record { waited = waited; free = free.1; some = free.0; is = ok-same _ _ done })

  by_wait : (t : Bool) (fixed : Option Guid) → waits rows naming.row ≡ t → naming.fixed ≡ fixed
      → (if t then fixed_to rows naming fixed else Ok rows) ≡ Ok after → Steps rows naming.row after
  by_wait false fixed is fixed_is done = inl (ok-same _ _ done)
  by_wait true None is fixed_is done = inl (ok-same _ _ done)
  by_wait true (Some id) is fixed_is done = by_test id (is_zero id || is_used rows id) is refl done

-- the first unused identifier is no row's, and not zero
found-unused : (rows : List Row) (seed kind id : Guid) (from n : ℕ)
    → find (λ i. not (is_used rows i)) (map (derived seed kind.0) (range_with_len from n)) ≡ Some id
    → (is_used rows id ≡ false) × (is_zero id ≡ false)
found-unused rows seed kind id from zero found = absurd (cc)
found-unused rows seed kind id from (suc n) found =
    by_test (is_used rows (derived seed kind.0 from)) refl found (found-unused rows seed kind id (from + 1) n) where
      by_test : (t : Bool) → is_used rows (derived seed kind.0 from) ≡ t
          → (if not t then Some (derived seed kind.0 from) else find (λ i. not (is_used rows i)) (map (derived seed kind.0) (range_with_len (from + 1) n))) ≡ Some id
          → (find (λ i. not (is_used rows i)) (map (derived seed kind.0) (range_with_len (from + 1) n)) ≡ Some id → (is_used rows id ≡ false) × (is_zero id ≡ false))
          → (is_used rows id ≡ false) × (is_zero id ≡ false)
      by_test true is found later = later found
      by_test false is found later =
          let same : derived seed kind.0 from ≡ id = (cc) in
          (rw same at is, rw same at (derived-some seed kind.0 from))

-- the rows as they were, where the row has an identifier, or that row got one
abbrev pub Settles : List Row → ℕ → List Row → Type 0
Settles rows place after = ((waits rows place ≡ false) × (after ≡ rows)) ⊎ ((id : Guid) × IsGiven rows place id after)

pub derived-settles : (seed : Guid) (rows : List Row) (naming : Naming) (after : List Row) → derived_one seed rows naming ≡ Ok after
    → Settles rows naming.row after
unfolding first_unused
derived-settles seed rows naming after done = by_wait (waits rows naming.row) (kind_of rows naming.row) refl done where
  by_id : (kind : Guid) (found : Option Guid) → waits rows naming.row ≡ true
      → find (λ i. not (is_used rows i)) (map (derived seed kind.0) (range_with_len 0 256)) ≡ found
      → derived_to rows naming found ≡ Ok after → Settles rows naming.row after
  by_id kind None waited is done = absurd (cc)
  by_id kind (Some id) waited is done =
      let free = found-unused rows seed kind id 0 256 is in
      inr (id, record { waited = waited; free = free.0; some = free.1; is = ok-same _ _ done })

  by_wait : (t : Bool) (kind : Option Guid) → waits rows naming.row ≡ t
      → (if t then derived_to rows naming (option_and_then (first_unused seed rows) kind) else Ok rows) ≡ Ok after
      → Settles rows naming.row after
  by_wait false kind is done = inl (is, ok-same _ _ done)
  by_wait true None is done = absurd (cc)
  by_wait true (Some kind) is done = by_id kind (first_unused seed rows kind) is refl done

pub derived-steps : (seed : Guid) (rows : List Row) (naming : Naming) (after : List Row) → derived_one seed rows naming ≡ Ok after
    → Steps rows naming.row after
derived-steps seed rows naming after done = weaker (derived-settles seed rows naming after done) where
  weaker : Settles rows naming.row after → Steps rows naming.row after
  weaker (inl same) = inl same.1
  weaker (inr g) = inr g

-- what each step keeps, all keep
pub in_turn-keeps : (step : List Row → Naming → Result (List Row) IdentFault) (Q : Naming → Type 0) (P : List Row → Type 0)
    → ((rows : List Row) (naming : Naming) (after : List Row) → Q naming → step rows naming ≡ Ok after → P rows → P after)
    → (rows : List Row) (namings : List Naming) (after : List Row) → All Q namings → in_turn step rows namings ≡ Ok after → P rows → P after
unfolding in_turn
in_turn-keeps step Q P keeps rows [] after all done p = rw (ok-same _ _ done) p
in_turn-keeps step Q P keeps rows (naming ∷ namings) after all done p =
    by_step (step rows naming) refl done (λ middle rest m. in_turn-keeps step Q P keeps middle namings after (All-tail Q naming namings all) rest m) where
      by_step : (r : Result (List Row) IdentFault) → step rows naming ≡ r → then_with r (λ middle. in_turn step middle namings) ≡ Ok after
          → ((middle : List Row) → in_turn step middle namings ≡ Ok after → P middle → P after) → P after
      by_step (Err fault) is done later = absurd (cc)
      by_step (Ok middle) is done later = later middle done (keeps rows naming middle (All-head Q naming namings all) is p)

-- the same of all that gives identifiers
pub rows_named-keeps : (Q : Naming → Type 0) (P : List Row → Type 0)
    → ((rows : List Row) (naming : Naming) (after : List Row) → Q naming → Steps rows naming.row after → P rows → P after)
    → (rows : List Row) (namings : List Naming) (seed : Guid) (after : List Row) → All Q namings → rows_named rows namings seed ≡ Ok after
    → P (fold labeled rows namings) → P after
unfolding rows_named
rows_named-keeps Q P keeps rows namings seed after all done p =
    by_fixed (in_turn fixed_one (fold labeled rows namings) namings) refl done where
      by_fixed : (r : Result (List Row) IdentFault) → in_turn fixed_one (fold labeled rows namings) namings ≡ r
          → then_with r (λ fixed. in_turn (derived_one seed) fixed namings) ≡ Ok after → P after
      by_fixed (Err fault) is done = absurd (cc)
      by_fixed (Ok fixed) is done =
          in_turn-keeps (derived_one seed) Q P (λ rows naming after q step. keeps rows naming after q (derived-steps seed rows naming after step))
          fixed namings after all done
          (in_turn-keeps fixed_one Q P (λ rows naming after q step. keeps rows naming after q (fixed-steps rows naming after step))
          (fold labeled rows namings) namings fixed all is p)

-- what each label keeps, all keep
pub labels-keep : (Q : Naming → Type 0) (P : List Row → Type 0)
    → ((rows : List Row) (naming : Naming) → Q naming → P rows → P (labeled rows naming))
    → (rows : List Row) (namings : List Naming) → All Q namings → P rows → P (fold labeled rows namings)
labels-keep Q P keeps rows [] all p = p
labels-keep Q P keeps rows (naming ∷ namings) all p =
    labels-keep Q P keeps (labeled rows naming) namings (All-tail Q naming namings all) (keeps rows naming (All-head Q naming namings all) p)

-- a table that was named
pub named-rows : (table after : Table) (namings : List Naming) (seed : Guid) → named table namings seed ≡ Ok after
    → (rows_named table.rows namings seed ≡ Ok after.rows) × (after ≡ record table { disk = disk_id seed table.disk; rows = after.rows })
unfolding named
named-rows table after namings seed done = by_rows (rows_named table.rows namings seed) refl done where
  by_rows : (r : Result (List Row) IdentFault) → rows_named table.rows namings seed ≡ r
      → then_with r (λ rows. Ok (record table { disk = disk_id seed table.disk; rows = rows })) ≡ Ok after
      → (rows_named table.rows namings seed ≡ Ok after.rows) × (after ≡ record table { disk = disk_id seed table.disk; rows = after.rows })
  by_rows (Err fault) is done = absurd (cc)
  by_rows (Ok rows) is done =
      let same : after ≡ record table { disk = disk_id seed table.disk; rows = rows } = sym (cc) in
      let rows_are : after.rows ≡ rows = ap (λ (t : Table). t.rows) same in
      (rw rows_are is, same ∙ ap (λ (rest : List Row). record table { disk = disk_id seed table.disk; rows = rest }) (sym rows_are))

-- a row that isn't the one changed is as it was
pub changed-other : (f : Row → Row) (rows : List Row) (place other : ℕ) → place ≢ other → slice_get (changed f rows place) other ≡ slice_get rows other
unfolding changed
changed-other f [] place other differ = refl
changed-other f (row ∷ rows) zero zero differ = absurd (differ refl)
changed-other f (row ∷ rows) zero (suc other) differ = refl
changed-other f (row ∷ rows) (suc place) zero differ = refl
changed-other f (row ∷ rows) (suc place) (suc other) differ = changed-other f rows place other (λ e. differ (ap suc e))

pub steps-other : (rows : List Row) (place other : ℕ) (after : List Row) → place ≢ other → Steps rows place after
    → slice_get after other ≡ slice_get rows other
steps-other rows place other after differ (inl same) = rw same refl
steps-other rows place other after differ (inr (id, g)) = rw g.is (changed-other (λ (row : Row). record row { id = id }) rows place other differ)

-- rows stay through a label and through an identifier
stays-self : (row : Row) → Stays row row
stays-self row = record { slot = refl; kind = refl; start = refl; size = refl; attrs = refl; name = λ _. refl; id = λ _. refl }

pub all_stay-self : (rows : List Row) → AllStay rows rows
all_stay-self [] = tt
all_stay-self (row ∷ rows) = (stays-self row, all_stay-self rows)

pub all_stay-label : (before rows : List Row) (place : ℕ) (label : List ℕ) → AllStay before rows
    → AllStay before (changed (λ row. if slice_index row.name 0 == 0 then record row { name = label } else row) rows place)
unfolding changed
all_stay-label [] [] place label stay = tt
all_stay-label [] (row ∷ rows) place label stay = absurd stay
all_stay-label (old ∷ before) [] place label stay = absurd stay
all_stay-label (old ∷ before) (row ∷ rows) (suc place) label stay = (stay.0, all_stay-label before rows place label stay.1)
all_stay-label (old ∷ before) (row ∷ rows) zero label stay = (by_name (slice_index row.name 0 == 0) refl, stay.1) where
  by_name : (t : Bool) → (slice_index row.name 0 == 0) ≡ t → Stays old (if t then record row { name = label } else row)
  by_name false is = stay.0
  by_name true is = record {
    slot = stay.0.slot;
    kind = stay.0.kind;
    start = stay.0.start;
    size = stay.0.size;
    attrs = stay.0.attrs;
    name = λ some.
        let same : row.name ≡ old.name = stay.0.name some in
        absurd (some (sym (ap (λ (name : List ℕ). slice_index name 0) same) ∙ eqb-true (slice_index row.name 0) 0 is));
    id = stay.0.id;
  }

pub all_stay-given : (before rows : List Row) (place : ℕ) (id : Guid) → waits rows place ≡ true → AllStay before rows
    → AllStay before (given rows place id)
unfolding changed
all_stay-given [] [] place id waited stay = tt
all_stay-given [] (row ∷ rows) place id waited stay = absurd stay
all_stay-given (old ∷ before) [] place id waited stay = absurd stay
all_stay-given (old ∷ before) (row ∷ rows) (suc place) id waited stay = (stay.0, all_stay-given before rows place id waited stay.1)
all_stay-given (old ∷ before) (row ∷ rows) zero id waited stay = (
  record {
    slot = stay.0.slot;
    kind = stay.0.kind;
    start = stay.0.start;
    size = stay.0.size;
    attrs = stay.0.attrs;
    name = stay.0.name;
    id = λ some.
        let same : row.id ≡ old.id = stay.0.id some in
        let zeros : is_zero old.id ≡ true = rw (← same) waited in
        absurd (cc);
  },
  stay.1,
)

pub steps-stay : (before rows : List Row) (place : ℕ) (after : List Row) → Steps rows place after → AllStay before rows → AllStay before after
steps-stay before rows place after (inl same) stay = rw same stay
steps-stay before rows place after (inr (id, g)) stay = rw g.is (all_stay-given before rows place id g.waited stay)
