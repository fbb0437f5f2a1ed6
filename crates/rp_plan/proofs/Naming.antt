-- Naming changes names and identifiers alone.
use Rattle.std.proofs.Common.{◌≡◌, ◌∙◌, ℕ, zero, suc, Bool, true, false, cond, List, [], ◌∷◌, length, map, Option, Some, None, Result, Ok, Err, refl, ap, sym}
use Rattle.std.specs.Prelude.{◌==◌, fold, slice_index}
use Rattle.std.proofs.lemmas.List.{length-map}
use Rattle.std.specs.Option.{option_and_then}
use Rattle.rp_base.specs.declared.guid.Guid.{Guid}
use Rattle.rp_base.specs.declared.table.Row.{Row}
use Rattle.rp_base.specs.declared.table.Table.{Table}
use Rattle.rp_ident.specs.declared.fault.IdentFault.{IdentFault}
use Rattle.rp_ident.specs.declared.fault.IdentFault.TheVariants.{TakenIdentifier}
use Rattle.rp_ident.specs.declared.naming.Naming.{Naming}
use Rattle.rp_ident.specs.Naming.{changed, derived_one, derived_to, disk_id, first_unused, fixed_one, fixed_to, given, in_turn, kind_of, labeled, named, rows_named, then_with, waits}

-- a row without name and identifier
abbrev pub bare : Row → Row
bare row = record row { id = record { 0 = [] }; name = [] }

abbrev SameBare : List Row → List Row → Type 0
SameBare rows after = map bare after ≡ map bare rows

bare_changed : (f : Row → Row) → ((row : Row) → bare (f row) ≡ bare row) → (rows : List Row) (place : ℕ) → SameBare rows (changed f rows place)
unfolding changed
bare_changed f same [] place = refl
bare_changed f same (row ∷ rows) zero = ap (λ r. r ∷ map bare rows) (same row)
bare_changed f same (row ∷ rows) (suc place) = ap (λ rs. bare row ∷ rs) (bare_changed f same rows place)

label_or : (b : Bool) (row : Row) (label : List ℕ) → bare (cond b (record row { name = label }) row) ≡ bare row
label_or true row label = refl
label_or false row label = refl

bare_labeled : (rows : List Row) (naming : Naming) → SameBare rows (labeled rows naming)
bare_labeled rows naming = bare_changed (λ row. cond (slice_index row.name 0 == 0) (record row { name = naming.label }) row)
    (λ row. label_or (slice_index row.name 0 == 0) row naming.label) rows naming.row

bare_labels : (namings : List Naming) (rows : List Row) → SameBare rows (fold labeled rows namings)
bare_labels [] rows = refl
bare_labels (naming ∷ namings) rows = bare_labels namings (labeled rows naming) ∙ bare_labeled rows naming

bare_given : (rows : List Row) (place : ℕ) (id : Guid) → SameBare rows (given rows place id)
bare_given rows place id = bare_changed (λ row. record row { id = id }) (λ row. refl) rows place

-- an answer that is rows has the same
abbrev Keeps : List Row → Result (List Row) IdentFault → Type 0
Keeps rows (Ok after) = SameBare rows after
Keeps rows (Err fault) = Unit {0}

fixed_by : (b : Bool) (rows : List Row) (naming : Naming) (id : Guid) → Keeps rows (cond b (Err (TakenIdentifier naming.file)) (Ok (given rows naming.row id)))
fixed_by true rows naming id = tt
fixed_by false rows naming id = bare_given rows naming.row id

keeps_fixed : (rows : List Row) (naming : Naming) (fixed : Option Guid) → Keeps rows (fixed_to rows naming fixed)
keeps_fixed rows naming None = refl
keeps_fixed rows naming (Some id) = fixed_by _ rows naming id

either : (b : Bool) (rows : List Row) (r : Result (List Row) IdentFault) → Keeps rows r → Keeps rows (cond b r (Ok rows))
either true rows r is = is
either false rows r is = refl

keeps_fixed_one : (rows : List Row) (naming : Naming) → Keeps rows (fixed_one rows naming)
keeps_fixed_one rows naming = either (waits rows naming.row) rows (fixed_to rows naming naming.fixed) (keeps_fixed rows naming naming.fixed)

keeps_derived : (rows : List Row) (naming : Naming) (id : Option Guid) → Keeps rows (derived_to rows naming id)
keeps_derived rows naming None = tt
keeps_derived rows naming (Some id) = bare_given rows naming.row id

keeps_derived_one : (seed : Guid) (rows : List Row) (naming : Naming) → Keeps rows (derived_one seed rows naming)
keeps_derived_one seed rows naming = either (waits rows naming.row) rows
    (derived_to rows naming (option_and_then (first_unused seed rows) (kind_of rows naming.row)))
    (keeps_derived rows naming (option_and_then (first_unused seed rows) (kind_of rows naming.row)))

keeps_after : (rows mid : List Row) (r : Result (List Row) IdentFault) → SameBare rows mid → Keeps mid r → Keeps rows r
keeps_after rows mid (Ok after) same is = is ∙ same
keeps_after rows mid (Err fault) same is = tt

keeps_then : (rows : List Row) (r : Result (List Row) IdentFault) (next : List Row → Result (List Row) IdentFault) → Keeps rows r
    → ((mid : List Row) → Keeps mid (next mid)) → Keeps rows (then_with r next)
keeps_then rows (Ok mid) next is each = keeps_after rows mid (next mid) is (each mid)
keeps_then rows (Err fault) next is each = tt

keeps_turns : (step : List Row → Naming → Result (List Row) IdentFault) → ((rows : List Row) (naming : Naming) → Keeps rows (step rows naming))
    → (namings : List Naming) (rows : List Row) → Keeps rows (in_turn step rows namings)
unfolding in_turn
keeps_turns step each [] rows = refl
keeps_turns step each (naming ∷ namings) rows = keeps_then rows (step rows naming) (λ after. in_turn step after namings) (each rows naming)
    (keeps_turns step each namings)

keeps_rows : (rows : List Row) (namings : List Naming) (seed : Guid) → Keeps rows (rows_named rows namings seed)
unfolding rows_named
keeps_rows rows namings seed = keeps_after rows (fold labeled rows namings)
    (then_with (in_turn fixed_one (fold labeled rows namings) namings) (λ fixed. in_turn (derived_one seed) fixed namings))
    (bare_labels namings rows)
    (keeps_then (fold labeled rows namings) (in_turn fixed_one (fold labeled rows namings) namings)
    (λ fixed. in_turn (derived_one seed) fixed namings)
    (keeps_turns fixed_one keeps_fixed_one namings (fold labeled rows namings))
    (keeps_turns (derived_one seed) (keeps_derived_one seed) namings))

-- what naming leaves of a table
pub record IsNamed (table after : Table) : Type 0 where
  pub sector : after.sector ≡ table.sector
  pub entries : after.entries ≡ table.entries
  pub first : after.first ≡ table.first
  pub last : after.last ≡ table.last
  pub rows : map bare after.rows ≡ map bare table.rows

named_as : (table after : Table) (seed : Guid) (r : Result (List Row) IdentFault) → Keeps table.rows r
    → then_with r (λ rows. Ok (record table { disk = disk_id seed table.disk; rows = rows })) ≡ Ok after → IsNamed table after
named_as table after seed (Ok rows) is same =
    let e : record table { disk = disk_id seed table.disk; rows = rows } ≡ after = cc in record {
      sector = ap (λ (t : Table). t.sector) (sym e);
      entries = ap (λ (t : Table). t.entries) (sym e);
      first = ap (λ (t : Table). t.first) (sym e);
      last = ap (λ (t : Table). t.last) (sym e);
      rows = ap (λ (t : Table). map bare t.rows) (sym e) ∙ is;
    }
named_as table after seed (Err fault) is same = absurd (cc)

pub named_is : (table after : Table) (namings : List Naming) (seed : Guid) → named table namings seed ≡ Ok after → IsNamed table after
unfolding named
named_is table after namings seed is = named_as table after seed (rows_named table.rows namings seed) (keeps_rows table.rows namings seed) is

pub named_length : (table after : Table) (namings : List Naming) (seed : Guid) → named table namings seed ≡ Ok after
    → length after.rows ≡ length table.rows
named_length table after namings seed is =
    sym (length-map after.rows bare) ∙ ap length (named_is table after namings seed is).rows ∙ length-map table.rows bare
