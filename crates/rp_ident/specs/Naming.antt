-- Names and identifiers of rows (own; identifiers are derived as `rp_hmac.specs.Derived` says).
use Rattle.std.specs.Prelude.{ℕ, zero, suc, Bool, false, ◌==◌, ◌||◌, not, List, [], ◌∷◌, Option, Some, None, Result, Ok, Err, codes, find, fold, map, replicate, slice_get, slice_index, option_and_then, option_map, unwrap_or, if◌then◌else◌}
use Rattle.std.specs.List.{list_any, range_with_len}
use Rattle.std.specs.Str.{bytes_eq}
use Rattle.rp_base.specs.declared.guid.Guid.{Guid}
use Rattle.rp_base.specs.declared.table.Row.{Row}
use Rattle.rp_base.specs.declared.table.Table.{Table}
use Rattle.rp_hmac.specs.Derived.{derived}
use Rattle.rp_ident.specs.declared.naming.Naming.{Naming}
use Rattle.rp_ident.specs.declared.fault.IdentFault.{IdentFault}
use Rattle.rp_ident.specs.declared.fault.IdentFault.TheVariants.{TakenIdentifier, NoIdentifier}

-- two identifiers are the same
abbrev pub same_id : Guid → Guid → Bool
same_id a b = bytes_eq a.0 b.0

-- an identifier that isn't there
abbrev pub is_zero : Guid → Bool
is_zero id = bytes_eq id.0 (replicate 16 0)

-- an identifier that some row has
abbrev pub is_used : List Row → Guid → Bool
is_used rows id = list_any (λ row. same_id row.id id) rows

-- the rows with the one at a place changed
unfoldable pub changed : (Row → Row) → List Row → ℕ → List Row
changed f [] place = []
changed f (row ∷ rows) zero = f row ∷ rows
changed f (row ∷ rows) (suc place) = row ∷ changed f rows place

-- whether the row at a place has no identifier
abbrev pub waits : List Row → ℕ → Bool
waits rows place = unwrap_or (option_map (λ row. is_zero row.id) (slice_get rows place)) false

-- a row without a name, whose first unit is zero, gets the label
abbrev pub labeled : List Row → Naming → List Row
labeled rows naming =
    changed (λ row. if slice_index row.name 0 == 0 then record row { name = naming.label } else row) rows naming.row

-- the row at a place gets an identifier
abbrev pub given : List Row → ℕ → Guid → List Row
given rows place id = changed (λ row. record row { id = id }) rows place

-- what a row without an identifier gets of a fixed one: it must not be zero or some row's
abbrev pub fixed_to : List Row → Naming → Option Guid → Result (List Row) IdentFault
fixed_to rows naming None = Ok rows
fixed_to rows naming (Some id) =
    if is_zero id || is_used rows id then Err (TakenIdentifier naming.file) else Ok (given rows naming.row id)

-- a row without an identifier gets the fixed one, if there is one
abbrev pub fixed_one : List Row → Naming → Result (List Row) IdentFault
fixed_one rows naming = if waits rows naming.row then fixed_to rows naming naming.fixed else Ok rows

-- the type of the row at a place
abbrev pub kind_of : List Row → ℕ → Option Guid
kind_of rows place = option_map (λ row. row.kind) (slice_get rows place)

-- the first identifier derived for a type, with the numbers 0 to 255, that no row has
unfoldable pub first_unused : Guid → List Row → Guid → Option Guid
first_unused seed rows kind = find (λ id. not (is_used rows id)) (map (derived seed kind.0) (range_with_len 0 256))

-- what a row without an identifier gets of the first unused one
abbrev pub derived_to : List Row → Naming → Option Guid → Result (List Row) IdentFault
derived_to rows naming None = Err (NoIdentifier naming.file)
derived_to rows naming (Some id) = Ok (given rows naming.row id)

-- a row without an identifier gets the first one derived for its type that no row has
abbrev pub derived_one : Guid → List Row → Naming → Result (List Row) IdentFault
derived_one seed rows naming =
    if waits rows naming.row
    then derived_to rows naming (option_and_then (first_unused seed rows) (kind_of rows naming.row))
    else Ok rows

-- a step that can fail, then what follows it
abbrev pub then_with : {A B : Type 0} → Result A IdentFault → (A → Result B IdentFault) → Result B IdentFault
then_with (Ok a) next = next a
then_with (Err fault) next = Err fault

-- what a step answered, with the rows that it left
abbrev pub leaves : {A : Type 0} → Result A IdentFault → List Row → Result (List Row) IdentFault
leaves (Ok done) rows = Ok rows
leaves (Err fault) rows = Err fault

-- a step for one naming after another, up to the first fault
unfoldable pub in_turn : (List Row → Naming → Result (List Row) IdentFault) → List Row → List Naming → Result (List Row) IdentFault
in_turn step rows [] = Ok rows
in_turn step rows (naming ∷ namings) = then_with (step rows naming) (λ after. in_turn step after namings)

-- the disk's identifier, derived where there is none
abbrev pub disk_id : Guid → Guid → Guid
disk_id seed disk = if is_zero disk then derived seed (codes "disk-uuid") 0 else disk

-- the rows with labels, then fixed identifiers in order, then derived ones in order
unfoldable pub rows_named : List Row → List Naming → Guid → Result (List Row) IdentFault
rows_named rows namings seed =
    then_with (in_turn fixed_one (fold labeled rows namings) namings) (λ fixed. in_turn (derived_one seed) fixed namings)

-- the table with a disk identifier and its rows named
unfoldable pub named : Table → List Naming → Guid → Result Table IdentFault
named table namings seed =
    then_with (rows_named table.rows namings seed) (λ rows. Ok (record table { disk = disk_id seed table.disk; rows = rows }))
