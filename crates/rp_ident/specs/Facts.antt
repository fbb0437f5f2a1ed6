-- What holds of rows that were named.
use Rattle.std.specs.Prelude.{ℕ, ◌≡◌, ◌≢◌, ◌<◌, true, false, List, [], ◌∷◌, IfSome, ⊤, length, slice_get, slice_index, slice_index_or}
use Rattle.rp_base.specs.declared.table.Row.{Row}
use Rattle.rp_ident.specs.declared.naming.Naming.{Naming}
use Rattle.rp_ident.specs.Naming.{is_zero, same_id}

-- a row has a name, its first unit not being zero, and an identifier
pub record IsNamed (row : Row) : Type 0 where
  pub name : slice_index row.name 0 ≢ 0
  pub id : is_zero row.id ≡ false

-- the row of a naming has both
abbrev pub IsDone : List Row → Naming → Type 0
IsDone rows naming = IfSome (slice_get rows naming.row) IsNamed

-- a row is as it was, but for a name or an identifier that it had not
pub record Stays (before after : Row) : Type 0 where
  pub slot : after.slot ≡ before.slot
  pub kind : after.kind ≡ before.kind
  pub start : after.start ≡ before.start
  pub size : after.size ≡ before.size
  pub attrs : after.attrs ≡ before.attrs
  pub name : slice_index before.name 0 ≢ 0 → after.name ≡ before.name
  pub id : is_zero before.id ≡ false → after.id ≡ before.id

-- each row is as it was, but for that
abbrev pub AllStay : List Row → List Row → Type 0
AllStay [] [] = ⊤
AllStay [] (after ∷ afters) = ⊥
AllStay (before ∷ befores) [] = ⊥
AllStay (before ∷ befores) (after ∷ afters) = Stays before after × AllStay befores afters

-- an identifier that a row has now and had not before is no other row's
abbrev pub AreApart : List Row → List Row → Type 0
AreApart before after =
    (i j : ℕ) (d : Row) → i ≢ j → i < length after → j < length after → is_zero (slice_index_or before i d).id ≡ true
    → is_zero (slice_index_or after i d).id ≡ false → same_id (slice_index_or after j d).id (slice_index_or after i d).id ≡ false
