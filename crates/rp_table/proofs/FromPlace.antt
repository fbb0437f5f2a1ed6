-- Searches over the rows from a place on.
use Rattle.std.proofs.Common.{◌≡◌, ℕ, ◌+◌, ◌<◌, ◌≤◌, List, ◌∷◌, length, get_or, drop, Option, Some, None, refl, sym, ap, ◌∙◌, add-one, drop-cons}
use Rattle.std.specs.Prelude.{not, ◌&&◌, nat_le, find, option_map}
use Rattle.std.specs.Option.{option_or}
use Rattle.std.proofs.lemmas.List.{drop_all}
use Rattle.rp_base.specs.declared.table.Row.{Row}
use Rattle.rp_base.specs.declared.table.Table.{Table}
use Rattle.rp_gpt.specs.Shown.{row_outside, share_unit, overlap}

-- the element at a place, and those behind it
drop_at : {X : Type 0} (xs : List X) (i : ℕ) (d : X) → i < length xs → drop i xs ≡ get_or xs i d ∷ drop (i + 1) xs
drop_at xs i d h = drop-cons xs i d h ∙ ap (λ n. get_or xs i d ∷ drop n xs) (sym (add-one i))

-- the first row outside, from a place on
abbrev pub outside_from : Table → ℕ → Option Row
outside_from table i = find (λ row. not (nat_le table.first row.start && nat_le (row.start + row.size) (table.last + 1))) (drop i table.rows)

pub outside_from-zero : (table : Table) → row_outside table ≡ outside_from table 0
unfolding row_outside
outside_from-zero table = refl

-- a row that shares no sector with a later one is passed over, one that does is found
module _ (rows : List Row) (i : ℕ) (d : Row) (inside : i < length rows) where
  pub overlap_past : option_map (λ other. other.slot) (find (share_unit (get_or rows i d)) (drop (i + 1) rows)) ≡ None → overlap (drop i rows) ≡ overlap (drop (i + 1) rows)
  unfolding overlap
  overlap_past none = rw (drop_at rows i d inside) (without _ _ none)
    where
      without : (o : Option Row) (rest : Option (Row × Row)) → option_map (λ other. other.slot) o ≡ None → option_or (option_map (λ later. (get_or rows i d, later)) o) rest ≡ rest
      without None rest none = refl
      without (Some later) rest none = cc

  pub overlap_here : (slot : ℕ) → option_map (λ other. other.slot) (find (share_unit (get_or rows i d)) (drop (i + 1) rows)) ≡ Some slot
      → option_map {U = ℕ × ℕ} (λ pair. (pair.0.slot, pair.1.slot)) (overlap (drop i rows)) ≡ Some ((get_or rows i d).slot, slot)
  unfolding overlap
  overlap_here slot some = rw (drop_at rows i d inside) (found _ _ some)
    where
      found : (o : Option Row) (rest : Option (Row × Row)) → option_map (λ other. other.slot) o ≡ Some slot
          → option_map {U = ℕ × ℕ} (λ pair. (pair.0.slot, pair.1.slot)) (option_or (option_map (λ later. (get_or rows i d, later)) o) rest) ≡ Some ((get_or rows i d).slot, slot)
      found None rest some = cc
      found (Some later) rest some = let same : later.slot ≡ slot = cc in rw same refl

pub overlap_end : (rows : List Row) (i : ℕ) → length rows ≤ i → overlap (drop i rows) ≡ None
unfolding overlap
overlap_end rows i past = rw (drop_all i rows past) refl
