-- What the extents of a laid out table's rows keep.
use Rattle.std.proofs.Common.{◌≡◌, ◌≢◌, ◌==◌, ℕ, ◌<◌, ◌≤◌, ◌^◌, Bool, false, List, [], length, get_or, Option, Some, None, IfSome, All, AllPairs, arith, refl, ap, sym, ◌∙◌, inl, inr, position}
use Rattle.std.specs.Option.{option_map_or}
use Rattle.std.proofs.lemmas.List.Quantifiers.{position-Some}
use Rattle.rp_base.specs.declared.table.Row.{Row}
use Rattle.rp_base.specs.declared.table.Table.{Table}
use Rattle.rp_base.specs.declared.want.Want.{Want}
use Rattle.rp_areas.specs.declared.extents.Extent.{Extent}
use Rattle.rp_base.specs.Table.{IsLaidOut}
use Rattle.rp_areas.specs.Areas.{by_start, extent_of, extents_of, file_of}
use Rattle.rp_areas.specs.Extents.{IsBounded}
use Rattle.rp_areas.proofs.Order.{All-by_start}
use Rattle.rp_areas.proofs.Places.{get_or-map-enumerate, length-map-enumerate}

abbrev pub no_row : Row
no_row = record { slot = 0; kind = record { 0 = [] }; id = record { 0 = [] }; start = 0; size = 0; attrs = 0; name = [] }

-- what holds of each row's extent holds of each extent
pub All-extents : (P : Extent → Type 0) (rows : List Row) (matched : List (Option ℕ))
    → ((i : ℕ) → i < length rows → P (extent_of matched (i, get_or rows i no_row))) → All P (extents_of rows matched)
All-extents P rows matched each k d below =
    let l : k < length rows = omega (arith, below, length-map-enumerate (extent_of matched) rows) in
    let e : get_or (extents_of rows matched) k d ≡ extent_of matched (k, get_or rows k no_row) = get_or-map-enumerate (extent_of matched)
    rows k no_row d l in
    rw e (each k l)

below_position : (p : Option ℕ → Bool) (matched : List (Option ℕ)) (n : ℕ) → length matched ≡ n → (o : Option ℕ) → position p matched ≡ o
    → IfSome o (λ j. j < n)
below_position p matched n same None is = tt
below_position p matched n same (Some j) is = omega (arith, same, (position-Some p matched j None is).0)

pub bounded : (table : Table) (last : ℕ) (matched : List (Option ℕ)) (wants : List Want) → IsLaidOut table → last < 2 ^ 35
    → table.last ≤ last → length matched ≡ length wants
    → All (IsBounded wants) (by_start (extents_of table.rows matched))
bounded table last matched wants laid small within same =
    All-by_start (IsBounded wants) (extents_of table.rows matched) (All-extents (IsBounded wants) table.rows matched (λ i below.
    record {
      ends = omega (arith, (laid.in_bounds i no_row below).1, small, within);
      file = below_position
          (λ m. option_map_or (λ p. p == i) m false) matched (length wants) same (file_of matched i) refl;
    }))

pub distinct : (table : Table) (matched : List (Option ℕ)) → IsLaidOut table
    → AllPairs (λ (a b : Extent). a.start ≢ b.start) (extents_of table.rows matched)
distinct table matched laid i j d before below same =
    let lj : j < length table.rows = omega (arith, below, length-map-enumerate (extent_of matched) table.rows) in
    let li : i < length table.rows = omega arith in
    let ei : get_or (extents_of table.rows matched) i d ≡ extent_of matched (i, get_or table.rows i no_row) = get_or-map-enumerate
    (extent_of matched) table.rows i no_row d li in
    let ej : get_or (extents_of table.rows matched) j d ≡ extent_of matched (j, get_or table.rows j no_row) = get_or-map-enumerate
    (extent_of matched) table.rows j no_row d lj in
    let starts : (get_or table.rows i no_row).start ≡ (get_or table.rows j no_row).start = sym (ap (λ (e : Extent). e.start) ei) ∙ same
    ∙ ap (λ (e : Extent). e.start) ej in
    elim (laid.apart i j no_row before lj) [
      | inl h ↦ absurd (omega (arith, h, starts, laid.sized i no_row li))
      | inr h ↦ absurd (omega (arith, h, starts, laid.sized j no_row lj))
    ]
