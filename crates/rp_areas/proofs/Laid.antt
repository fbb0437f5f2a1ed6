-- What the areas of a laid out table keep, by its rows, as laws of the definition.
use Rattle.std.proofs.Common.{◌≢◌, MatchOption, Result, Ok, Err, IsOk, subst, ◌≡◌, ◌==◌, ℕ, ◌+◌, ◌<◌, ◌≤◌, true, false, List, [], ◌∷◌, length, get_or, slice_get, fold, Option, Some, None, IfSome, All, AllPairs, arith, refl, sym, ap, ◌∙◌, ltb}
use Rattle.std.specs.Option.{option_map_or}
use Rattle.std.proofs.lemmas.Bool.{cond_both, eqb-true, false≢true}
use Rattle.std.proofs.lemmas.List.Elements.{All-cons, All-head, All-nil, All-tail}
use Rattle.std.proofs.lemmas.List.Quantifiers.{position-Some}
use Rattle.std.proofs.lemmas.Option.{get_or_from_slice_get, slice_get_within}
use Rattle.rp_base.specs.declared.table.Row.{Row}
use Rattle.rp_base.specs.declared.table.Table.{Table}
use Rattle.rp_base.specs.declared.want.Want.{Want}
use Rattle.rp_areas.specs.declared.behind.Refusal.{Refusal}
use Rattle.rp_areas.specs.declared.extents.Extent.{Extent}
use Rattle.rp_areas.specs.declared.gaps.Area.{Area}
use Rattle.rp_areas.specs.declared.gaps.AreaFault.{AreaFault}
use Rattle.rp_areas.specs.declared.gaps.AreaFault.TheVariants.{Existing}
use Rattle.rp_base.specs.Table.{IsLaidOut}
use Rattle.rp_areas.specs.Areas.{area_before, areas_behind, areas_of, by_start, extent_of, extents_of, file_of, insert_extent, least_refusal, refusals_of}
use Rattle.rp_areas.specs.Facts.{IsAnchor, IsAnchored, IsClear, IsWithin}
use Rattle.rp_areas.proofs.Chain.{IsApart, IsChained, IsChained-by_start, IsSized}
use Rattle.rp_areas.proofs.Clear.{Comes, Misses, anchored_all, clear_all, used_all, within_all}
use Rattle.rp_areas.proofs.Facts.{EndsBefore, apart_all}
use Rattle.rp_areas.proofs.Order.{All-by_start}
use Rattle.rp_areas.proofs.Places.{get_or-map-enumerate, length-map-enumerate, read_at}
use Rattle.rp_areas.proofs.Rows.{All-extents, no_row}

length-insert : (x : Extent) (es : List Extent) → length (insert_extent x es) ≡ length es + 1
length-insert x [] = refl
length-insert x (e ∷ es) = cond_both (ltb x.start e.start) (x ∷ e ∷ es) (e ∷ insert_extent x es) (λ ys. length ys ≡ length (e ∷ es) + 1)
    (λ _. omega arith) (λ _. omega (arith, length-insert x es))

length-insert_each : (sorted es : List Extent) → length (fold (λ s e. insert_extent e s) sorted es) ≡ length sorted + length es
length-insert_each sorted [] = omega arith
length-insert_each sorted (e ∷ es) = omega (arith, length-insert_each (insert_extent e sorted) es, length-insert e sorted)

length-areas_behind : (last : ℕ) (wants : List Want) (es : List Extent) → length (areas_behind last wants es) ≡ length es
length-areas_behind last wants [] = refl
length-areas_behind last wants (e ∷ es) = omega (arith, length-areas_behind last wants es)

-- the extents of a table's rows by rising start
abbrev pub ordered : Table → List (Option ℕ) → List Extent
ordered table matched = by_start (extents_of table.rows matched)

-- the areas that these give
abbrev pub between : Table → ℕ → List (Option ℕ) → List Want → List Area
between table last matched wants = area_before table.first last (ordered table matched) ∷ areas_behind last wants (ordered table matched)

pub count : (table : Table) (last : ℕ) (matched : List (Option ℕ)) (wants : List Want)
    → length (between table last matched wants) ≡ length table.rows + 1
count table last matched wants = omega (
  arith,
  length-areas_behind last wants (ordered table matched),
  length-insert_each []
      (extents_of table.rows matched),
  length-map-enumerate (extent_of matched) table.rows,
)

pub sized : (table : Table) (matched : List (Option ℕ)) → IsLaidOut table → All IsSized (extents_of table.rows matched)
sized table matched laid = All-extents IsSized table.rows matched (λ i below. laid.sized i no_row below)

pub apart : (table : Table) (matched : List (Option ℕ)) → IsLaidOut table → AllPairs IsApart (extents_of table.rows matched)
apart table matched laid i j d before below =
    let lj : j < length table.rows = omega (arith, below, length-map-enumerate (extent_of matched) table.rows) in
    let li : i < length table.rows = omega arith in
    let ei : get_or (extents_of table.rows matched) i d ≡ extent_of matched (i, get_or table.rows i no_row) = get_or-map-enumerate
    (extent_of matched) table.rows i no_row d li in
    let ej : get_or (extents_of table.rows matched) j d ≡ extent_of matched (j, get_or table.rows j no_row) = get_or-map-enumerate
    (extent_of matched) table.rows j no_row d lj in
    rw (ei, ej) (laid.apart i j no_row before lj)

pub chained : (table : Table) (matched : List (Option ℕ)) → IsLaidOut table → IsChained (ordered table matched)
chained table matched laid = IsChained-by_start (extents_of table.rows matched) (sized table matched laid) (apart table matched laid)

from_first : (table : Table) (matched : List (Option ℕ)) → IsLaidOut table
    → All (λ (e : Extent). table.first ≤ e.start) (ordered table matched)
from_first table matched laid = All-by_start (λ (e : Extent). table.first ≤ e.start) (extents_of table.rows matched)
    (All-extents (λ (e : Extent). table.first ≤ e.start) table.rows matched (λ i below. (laid.in_bounds i no_row below).0))

to_last : (table : Table) (last : ℕ) (matched : List (Option ℕ)) → IsLaidOut table → table.last ≤ last
    → All (λ (e : Extent). e.start ≤ last + 1) (ordered table matched)
to_last table last matched laid within = All-by_start (λ (e : Extent). e.start ≤ last + 1) (extents_of table.rows matched)
    (All-extents (λ (e : Extent). e.start ≤ last + 1) table.rows matched
    (λ i below. omega (arith, (laid.in_bounds i no_row below).1, within)))

pub all_apart : (table : Table) (last : ℕ) (matched : List (Option ℕ)) (wants : List Want) → IsLaidOut table
    → AllPairs EndsBefore (between table last matched wants)
all_apart table last matched wants laid = apart_all table.first last wants (ordered table matched) (chained table matched laid)
    (from_first table matched laid)

pub all_within : (table : Table) (last : ℕ) (matched : List (Option ℕ)) (wants : List Want) → IsLaidOut table → table.last ≤ last
    → All (IsWithin table.first last) (between table last matched wants)
all_within table last matched wants laid within = within_all table.first last wants (ordered table matched)
    (from_first table matched laid) (to_last table last matched laid within)

-- the definition's row, read from the match
read_match : (m : Option ℕ) (i : ℕ) → option_map_or (λ p. p == i) m false ≡ true → m ≡ Some i
read_match None i h = absurd (false≢true h)
read_match (Some p) i h = ap (λ q. Some q) (eqb-true p i h)

comes_at : (rows : List Row) (matched : List (Option ℕ)) (i : ℕ) → i < length rows → (o : Option ℕ) → file_of matched i ≡ o
    → IfSome o (λ file. (place : ℕ) × (row : Row) × (slice_get matched file ≡ Some (Some place)) × (slice_get rows place ≡ Some
    row) × (row.start ≡ (get_or rows i no_row).start) × (row.size ≡ (get_or rows i no_row).size))
comes_at rows matched i below None is = tt
comes_at rows matched i below (Some file) is =
    let found = position-Some (λ m. option_map_or (λ p. p == i) m false) matched file None is in (
      i,
      get_or rows i no_row,
      read_at matched file None (Some i) found.0 (read_match (get_or matched file None) i found.1),
      read_at rows
          i no_row (get_or rows i no_row) below refl,
      refl,
      refl,
    )

pub all_anchored : (table : Table) (last : ℕ) (matched : List (Option ℕ)) (wants : List Want)
    → All (IsAnchored table.rows matched wants) (between table last matched wants)
all_anchored table last matched wants = anchored_all table.rows matched table.first last wants (ordered table matched)
    (All-by_start (Comes table.rows matched) (extents_of table.rows matched)
    (All-extents (Comes table.rows matched) table.rows matched (λ i below. comes_at table.rows matched i below (file_of matched i) refl)))

-- what holds of each extent in order holds of each
from_insert : (P : Extent → Type 0) (x : Extent) (es : List Extent) → All P (insert_extent x es) → P x × All P es
from_insert P x [] each = (All-head P x [] each, All-nil P)
from_insert P x (e ∷ es) each = cond_both (ltb x.start e.start) (x ∷ e ∷ es) (e ∷ insert_extent x es)
    (λ ys. All P ys → P x × All P (e ∷ es))
    (λ _ all. (All-head P x (e ∷ es) all, All-tail P x (e ∷ es) all))
    (λ _ all. let rest = from_insert P x es (All-tail P e (insert_extent x es) all) in
    (rest.0, All-cons P e es (All-head P e (insert_extent x es) all) rest.1))
    each

from_insert_each : (P : Extent → Type 0) (sorted es : List Extent) → All P (fold (λ s e. insert_extent e s) sorted es)
    → All P sorted × All P es
from_insert_each P sorted [] each = (each, All-nil P)
from_insert_each P sorted (e ∷ es) each =
    let rest = from_insert_each P (insert_extent e sorted) es each in
    let here = from_insert P e sorted rest.0 in
    (here.1, All-cons P e es here.0 rest.1)

-- what holds of each in order holds of each
pub from_by_start : (P : Extent → Type 0) (es : List Extent) → All P (by_start es) → All P es
from_by_start P es each = (from_insert_each P [] es each).1

rows_clear : (rows : List Row) (matched : List (Option ℕ)) (area : Area) → All (Misses area) (extents_of rows matched)
    → All (IsClear area) rows
rows_clear rows matched area each k d below =
    let e : get_or (extents_of rows matched) k (extent_of matched (k, d)) ≡ extent_of matched (k, get_or rows k d) = get_or-map-enumerate
    (extent_of matched) rows k d (extent_of matched (k, d)) below in
    rw e at (each k (extent_of matched (k, d)) (omega (arith, below, length-map-enumerate (extent_of matched) rows)))

pub all_clear : (table : Table) (last : ℕ) (matched : List (Option ℕ)) (wants : List Want) → IsLaidOut table
    → All (λ (a : Area). 0 < a.span → All (IsClear a) table.rows) (between table last matched wants)
all_clear table last matched wants laid k d below some =
    rows_clear table.rows matched (get_or (between table last matched wants) k d)
    (from_insert_each (Misses (get_or (between table last matched wants) k d)) [] (extents_of table.rows matched)
    (clear_all table.first last wants (ordered table matched) (chained table matched laid) k d below some)).1

-- what is answered are the areas between, and then none was refused
answered : (o : Option Refusal) (ys areas : List Area) → option_map_or (λ r. Err (Existing r.file r.need r.have)) o (Ok ys) ≡ Ok areas
    → (o ≡ None) × (ys ≡ areas)
answered None ys areas is = let e : ◌≡◌ {A = Result (List Area) AreaFault} (Ok ys) (Ok areas) = is in (refl, cc)
answered (Some r) ys areas is = absurd (let e : ◌≡◌ {A = Result (List Area) AreaFault} (Err (Existing r.file r.need r.have)) (Ok areas) =
    is in cc)

refused_none : (o : Option Refusal) (ys : List Area) → IsOk (option_map_or (λ r. Err (Existing r.file r.need r.have)) o (Ok ys)) → o ≡ None
refused_none None ys is = refl
refused_none (Some r) ys is = absurd (false≢true is)

-- where nothing is refused the answer is the areas between
pub answer_is : (table : Table) (last : ℕ) (matched : List (Option ℕ)) (wants : List Want) (areas : List Area)
    → least_refusal (refusals_of last wants (ordered table matched)) ≡ None → areas ≡ between table last matched wants
    → areas_of table last matched wants ≡ Ok areas
answer_is table last matched wants areas none are =
    ap (λ (o : Option Refusal). option_map_or (λ r. Err (Existing r.file r.need r.have)) o (Ok (between table last matched wants))) none
    ∙ ap (λ (ys : List Area). Ok ys) (sym are)

pub least_none : (table : Table) (last : ℕ) (matched : List (Option ℕ)) (wants : List Want) → IsOk (areas_of table last matched wants)
    → least_refusal (refusals_of last wants (ordered table matched)) ≡ None
least_none table last matched wants is = refused_none (least_refusal (refusals_of last wants (ordered table matched)))
    (between table last matched wants) is

-- two areas with one anchor would begin with one row, and the first would have no grain for it
differ : (rows : List Row) (matched : List (Option ℕ)) (wants : List Want) (a b : Area) → All (λ (row : Row). 1 ≤ row.size) rows
    → EndsBefore a b → a.used ≤ a.span
    → (o p : Option ℕ) → MatchOption o (a.used ≡ 0) (IsAnchor rows matched wants a)
    → MatchOption p (b.used ≡ 0) (IsAnchor rows matched wants b) → IfSome o (λ file. p ≢ Some file)
differ rows matched wants a b sized apart fits None p one other = tt
differ rows matched wants a b sized apart fits (Some file) None one other = λ same. (let e : None ≡ Some file = same in cc)
differ rows matched wants a b sized apart fits (Some file) (Some also) one other = λ same. (
    let files : also ≡ file = let e : Some also ≡ Some file = same in cc in
    let has : slice_get matched file ≡ Some (Some other.place) = subst (λ (f : ℕ). slice_get matched f ≡ Some (Some other.place)) files
    other.has in
    let places : Some (Some one.place) ≡ Some (Some other.place) = sym one.has ∙ has in
    let place : one.place ≡ other.place = cc in
    let found : Some one.row ≡ Some other.row = sym one.found ∙ ap (slice_get rows) place ∙ other.found in
    let row : one.row ≡ other.row = cc in
    let start : one.row.start ≡ other.row.start = ap (λ (r : Row). r.start) row in
    let some : 1 ≤ one.row.size = subst (λ (r : Row). 1 ≤ r.size) (get_or_from_slice_get rows one.place one.row no_row one.found)
    (sized one.place no_row (slice_get_within rows one.place one.row one.found)) in
    omega (arith, start, one.begins, other.begins, one.uses, some, apart, fits))

module _ (table : Table) (last : ℕ) (matched : List (Option ℕ)) (wants : List Want) (areas : List Area)
    (is : areas_of table last matched wants ≡ Ok areas) where
  none : least_refusal (refusals_of last wants (ordered table matched)) ≡ None
  none = (answered (least_refusal (refusals_of last wants (ordered table matched))) (between table last matched wants) areas is).0

  are : between table last matched wants ≡ areas
  are = (answered (least_refusal (refusals_of last wants (ordered table matched))) (between table last matched wants) areas is).1

  pub areas_count : length areas ≡ length table.rows + 1
  areas_count = subst (λ (ys : List Area). length ys ≡ length table.rows + 1) are (count table last matched wants)

  pub areas_apart : IsLaidOut table → AllPairs EndsBefore areas
  areas_apart laid = subst (AllPairs EndsBefore) are (all_apart table last matched wants laid)

  pub areas_within : IsLaidOut table → table.last ≤ last → All (IsWithin table.first last) areas
  areas_within laid within = subst (All (IsWithin table.first last)) are (all_within table last matched wants laid within)

  pub areas_anchored : All (IsAnchored table.rows matched wants) areas
  areas_anchored = subst (All (IsAnchored table.rows matched wants)) are (all_anchored table last matched wants)

  pub areas_used : All (λ (a : Area). a.used ≤ a.span) areas
  areas_used = subst (All (λ (a : Area). a.used ≤ a.span)) are (used_all table.first last wants (ordered table matched) none)

  pub areas_clear : IsLaidOut table → All (λ (a : Area). 0 < a.span → All (IsClear a) table.rows) areas
  areas_clear laid = subst (All (λ (a : Area). 0 < a.span → All (IsClear a) table.rows)) are (all_clear table last matched wants laid)

  -- a definition's row is the anchor of one area at most
  pub anchors_differ : IsLaidOut table → AllPairs (λ (a b : Area). IfSome a.anchor (λ file. b.anchor ≢ Some file)) areas
  anchors_differ laid i j d before below =
      let a : Area = get_or areas i d in
      let b : Area = get_or areas j d in
      let within : i < length areas = omega (arith, before, below) in
      differ table.rows matched wants a b laid.sized (areas_apart laid i j d before below) (areas_used i d within) a.anchor b.anchor
      (areas_anchored i d within) (areas_anchored j d below)
