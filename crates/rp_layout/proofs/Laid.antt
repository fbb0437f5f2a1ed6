-- Where the partitions of all areas lie.
use Rattle.std.proofs.Common.{◌≡◌, ◌≢◌, ◌==◌, ℕ, ◌+◌, ◌*◌, ◌<◌, ◌≤◌, ◌⊎◌, true, List, length, get_or, map, Option, Some, None, MatchOption, All, AllPairs, slice_get, arith, refl, ap, sym, ◌∙◌, subst, inl, inr, zero-add}
use Rattle.std.specs.List.{Contains, enumerate_from, find, flat_map}
use Rattle.std.specs.Option.{option_and_then, option_map, option_map_or}
use Rattle.std.proofs.lemmas.Bool.{cases_order, eqb-true}
use Rattle.std.proofs.lemmas.List.{get_or_default, length-map}
use Rattle.std.proofs.lemmas.List.Elements.{All-contains, All-contains_itself, All-weaker}
use Rattle.std.proofs.lemmas.List.FromFn.{length-enumerate_from}
use Rattle.std.proofs.lemmas.Option.{slice_get-get_or, slice_get-map}
use Rattle.rp_base.specs.declared.table.Row.{Row}
use Rattle.rp_base.specs.declared.table.Table.{Table}
use Rattle.rp_base.specs.declared.want.Want.{Want}
use Rattle.rp_areas.specs.declared.gaps.Area.{Area}
use Rattle.rp_areas.specs.Areas.{grains_up, want_at}
use Rattle.rp_areas.proofs.Public.{anchors_differ, areas_apart}
use Rattle.rp_place.specs.declared.fit.New.{New}
use Rattle.rp_place.specs.declared.threshold.Placed.{Placed}
use Rattle.rp_layout.specs.declared.spot.Spot.{Spot}
use Rattle.rp_layout.specs.Facts.{IsAdded, IsGrown, IsReady, IsSpot}
use Rattle.rp_layout.specs.Layout.{laid, spot_at, spots_from, spots_of, stack_in}
use Rattle.rp_layout.specs.Seats.{files_at, files_in, row_of, units_at}
use Rattle.rp_layout.proofs.Files.{apart_in, rising_in}
use Rattle.rp_layout.proofs.Lists.{All-cons_option, All-enumerated, All-flat_map, AllPairs-cons_option, AllPairs-enumerated, AllPairs-flat_map, AllPairs-unmapped, IfSome-at, IfSome-from, find-Some, flat_map_same, map-flat_map, slice_get-enumerate_from}
use Rattle.rp_layout.proofs.Shared.{Stands, anchor_of, end_here, lie_here, named_here, new_unmatched, not_less, shared_here, some_here, stand_here, units-none, units-some, within}
use Rattle.rp_layout.proofs.Shares.{IsShared}
use Rattle.rp_layout.proofs.Spots.{Ends, Lies}

-- there is an answer for each definition
pub length-answer : (rows : List Row) (matched : List (Option ℕ)) (wants : List Want) (areas : List Area) (news : List New)
    (places : List (Option ℕ)) → length (laid rows matched wants areas news places) ≡ length wants
length-answer rows matched wants areas news places =
    length-map (enumerate_from 0 wants) (λ (e : ℕ × Want). find (λ (spot : Spot). spot.file == e.0)
    (spots_of rows matched wants areas news places))
    ∙ length-enumerate_from 0 wants

-- the partition of a row that was there, and of a new one
grown_of : (want : Want) (row : Row) (s : Spot) → IsShared want row.size s.size s.pad → s.start ≡ row.start → IsGrown want row s
grown_of want row s shared start = record {
  start = start;
  least = not_less row.size s.size shared.least shared.kept;
  whole = elim shared.kept [ inl same ↦ inl same | inr whole ↦ inr (omega (arith, whole)) ];
  most = elim shared.kept [ inl same ↦ inl same | inr whole ↦ inr (omega (arith, whole, shared.most)) ];
}

added_of : (want : Want) (has : ℕ) (s : Spot) → has ≡ 0 → IsShared want has s.size s.pad → IsAdded want s
added_of want has s none shared = elim shared.kept [
  | inl same ↦ record { whole = omega (arith, same, none); most = omega (arith, same, none) }
  | inr whole ↦ record { whole = omega (arith, whole); most = omega (arith, whole, shared.most, none) }
]

module _ (table : Table) (last : ℕ) (matched : List (Option ℕ)) (wants : List Want) (areas : List Area) (news : List New) (kept : Placed)
    (ready : IsReady table last matched wants areas news kept) where
  abbrev own : ℕ → ℕ
  own = units_at table.rows matched

  -- all partitions that lie somewhere
  abbrev pub all_spots : List Spot
  all_spots = spots_of table.rows matched wants areas news kept.areas

  -- where each definition's lies
  abbrev pub answer : List (Option Spot)
  answer = laid table.rows matched wants areas news kept.areas

  abbrev spots_in : ℕ × Area → List Spot
  spots_in e = spots_from e.1.from (stack_in table.rows matched wants news kept.areas e)

  -- what holds of a partition by the area that it lies in
  abbrev pub InArea : Spot → Type 0
  InArea s = (i : ℕ) × (area : Area) × (slice_get areas i ≡ Some area)
      × Lies area.from (area.from + area.span) s
      × IsShared (want_at wants s.file) (own s.file) s.size s.pad
      × Stands own area.anchor area.from (files_in i news kept.areas) s
      × (1 ≤ grains_up s.size)

  pub all_in : All InArea all_spots
  all_in = All-flat_map InArea spots_in (enumerate_from 0 areas) (All-enumerated (λ e. All InArea (spots_in e)) areas
      (λ i area at k d below. (
        i,
        area,
        at,
        lie_here table last matched wants areas news kept ready i area at k d below,
        shared_here table last matched wants areas news kept ready i area at k d below,
        stand_here table last matched wants areas news kept ready i area at k d below,
        some_here table last matched wants areas news kept ready i area at k d below,
      )))

  -- in order of the areas each ends before the next begins
  pub all_end : AllPairs Ends all_spots
  all_end = AllPairs-flat_map Ends spots_in (enumerate_from 0 areas)
      (All-enumerated (λ e. AllPairs Ends (spots_in e)) areas (λ i area at. end_here table last matched wants areas news kept ready i area
      at))
      (AllPairs-enumerated (λ a b. All (λ y. All (Ends y) (spots_in b)) (spots_in a)) areas (λ i j d before below k e inside l g within.
      let a : Area = get_or areas i d in
      let b : Area = get_or areas j d in
      let first = lie_here table last matched wants areas news kept ready i a (slice_get-get_or areas i d (omega (arith, before, below)))
      k e inside in
      let second = lie_here table last matched wants areas news kept ready j b (slice_get-get_or areas j d below) l g within in
      let apart : a.from + a.span ≤ b.from = areas_apart table last matched wants areas ready.are_areas ready.laid_out i j d before below in
      omega (arith, first.upper, second.lower, apart)))

  -- a definition that has a row is none of the new ones in an area
  has_row : (f place : ℕ) (i : ℕ) (area : Area) → slice_get areas i ≡ Some area → slice_get matched f ≡ Some (Some place)
      → All (λ g. f ≢ g) (files_in i news kept.areas)
  has_row f place i area at has = All-weaker (λ g. slice_get matched g ≡ Some None) (λ g. f ≢ g)
      (λ g none same.
      let both : Some None ≡ Some (Some place) = sym none ∙ ap (slice_get matched) (sym same) ∙ has in
      (let e : None ≡ Some place = cc in cc))
      (files_in i news kept.areas) (new_unmatched table last matched wants areas news kept ready i area at)

  files_within : (i : ℕ) (area : Area) → slice_get areas i ≡ Some area → AllPairs (λ (f g : ℕ). f ≢ g) (files_at news kept.areas (i, area))
  files_within i area at = AllPairs-cons_option (λ (f g : ℕ). f ≢ g) area.anchor (files_in i news kept.areas)
      (IfSome-from area.anchor (λ f. All (λ g. f ≢ g) (files_in i news kept.areas)) (λ f is.
      let anchor = anchor_of table last matched wants areas news kept ready i area at f is in has_row f anchor.place i area at anchor.has))
      (λ k l d before below same. omega (arith, same, rising_in i news kept.areas ready.are_news.rising k l d before below))

  files_between : (i j : ℕ) (d : Area) → i < j → j < length areas
      → All (λ f. All (λ g. f ≢ g) (files_at news kept.areas (j, get_or areas j d))) (files_at news kept.areas (i, get_or areas i d))
  files_between i j d before below =
      let a : Area = get_or areas i d in
      let b : Area = get_or areas j d in
      let at_i : slice_get areas i ≡ Some a = slice_get-get_or areas i d (omega (arith, before, below)) in
      let at_j : slice_get areas j ≡ Some b = slice_get-get_or areas j d below in
      let differ = anchors_differ table last matched wants areas ready.are_areas ready.laid_out i j d before below in
      let places : i ≢ j = λ same. omega (arith, same, before) in
      All-cons_option (λ f. All (λ g. f ≢ g) (files_at news kept.areas (j, b))) a.anchor (files_in i news kept.areas)
      (IfSome-from a.anchor (λ f. All (λ g. f ≢ g) (files_at news kept.areas (j, b))) (λ f is.
      let anchor = anchor_of table last matched wants areas news kept ready i a at_i f is in
      All-cons_option (λ g. f ≢ g) b.anchor (files_in j news kept.areas)
      (IfSome-from b.anchor (λ g. f ≢ g) (λ g also same.
      (IfSome-at a.anchor (λ file. b.anchor ≢ Some file) f is differ) (also ∙ ap (λ h. Some h) (sym same))))
      (has_row f anchor.place j b at_j anchor.has)))
      (λ k e inside.
      All-cons_option (λ g. get_or (files_in i news kept.areas) k e ≢ g) b.anchor (files_in j news kept.areas)
      (IfSome-from b.anchor (λ g. get_or (files_in i news kept.areas) k e ≢ g) (λ g also same.
      let anchor = anchor_of table last matched wants areas news kept ready j b at_j g also in
      has_row g anchor.place i a at_i anchor.has k e inside (sym same)))
      (apart_in i j news kept.areas places ready.are_news.rising k e inside))

  -- the definitions in all areas, in order
  abbrev pub all_files : List ℕ
  all_files = flat_map (files_at news kept.areas) (enumerate_from 0 areas)

  pub all_named : map (λ (s : Spot). s.file) all_spots ≡ all_files
  all_named = map-flat_map (λ (s : Spot). s.file) spots_in (enumerate_from 0 areas)
      ∙ flat_map_same (λ e. map (λ (s : Spot). s.file) (spots_in e)) (files_at news kept.areas) (enumerate_from 0 areas)
      (All-enumerated (λ e. map (λ (s : Spot). s.file) (spots_in e) ≡ files_at news kept.areas e) areas
      (λ i area at. named_here table last matched wants areas news kept ready i area at))

  -- no definition lies in two places
  pub all_differ : AllPairs (λ (s t : Spot). s.file ≢ t.file) all_spots
  all_differ = AllPairs-unmapped (λ (f g : ℕ). f ≢ g) (λ (s : Spot). s.file) all_spots
      (subst (AllPairs (λ (f g : ℕ). f ≢ g)) (sym all_named)
      (AllPairs-flat_map (λ (f g : ℕ). f ≢ g) (files_at news kept.areas) (enumerate_from 0 areas)
      (All-enumerated (λ e. AllPairs (λ (f g : ℕ). f ≢ g) (files_at news kept.areas e)) areas files_within)
      (AllPairs-enumerated (λ a b. All (λ f. All (λ g. f ≢ g) (files_at news kept.areas b)) (files_at news kept.areas a)) areas
      files_between)))

  looked : (file : ℕ) (o : Option Want)
      → option_and_then (λ (spot : Option Spot). spot)
      (option_map (λ (e : ℕ × Want). find (λ (spot : Spot). spot.file == e.0) all_spots) (option_map (λ (w : Want). (0 + file, w)) o))
      ≡ option_and_then (λ (w : Want). find (λ (spot : Spot). spot.file == file) all_spots) o
  looked file None = refl
  looked file (Some w) = ap (λ (f : ℕ). find (λ (spot : Spot). spot.file == f) all_spots) (zero-add file)

  -- the answer for a definition is what is found under it
  pub found_at : (file : ℕ) → spot_at answer file ≡ option_and_then (λ (w : Want). find (λ (spot : Spot). spot.file == file) all_spots)
      (slice_get wants file)
  found_at file =
      ap (option_and_then (λ (spot : Option Spot). spot))
      (slice_get-map (λ (e : ℕ × Want). find (λ (spot : Spot). spot.file == e.0) all_spots) (enumerate_from 0 wants) file
      ∙ ap (option_map (λ (e : ℕ × Want). find (λ (spot : Spot). spot.file == e.0) all_spots)) (slice_get-enumerate_from 0 wants file))
      ∙ looked file (slice_get wants file)

  from_found : (file : ℕ) (s : Spot) (o : Option Want) → option_and_then (λ (w : Want). find (λ
      (spot : Spot). spot.file == file) all_spots) o
      ≡ Some s → find (λ (spot : Spot). spot.file == file) all_spots ≡ Some s
  from_found file s None is = absurd (let e : None ≡ Some s = is in cc)
  from_found file s (Some w) is = is

  pub found : (file : ℕ) (s : Spot) → spot_at answer file ≡ Some s → find (λ (spot : Spot). spot.file == file) all_spots ≡ Some s
  found file s is = from_found file s (slice_get wants file) (sym (found_at file) ∙ is)

  -- a definition's partition is its own and is one of all; what holds of each holds of it
  pub of_found : (P : Spot → Type 0) → All P all_spots → (file : ℕ) (s : Spot) → spot_at answer file ≡ Some s → P s × (s.file ≡ file)
  of_found P each file s is =
      let both = IfSome-at (find (λ (spot : Spot). spot.file == file) all_spots) (λ (t : Spot). P t × ((t.file == file) ≡ true)) s
      (found file s is) (find-Some (λ (spot : Spot). spot.file == file) P all_spots each) in
      (both.0, eqb-true s.file file both.1)

  -- two definitions' partitions are apart
  pub spots_apart : (file other : ℕ) (s t : Spot) → file ≢ other → spot_at answer file ≡ Some s → spot_at answer other ≡ Some t
      → Ends s t ⊎ Ends t s
  spots_apart file other s t differ one two =
      let first = of_found (Contains all_spots) (All-contains_itself all_spots) file s one in
      let second = of_found (Contains all_spots) (All-contains_itself all_spots) other t two in
      let k : ℕ = first.0.0 in
      let l : ℕ = second.0.0 in
      let at_k : get_or all_spots k s ≡ s = first.0.2 in
      let at_l : get_or all_spots l s ≡ t = get_or_default all_spots l s t second.0.1 ∙ second.0.2 in
      elim (cases_order k l) [
        | inl same ↦ absurd
            (let e : s ≡ t = sym at_k ∙ ap (λ i. get_or all_spots i s) same ∙ at_l in
            differ (sym first.1 ∙ ap (λ (x : Spot). x.file) e ∙ second.1))
        | inr order ↦ elim order [
          | inl before ↦ inl (subst (λ (x : Spot). Ends x t) at_k (subst (λ (x : Spot). Ends (get_or all_spots k s) x) at_l
              (all_end k l s before second.0.1)))
          | inr behind ↦ inr (subst (λ (x : Spot). Ends t x) at_k (subst (λ (x : Spot). Ends x (get_or all_spots k s)) at_l
              (all_end l k s behind first.0.1)))
        ]
      ]

  anchor_spot : (i : ℕ) (area : Area) → slice_get areas i ≡ Some area → (s : Spot)
      → IsShared (want_at wants s.file) (own s.file) s.size s.pad
      → area.anchor ≡ Some s.file → s.start ≡ 8 * area.from
      → MatchOption (row_of table.rows matched s.file) (IsAdded (want_at wants s.file) s) (λ r. IsGrown (want_at wants s.file) r s)
  anchor_spot i area at s shared is start =
      let anchor = anchor_of table last matched wants areas news kept ready i area at s.file is in
      let row : row_of table.rows matched s.file ≡ Some anchor.row = units-some table.rows matched s.file anchor.place anchor.row anchor.has
      anchor.found in
      let size : own s.file ≡ anchor.row.size = ap (λ (o : Option Row). option_map_or (λ (r : Row). r.size) o 0) row in
      subst (λ (o : Option Row). MatchOption o (IsAdded (want_at wants s.file) s) (λ r. IsGrown (want_at wants s.file) r s)) (sym row)
      (grown_of (want_at wants s.file) anchor.row s (subst (λ (n : ℕ). IsShared (want_at wants s.file) n s.size s.pad) size shared)
      (omega (arith, start, anchor.begins)))

  new_spot : (i : ℕ) (area : Area) → slice_get areas i ≡ Some area → (s : Spot) → IsShared (want_at wants s.file) (own s.file) s.size s.pad
      → Contains (files_in i news kept.areas) s.file
      → MatchOption (row_of table.rows matched s.file) (IsAdded (want_at wants s.file) s) (λ r. IsGrown (want_at wants s.file) r s)
  new_spot i area at s shared here =
      let none : row_of table.rows matched s.file ≡ None = units-none table.rows matched s.file
      (All-contains (λ f. slice_get matched f ≡ Some None) (files_in i news kept.areas) s.file
      (new_unmatched table last matched wants areas news kept ready i area at) here) in
      let size : own s.file ≡ 0 = ap (λ (o : Option Row). option_map_or (λ (r : Row). r.size) o 0) none in
      subst (λ (o : Option Row). MatchOption o (IsAdded (want_at wants s.file) s) (λ r. IsGrown (want_at wants s.file) r s)) (sym none)
      (added_of (want_at wants s.file) (own s.file) s size shared)

  -- a partition keeps to what its definition asks for, and lies within the usable units
  spot_in : (s : Spot) → InArea s → IsSpot table.first last (want_at wants s.file) (row_of table.rows matched s.file) s
  spot_in s is =
      let area : Area = is.1 in
      let lies = is.3 in
      let shared = is.4 in
      let bounds = within table last matched wants areas news kept ready is.0 area is.2 in
      let some : 0 < area.span = omega (arith, lies.lower, lies.upper, is.6) in
      record {
        grain = lies.grain;
        some = omega (arith, is.6);
        lower = omega (arith, lies.lower, bounds.0);
        upper = omega (arith, lies.upper, bounds.1 some);
        min = shared.min;
        pad_min = shared.pad_min;
        pad_max = shared.pad_max;
        kind = elim is.5 [
          | inl anchor ↦ anchor_spot is.0 area is.2 s shared anchor.0 anchor.1
          | inr new ↦ new_spot is.0 area is.2 s shared
              new.0
        ];
      }

  pub spot_is : (file : ℕ) (s : Spot) → spot_at answer file ≡ Some s
      → (s.file ≡ file) × IsSpot table.first last (want_at wants file) (row_of table.rows matched file) s
  spot_is file s at =
      let both = of_found InArea all_in file s at in
      (both.1, subst (λ (f : ℕ). IsSpot table.first last (want_at wants f) (row_of table.rows matched f) s) both.1 (spot_in s both.0))
