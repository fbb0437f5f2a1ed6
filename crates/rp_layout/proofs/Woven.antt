-- The rows after are the old ones with the partitions of each area woven in: the same stand in both.
use Rattle.std.proofs.Common.{◌≡◌, ◌≢◌, ◌==◌, ℕ, ◌<◌, List, [], ◌∷◌, length, get_or, map, Option, Some, None, All, AllPairs, slice_get, arith, refl, ap, sym, ◌∙◌, subst, inl, inr}
use Rattle.std.specs.List.{Contains, enumerate_from, filter_map, find, flat_map}
use Rattle.std.specs.Option.{option_and_then, option_map, option_map_or}
use Rattle.std.proofs.lemmas.List.Elements.{All-append, All-cons, All-contains, All-head, All-map, All-nil, All-tail, All-weaker, Contains-append_left, Contains-append_right}
use Rattle.std.proofs.lemmas.List.FromFn.{length-enumerate_from}
use Rattle.std.proofs.lemmas.Option.{get_or_from_slice_get, slice_get-get_or, slice_get_within}
use Rattle.rp_base.specs.declared.table.Row.{Row}
use Rattle.rp_base.specs.declared.table.Table.{Table}
use Rattle.rp_base.specs.declared.want.Want.{Want}
use Rattle.rp_areas.specs.declared.extents.Extent.{Extent}
use Rattle.rp_areas.specs.declared.gaps.Area.{Area}
use Rattle.rp_areas.specs.Again.{AreAmong, Piece, rows_again, rows_by_start, stacked, woven}
use Rattle.rp_areas.specs.Areas.{area_before, areas_behind, extent_of, extents_of, file_of, grains_up}
use Rattle.rp_place.specs.declared.fit.New.{New}
use Rattle.rp_place.specs.declared.threshold.Placed.{Placed}
use Rattle.rp_layout.specs.declared.spot.Spot.{Spot}
use Rattle.rp_layout.specs.Facts.{IsReady}
use Rattle.rp_layout.specs.Layout.{added, extents_after, grown, spot_at, spots_from, stack_in, stacks_of}
use Rattle.rp_layout.specs.Seats.{files_in}
use Rattle.rp_layout.proofs.After.{own_spot, owner_has}
use Rattle.rp_layout.proofs.Apart.{anchor_lies}
use Rattle.rp_layout.proofs.Laid.{InArea, all_differ, all_in, all_spots, answer, found_at, of_found}
use Rattle.rp_layout.proofs.Lists.{All-enumerated, All-filter_map, All-flat_map, All-flat_map_back, AllPairs-enumerated, AllPairs-mapped, AllPairs-nil, IfSome-from, enumerated_at, mapped_Contains, none_of}
use Rattle.rp_layout.proofs.Files.{All-in}
use Rattle.rp_layout.proofs.Shared.{anchor_of as anchor_of_area, new_unmatched}
use Rattle.rp_layout.proofs.Stacks.{areas_are}
use Rattle.rp_layout.proofs.Weaving.{extent_of_spot, All-stacked, in_stacked, behind_stacked, wove, Unanchored, All-wove, spots_in_wove, rows_in_wove, Owns, sorted_all, sorted_owns, sorted_back, Free, weaker, unanchored_free, owner_of, unique_find, in_filter_map}

module _ (table : Table) (last : ℕ) (matched : List (Option ℕ)) (wants : List Want) (areas : List Area) (news : List New) (kept : Placed)
    (ready : IsReady table last matched wants areas news kept) where
  abbrev spots : List (Option Spot)
  spots = answer table last matched wants areas news kept ready

  abbrev every : List Spot
  every = all_spots table last matched wants areas news kept ready

  abbrev es : List Extent
  es = rows_by_start table matched

  abbrev stack : ℕ × Area → List Piece
  stack = stack_in table.rows matched wants news kept.areas

  abbrev first_area : Area
  first_area = area_before table.first last es

  abbrev other_areas : List Area
  other_areas = areas_behind last wants es

  abbrev after : List Extent
  after = extents_after table.rows matched news spots

  abbrev again : List Extent
  again = stacked (grains_up table.first) (stack (0, first_area)) (woven last wants es (map stack (enumerate_from 1 other_areas)))

  -- the extents of the rows that are there
  abbrev pub IsRow : Extent → Type 0
  IsRow e = (p : ℕ) × (row : Row) × (slice_get table.rows p ≡ Some row) × (e ≡ extent_of matched (p, row))

  are_rows : All IsRow (extents_of table.rows matched)
  are_rows = All-map IsRow (extent_of matched) (enumerate_from 0 table.rows)
      (All-enumerated (λ e. IsRow (extent_of matched e)) table.rows (λ p row at. (p, row, at, refl)))

  owner_row : (e : Extent) → IsRow e → (file : ℕ) → e.file ≡ Some file → (p : ℕ) × (slice_get matched file ≡ Some (Some p)) × (p ≡ p)
  owner_row e is file owns = (is.0, owner_has matched is.0 file (sym (ap (λ (x : Extent). x.file) is.3) ∙ owns), refl)

  rows_own : AllPairs Owns (extents_of table.rows matched)
  rows_own = AllPairs-mapped Owns (extent_of matched) (enumerate_from 0 table.rows)
      (AllPairs-enumerated (λ a b. Owns (extent_of matched a) (extent_of matched b)) table.rows (λ i j d before below file one two.
      let both : Some (Some i) ≡ Some (Some j) = sym (owner_has matched i file one) ∙ owner_has matched j file two in
      let same : i ≡ j = cc in omega (arith, same, before)))

  pub sorted_rows : All IsRow es
  sorted_rows = sorted_all IsRow [] (extents_of table.rows matched) (All-nil IsRow) are_rows

  sorted_own : AllPairs Owns es
  sorted_own = sorted_owns [] (extents_of table.rows matched) (AllPairs-nil Owns)
      (λ k d below. All-nil (Owns (get_or (extents_of table.rows matched) k d))) rows_own

  -- each partition is the answer for its own definition
  file_inside : (s : Spot) → InArea table last matched wants areas news kept ready s → s.file < length wants
  file_inside s is = elim is.5 [
    | inl own ↦
        let anchor = anchor_of_area table last matched wants areas news kept ready is.0 is.1 is.2 s.file own.0 in
        omega (arith, slice_get_within matched s.file (Some anchor.place) anchor.has, ready.one_each)
    | inr new ↦
        let none : slice_get matched s.file ≡ Some None = All-contains (λ g. slice_get matched g ≡ Some None)
        (files_in is.0 news kept.areas) s.file
        (new_unmatched table last matched wants areas news kept ready is.0 is.1 is.2) new.0 in
        omega (arith, slice_get_within matched s.file None none, ready.one_each)
  ]

  abbrev no_want : Want
  no_want = record { min = 0; max = 0; weight = 0; pad_min = 0; pad_max = 0; pad_weight = 0 }

  answers : All (λ s. spot_at spots s.file ≡ Some s) every
  answers k d below =
      let s : Spot = get_or every k d in
      found_at table last matched wants areas news kept ready s.file
      ∙ ap (option_and_then (λ (w : Want). find (λ (t : Spot). t.file == s.file) every))
      (slice_get-get_or wants s.file no_want (file_inside s (all_in table last matched wants areas news kept ready k d below)))
      ∙ unique_find (λ (t : Spot). t.file) every (all_differ table last matched wants areas news kept ready) k d below

  -- the extent of a row with its partition
  grown_is : (p : ℕ) (row : Row) (s : Spot) → file_of matched p ≡ Some s.file → spot_at spots s.file ≡ Some s → s.start ≡ row.start
      → grown spots (extent_of matched (p, row)) ≡ extent_of_spot s
  grown_is p row s owner at start =
      ap (λ (o : Option ℕ). record {
        start = row.start;
        size = option_map_or (λ (t : Spot). t.size) (option_and_then
            (spot_at spots) o) row.size;
        file = o;
      }) owner
      ∙ ap (λ (o : Option Spot). record { start = row.start; size = option_map_or (λ (t : Spot). t.size) o row.size; file = Some s.file })
      at
      ∙ ap (λ (n : ℕ). record { start = n; size = s.size; file = Some s.file }) (sym start)

  grown_none : (e : Extent) → option_and_then (spot_at spots) e.file ≡ None → grown spots e ≡ e
  grown_none e none = ap (λ (o : Option Spot). record {
    start = e.start;
    size = option_map_or (λ
        (t : Spot). t.size) o e.size;
    file = e.file;
  }) none

  in_first : (e : Extent) → Contains (extents_of table.rows matched) e → Contains after (grown spots e)
  in_first e has = Contains-append_left (map (grown spots) (extents_of table.rows matched)) (filter_map (added spots) news) (grown spots e)
      (All-contains (λ x. Contains (map (grown spots) (extents_of table.rows matched)) (grown spots x)) (extents_of table.rows matched) e
      (mapped_Contains (grown spots) (extents_of table.rows matched)) has)

  row_contained : (p : ℕ) (row : Row) → slice_get table.rows p ≡ Some row
      → Contains (extents_of table.rows matched) (extent_of matched (p, row))
  row_contained p row at =
      let inside = slice_get_within table.rows p row at in
      All-contains (λ x. Contains (extents_of table.rows matched) (extent_of matched x)) (enumerate_from 0 table.rows) (p, row)
      (mapped_Contains (extent_of matched) (enumerate_from 0 table.rows)) (
        p,
        omega (arith, inside, length-enumerate_from 0 table.rows),
        enumerated_at table.rows p (p, row) inside
            ∙ ap (λ (r : Row). (p, r)) (get_or_from_slice_get table.rows p row row at),
      )

  -- each partition is a row after
  spot_after : (s : Spot) → InArea table last matched wants areas news kept ready s → spot_at spots s.file ≡ Some s
      → Contains after (extent_of_spot s)
  spot_after s is at = elim is.5 [
    | inl own ↦
        let anchor = anchor_of_area table last matched wants areas news kept ready is.0 is.1 is.2 s.file own.0 in
        subst (Contains after)
        (grown_is anchor.place anchor.row s (owner_of matched ready.distinct s.file anchor.place anchor.has) at (own.1 ∙ sym anchor.begins))
        (in_first (extent_of matched (anchor.place, anchor.row)) (row_contained anchor.place anchor.row anchor.found))
    | inr new ↦
        All-contains (λ g. s.file ≡ g → Contains after (extent_of_spot s)) (files_in is.0 news kept.areas) s.file
        (All-in (λ g. s.file ≡ g → Contains after (extent_of_spot s)) is.0 news kept.areas (λ k d below same.
        let n : New = get_or news k d in
        let here : spot_at spots n.file ≡ Some s = ap (spot_at spots) (sym same) ∙ at in
        let made : added spots n ≡ Some (extent_of_spot s) =
        ap (option_map (λ (t : Spot). record { start = t.start; size = t.size; file = Some n.file })) here
        ∙ ap (λ (g : ℕ). Some (record { start = s.start; size = s.size; file = Some g })) (sym same) in
        Contains-append_right (map (grown spots) (extents_of table.rows matched)) (filter_map (added spots) news) (extent_of_spot s)
        (in_filter_map (added spots) news k d below (extent_of_spot s) made)))
        new.0 refl
  ]

  all_after : All (λ s. Contains after (extent_of_spot s)) every
  all_after k d below = spot_after (get_or every k d) (all_in table last matched wants areas news kept ready k d below) (answers k d below)

  -- a row whose definition is the anchor of no area has no partition
  no_spot : (e : Extent) → IsRow e → (file : ℕ) → e.file ≡ Some file → All (λ (a : Area). a.anchor ≢ Some file) other_areas → (s : Spot)
      → InArea table last matched wants areas news kept ready s → s.file ≡ file → ⊥
  no_spot e row file owns free s is same = elim is.5 [
    | inl own ↦
        let all : All (λ (a : Area). a.anchor ≢ Some file) areas = subst (All (λ (a : Area). a.anchor ≢ Some file))
        (areas_are table last matched wants areas ready.are_areas)
        (All-cons (λ (a : Area). a.anchor ≢ Some file) first_area other_areas (λ q. (let e : None ≡ Some file = q in cc)) free) in
        (subst (λ (a : Area). a.anchor ≢ Some file) (get_or_from_slice_get areas is.0 is.1 is.1 is.2)
        (all is.0 is.1 (slice_get_within areas is.0 is.1 is.2))) (own.0 ∙ ap (λ g. Some g) same)
    | inr new ↦
        let none : slice_get matched s.file ≡ Some None = All-contains (λ g. slice_get matched g ≡ Some None)
        (files_in is.0 news kept.areas) s.file
        (new_unmatched table last matched wants areas news kept ready is.0 is.1 is.2) new.0 in
        let has : slice_get matched file ≡ Some (Some row.0) = owner_has matched row.0 file (sym (ap (λ (x : Extent). x.file) row.3)
        ∙ owns) in
        let both : Some None ≡ Some (Some row.0) = sym none ∙ ap (slice_get matched) same ∙ has in
        (let q : None ≡ Some row.0 = cc in cc)
  ]

  unspotted : (e : Extent) → IsRow e → Free last wants stack es e → (o : Option ℕ) → e.file ≡ o → option_and_then (spot_at spots) o ≡ None
  unspotted e row free None owns = refl
  unspotted e row free (Some file) owns = none_of (spot_at spots file) (λ s at.
      let both = of_found table last matched wants areas news kept ready (InArea table last matched wants areas news kept ready)
      (all_in table last matched wants areas news kept ready) file s at in
      no_spot e row file owns (free file owns) s both.0 both.1)

  rows_after : Unanchored last wants stack (Contains after) es
  rows_after = weaker last wants stack (Free last wants stack es) (Contains after) es
      (λ k d below free.
      let e : Extent = get_or es k d in
      let row = sorted_rows k d below in
      subst (Contains after) (grown_none e (unspotted e row free e.file refl))
      (in_first e (subst (Contains (extents_of table.rows matched)) (sym row.3) (row_contained row.0 row.1 row.2))))
      (unanchored_free last wants stack es sorted_own)

  abbrev parts_of : List Area → List Spot
  parts_of gaps = flat_map (λ e. spots_from e.1.from (stack e)) (enumerate_from 0 gaps)

  parts_are : parts_of (first_area ∷ other_areas) ≡ every
  parts_are = ap parts_of (areas_are table last matched wants areas ready.are_areas)

  -- each of those woven in is a row after
  forward : All (Contains after) again
  forward =
      let parts = All-flat_map_back (λ s. Contains after (extent_of_spot s)) (λ e. spots_from e.1.from (stack e))
      (enumerate_from 0 (first_area ∷ other_areas)) (subst (All (λ s. Contains after (extent_of_spot s))) (sym parts_are) all_after) in
      All-stacked (Contains after) first_area.from (stack (0, first_area)) (wove last wants stack 1 es)
      (All-head (λ e. All (λ s. Contains after (extent_of_spot s)) (spots_from e.1.from (stack e))) (0, first_area)
      (enumerate_from 1 other_areas) parts)
      (All-wove last wants stack (Contains after) 1 es
      (All-tail (λ e. All (λ s. Contains after (extent_of_spot s)) (spots_from e.1.from (stack e))) (0, first_area)
      (enumerate_from 1 other_areas) parts)
      rows_after)

  -- each partition is woven in
  spots_back : All (λ s. Contains again (extent_of_spot s)) every
  spots_back = subst (All (λ s. Contains again (extent_of_spot s))) parts_are
      (All-flat_map (λ s. Contains again (extent_of_spot s)) (λ e. spots_from e.1.from (stack e)) (enumerate_from 0
      (first_area ∷ other_areas))
      (All-cons (λ e. All (λ s. Contains again (extent_of_spot s)) (spots_from e.1.from (stack e))) (0, first_area)
      (enumerate_from 1 other_areas)
      (in_stacked first_area.from (stack (0, first_area)) (wove last wants stack 1 es))
      (All-weaker (λ e. All (λ s. Contains (wove last wants stack 1 es) (extent_of_spot s)) (spots_from e.1.from (stack e)))
      (λ e. All (λ s. Contains again (extent_of_spot s)) (spots_from e.1.from (stack e)))
      (λ e each. All-weaker (λ s. Contains (wove last wants stack 1 es) (extent_of_spot s)) (λ s. Contains again (extent_of_spot s))
      (λ s has. behind_stacked first_area.from (stack (0, first_area)) (wove last wants stack 1 es) (extent_of_spot s) has)
      (spots_from e.1.from (stack e)) each)
      (enumerate_from 1 other_areas) (spots_in_wove last wants stack 1 es))))

  abbrev Lost : Option ℕ → Type 0
  Lost o = option_and_then (spot_at spots) o ≡ None

  anchors_found : All (λ (a : Area). (file : ℕ) → a.anchor ≡ Some file → Lost (Some file) → ⊥) areas
  anchors_found k d below file is lost =
      let lies = anchor_lies table last matched wants areas news kept ready k (get_or areas k d) file
      (slice_get-get_or areas k d below) is in
      (let q : None ≡ Some lies.0 = sym lost ∙ lies.1 in cc)

  -- and each row without one
  rows_back : All (λ (e : Extent). Lost e.file → Contains again e) (extents_of table.rows matched)
  rows_back =
      let found = All-tail (λ (a : Area). (file : ℕ) → a.anchor ≡ Some file → Lost (Some file) → ⊥) first_area other_areas
      (subst (All (λ (a : Area). (file : ℕ) → a.anchor ≡ Some file → Lost (Some file) → ⊥))
      (sym (areas_are table last matched wants areas ready.are_areas)) anchors_found) in
      (sorted_back (λ (e : Extent). Lost e.file → Contains again e) [] (extents_of table.rows matched)
      (All-weaker (λ (e : Extent). Lost e.file → Contains (wove last wants stack 1 es) e) (λ (e : Extent). Lost e.file → Contains again e)
      (λ e has lost. behind_stacked first_area.from (stack (0, first_area)) (wove last wants stack 1 es) e (has lost))
      es (rows_in_wove last wants stack Lost 1 es found))).1

  row_back : (e : Extent) → IsRow e → (Lost e.file → Contains again e) → (o : Option ℕ) → e.file ≡ o → (t : Option Spot)
      → option_and_then (spot_at spots) o ≡ t → Contains again (grown spots e)
  row_back e row back o owns None at =
      let lost : Lost e.file = ap (option_and_then (spot_at spots)) owns ∙ at in
      subst (Contains again) (sym (grown_none e lost)) (back lost)
  row_back e row back None owns (Some s) at = absurd (let q : None ≡ Some s = at in cc)
  row_back e row back (Some file) owns (Some s) at =
      let both = of_found table last matched wants areas news kept ready (λ t. Contains again (extent_of_spot t)) spots_back file s at in
      let owner : file_of matched row.0 ≡ Some file = sym (ap (λ (x : Extent). x.file) row.3) ∙ owns in
      let start : s.start ≡ row.1.start = own_spot table last matched wants areas news kept ready row.0 row.1 file s row.2 owner at in
      subst (Contains again)
      (sym (ap (grown spots) row.3 ∙ grown_is row.0 row.1 s (owner ∙ ap (λ g. Some g) (sym both.1)) (ap (spot_at spots) both.1 ∙ at) start))
      both.0

  new_back : (n : New) (e : Extent) (o : Option Spot) → spot_at spots n.file ≡ o
      → option_map (λ spot. record { start = spot.start; size = spot.size; file = Some n.file }) o ≡ Some e → Contains again e
  new_back n e None at is = absurd (let q : None ≡ Some e = is in cc)
  new_back n e (Some s) at is =
      let both = of_found table last matched wants areas news kept ready (λ t. Contains again (extent_of_spot t)) spots_back n.file s at in
      let made : Extent = record { start = s.start; size = s.size; file = Some n.file } in
      let whole : Some made ≡ Some e = is in
      let same : made ≡ e = cc in
      subst (Contains again) (ap (λ (g : ℕ). record { start = s.start; size = s.size; file = Some g }) both.1 ∙ same) both.0

  backward : All (Contains again) after
  backward = All-append (Contains again) (map (grown spots) (extents_of table.rows matched)) (filter_map (added spots) news)
      (All-map (Contains again) (grown spots) (extents_of table.rows matched) (λ k d below.
      let e : Extent = get_or (extents_of table.rows matched) k d in
      row_back e (are_rows k d below) (rows_back k d below) e.file refl (option_and_then (spot_at spots) e.file) refl))
      (All-filter_map (Contains again) (added spots) news (λ k d below.
      IfSome-from (added spots (get_or news k d)) (Contains again) (λ e is. new_back (get_or news k d) e (spot_at spots
      (get_or news k d).file) refl is)))

  -- the same stand in both
  pub woven_after : (before : List Piece) (others : List (List Piece))
      → stacks_of table.rows matched wants areas news kept.areas ≡ before ∷ others
      → AreAmong after (rows_again table last matched wants before others) × AreAmong (rows_again table last matched wants before others)
      after
  woven_after before others is =
      let whole : stack (0, first_area) ∷ map stack (enumerate_from 1 other_areas) ≡ before ∷ others =
      ap (λ (gaps : List Area). map stack (enumerate_from 0 gaps)) (areas_are table last matched wants areas ready.are_areas) ∙ is in
      let one : stack (0, first_area) ≡ before = cc in
      let more : map stack (enumerate_from 1 other_areas) ≡ others = cc in
      let same : again ≡ rows_again table last matched wants before others =
      ap (λ (ps : List Piece). stacked (grains_up table.first) ps (woven last wants es (map stack (enumerate_from 1 other_areas)))) one
      ∙ ap (λ (qs : List (List Piece)). stacked (grains_up table.first) before (woven last wants es qs)) more in
      subst (λ (rows : List Extent). AreAmong after rows × AreAmong rows after) same (
        (λ e has. All-contains (Contains again) after e backward has),
        (λ e has. All-contains (Contains after) again e forward has),
      )
