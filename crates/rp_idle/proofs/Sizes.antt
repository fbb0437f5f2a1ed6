-- Laid out again, each partition has the units that it has.
use Rattle.std.proofs.Common.{◌≡◌, ◌∙◌, ℕ, ◌+◌, ◌*◌, ◌==◌, cond, List, [], ◌∷◌, map, Option, Some, None, All, arith, eq-eqb, refl, ap, sym, subst, slice_get, zero-add}
use Rattle.std.specs.Prelude.{Contains, IfSome, find, unwrap_or}
use Rattle.std.specs.List.{cons_option, enumerate_from, flat_map}
use Rattle.std.specs.Option.{option_and_then, option_map_or}
use Rattle.std.proofs.lemmas.Bool.{eqb-true}
use Rattle.std.proofs.lemmas.List.Elements.{All-append, All-cons, All-head, All-nil, All-tail}
use Rattle.std.proofs.lemmas.Option.{slice_get-get_or}
use Rattle.rp_base.specs.declared.table.Row.{Row}
use Rattle.rp_base.specs.declared.want.Want.{Want}
use Rattle.rp_areas.specs.Again.{row_at}
use Rattle.rp_areas.specs.Areas.{extent_of, extents_of, file_of, grains_up, want_at}
use Rattle.rp_areas.specs.declared.extents.Extent.{Extent}
use Rattle.rp_areas.specs.declared.gaps.Area.{Area}
use Rattle.rp_share.specs.Again.{asked}
use Rattle.rp_share.specs.Value.{shares_of}
use Rattle.rp_layout.specs.declared.spot.Spot.{Spot}
use Rattle.rp_layout.specs.Layout.{laid, spot_at, spots_from, spots_of, stack_in}
use Rattle.rp_layout.specs.Seats.{items_of, padding_of, pieces_of, row_of, seat_of, stack_of, units_at, units_of}
use Rattle.rp_plan.proofs.KeptLemmas.{owner_has}
use Rattle.rp_plan.specs.Rows.{row_again}
use Rattle.rp_idle.proofs.Lists.{found_holds, item_at_place, map_same_items}
use Rattle.rp_idle.proofs.Settled.{HasAnchor, IsSettled}

-- a row that stands among those of a table, with its definition
standing : (rows : List Row) (matched : List (Option ℕ)) (e : Extent) (file : ℕ) → Contains (extents_of rows matched) e → e.file ≡ Some file
    → units_at rows matched file ≡ e.size
standing rows matched e file (k, below, is) has =
    let at : slice_get (extents_of rows matched) k ≡ Some e = slice_get-get_or (extents_of rows matched) k e below ∙ ap (λ x. Some x) is in
    let found = item_at_place (extent_of matched) 0 rows k k e (sym (zero-add k)) at in
    let owner : file_of matched k ≡ Some file = ap (λ (x : Extent). x.file) found.2 ∙ has in
    let own : row_of rows matched file ≡ Some found.0 = ap (λ o. option_and_then (slice_get rows) (unwrap_or o None))
    (owner_has matched k file owner) ∙ found.1 in
    ap (λ (o : Option Row). option_map_or (λ (row : Row). row.size) o 0) own ∙ ap (λ (x : Extent). x.size) found.2

same_units : (has grains : ℕ) → grains_up has ≡ grains → units_of has grains ≡ has
same_units has grains is = ap (λ b. cond b has (8 * grains)) (eq-eqb (grains_up has) grains is)

module _ (rows : List Row) (matched : List (Option ℕ)) (wants : List Want) where
  -- a partition has the units of its row
  abbrev pub IsKeeping : Spot → Type 0
  IsKeeping s = s.size ≡ units_at rows matched s.file

  one_keeps : (from file has : ℕ) (want : Want) (span x y : ℕ) → has ≡ units_at rows matched file → grains_up has ≡ x
      → shares_of span (items_of (seat_of want file has ∷ [])) ≡ x ∷ y ∷ []
      → All IsKeeping (spots_from from (stack_of span (seat_of want file has ∷ [])))
  one_keeps from file has want span x y own grains is =
      subst (λ shares. All IsKeeping (spots_from from (pieces_of (seat_of want file has ∷ []) shares))) (sym is)
      (All-cons IsKeeping (record { file = file; start = 8 * from; size = units_of has x; pad = y }) [] (same_units has x grains
      ∙ own) (All-nil IsKeeping))

  area_keeps_by : (i from span : ℕ) (o : Option ℕ) (es : List Extent) (area : Area) → extents_of rows matched ≡ es → area.from ≡ from
      → area.span ≡ span
      → IfSome o (HasAnchor wants es area)
      → All IsKeeping (spots_from from (stack_of span (map (λ file. seat_of (want_at wants file) file (units_at rows matched file))
      (cons_option o []))))
  area_keeps_by i from span None es area are at long settled = none_keeps where
    none_keeps : All IsKeeping (spots_from from (stack_of span []))
    none_keeps = All-nil IsKeeping
  area_keeps_by i from span (Some file) es area are at long settled =
      let has : units_at rows matched file ≡ settled.piece.units =
      standing rows matched (row_at area.from settled.piece) file (subst (λ xs. Contains xs (row_at area.from settled.piece)) (sym are)
      settled.stands)
      (ap (λ f. Some f) settled.own) in
      let want : Want = want_at wants file in
      let same : asked (grains_up settled.piece.units) want.min want.max want.weight ≡ asked (grains_up (units_at rows matched file))
      want.min want.max want.weight =
      ap (λ n. asked (grains_up n) want.min want.max want.weight) (sym has) in
      one_keeps from file (units_at rows matched file) want span (grains_up settled.piece.units) settled.piece.pad refl (ap grains_up has)
      (ap (λ s. shares_of s (asked (grains_up (units_at rows matched file)) want.min want.max want.weight ∷ padding_of want ∷ []))
      (sym long)
      ∙ ap (λ item. shares_of area.span (item ∷ padding_of want ∷ [])) (sym same) ∙ settled.rests)

  area_keeps : (i : ℕ) (es : List Extent) (area : Area) → extents_of rows matched ≡ es → IsSettled wants es area
      → All IsKeeping (spots_from area.from (stack_in rows matched wants [] [] (i, area)))
  area_keeps i es area are settled = area_keeps_by i area.from area.span area.anchor es area are refl refl settled

  spots_keep : (n : ℕ) (es : List Extent) (areas : List Area) → extents_of rows matched ≡ es → All (IsSettled wants es) areas
      → All IsKeeping (flat_map (λ (e : ℕ × Area). spots_from e.1.from (stack_in rows matched wants [] [] e)) (enumerate_from n areas))
  spots_keep n es [] are all = All-nil IsKeeping
  spots_keep n es (area ∷ areas) are all =
      All-append IsKeeping (spots_from area.from (stack_in rows matched wants [] [] (n, area)))
      (flat_map (λ (e : ℕ × Area). spots_from e.1.from (stack_in rows matched wants [] [] e)) (enumerate_from (n + 1) areas))
      (area_keeps n es area are (All-head (IsSettled wants es) area areas all))
      (spots_keep (n + 1) es areas are (All-tail (IsSettled wants es) area areas all))

  spot_found : (areas : List Area) (file : ℕ) (s : Spot) (o : Option (Option Spot))
      → slice_get (laid rows matched wants areas [] []) file ≡ o
      → option_and_then (λ spot. spot) o ≡ Some s → find (λ (spot : Spot). spot.file == file)
      (spots_of rows matched wants areas [] []) ≡ Some s
  spot_found areas file s None at is = absurd (cc)
  spot_found areas file s (Some spot) at is =
      let found = item_at_place (λ (e : ℕ × Want). find (λ (spot : Spot). spot.file == e.0) (spots_of rows matched wants areas [] [])) 0
      wants file file spot
      (sym (zero-add file)) at in
      found.2 ∙ is

  size_is : (areas : List Area) (es : List Extent) → extents_of rows matched ≡ es → All (IsSettled wants es) areas → (file : ℕ) (s : Spot)
      → spot_at (laid rows matched wants areas [] []) file ≡ Some s → s.size ≡ units_at rows matched file
  size_is areas es are all file s at =
      let found = found_holds IsKeeping (λ (spot : Spot). spot.file == file) (spots_of rows matched wants areas [] []) s
      (spots_keep 0 es areas are all)
      (spot_found areas file s (slice_get (laid rows matched wants areas [] []) file) refl at) in
      found.0 ∙ ap (units_at rows matched) (eqb-true s.file file found.1)

  same_size : (spots : List (Option Spot)) (k : ℕ) (row : Row)
      → ((file : ℕ) (s : Spot) → spot_at spots file ≡ Some s → s.size ≡ units_at rows matched file)
      → slice_get rows k ≡ Some row → (f : Option ℕ) → file_of matched k ≡ f → (o : Option Spot) → option_and_then (spot_at spots) f ≡ o
      → option_map_or (λ (s : Spot). record row { size = s.size }) o row ≡ row
  same_size spots k row each at f owner None is = refl
  same_size spots k row each at None owner (Some s) is = absurd (cc)
  same_size spots k row each at (Some file) owner (Some s) is =
      let own : row_of rows matched file ≡ Some row = ap (λ o. option_and_then (slice_get rows) (unwrap_or o None))
      (owner_has matched k file owner) ∙ at in
      let size : s.size ≡ row.size = each file s is ∙ ap (λ (o : Option Row). option_map_or (λ (r : Row). r.size) o 0) own in
      ap (λ n. record row { size = n }) size

  -- so the rows are as they were
  pub rows_same : (areas : List Area) (es : List Extent) → extents_of rows matched ≡ es → All (IsSettled wants es) areas
      → map (row_again matched (laid rows matched wants areas [] [])) (enumerate_from 0 rows) ≡ rows
  rows_same areas es are all = map_same_items (row_again matched (laid rows matched wants areas [] [])) 0 rows (λ k m row e at.
      let here : m ≡ k = omega (arith, e) in
      same_size (laid rows matched wants areas [] []) m row (size_is areas es are all) (ap (slice_get rows) here ∙ at)
      (file_of matched m) refl (option_and_then (spot_at (laid rows matched wants areas [] [])) (file_of matched m)) refl)
