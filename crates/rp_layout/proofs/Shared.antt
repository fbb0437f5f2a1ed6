-- What lies in one area of those that partitions are laid out in.
use Rattle.std.proofs.Common.{◌≡◌, ◌≢◌, ℕ, ◌+◌, ◌*◌, ◌<◌, ◌≤◌, ◌⊎◌, List, [], ◌∷◌, length, get_or, map, max, sum_by, Option, Some, None, IfSome, All, AllPairs, slice_get, unwrap_or, arith, refl, ap, sym, ◌∙◌, subst, inl, inr}
use Rattle.std.specs.List.{Contains, cons_option}
use Rattle.std.specs.Option.{option_and_then, option_map_or}
use Rattle.std.proofs.lemmas.List.Elements.{All-cons, All-contains, All-head, All-weaker}
use Rattle.std.proofs.lemmas.List.Sums.{sum_by-cons}
use Rattle.std.proofs.lemmas.Option.{MatchOption-at_some, get_or_from_slice_get, slice_get_within}
use Rattle.rp_base.specs.declared.table.Row.{Row}
use Rattle.rp_base.specs.declared.table.Table.{Table}
use Rattle.rp_base.specs.declared.want.Want.{Want}
use Rattle.rp_base.specs.Wants.{AreWants, IsWant}
use Rattle.rp_areas.specs.declared.gaps.Area.{Area}
use Rattle.rp_areas.specs.Again.{Piece, total}
use Rattle.rp_areas.specs.Areas.{grains_up, want_at}
use Rattle.rp_areas.specs.Facts.{IsAnchor, IsAnchored, IsWithin}
use Rattle.rp_areas.proofs.Public.{areas_anchored, areas_used, areas_within}
use Rattle.rp_place.specs.declared.fit.New.{New}
use Rattle.rp_place.specs.declared.threshold.Placed.{Placed}
use Rattle.rp_place.specs.Facts.{needs_in}
use Rattle.rp_place.proofs.Public.{placement_at}
use Rattle.rp_share.specs.Share.{IsShare}
use Rattle.rp_share.specs.Value.{shares_of}
use Rattle.rp_layout.specs.declared.spot.Spot.{Spot}
use Rattle.rp_layout.specs.Facts.{IsReady}
use Rattle.rp_layout.specs.Layout.{spots_from, stack_in}
use Rattle.rp_layout.specs.Seats.{files_at, files_in, items_of, pieces_of, row_of, units_at, units_of}
use Rattle.rp_layout.proofs.Files.{All-in, few_besides, few_rising, needs_are, rising_in}
use Rattle.rp_layout.proofs.Lists.{All-slice_get, mapped_Contains}
use Rattle.rp_layout.proofs.Shares.{IsShared, fits_span, need, pieces_files, pieces_shared, seat, shared_span}
use Rattle.rp_layout.proofs.Spots.{Ends, Lies, spot_of, spots_end, spots_files, spots_keep, spots_lie}

of_option : (o : Option Want) → IfSome o IsWant
    → IsWant (unwrap_or o (record { min = 0; max = 0; weight = 0; pad_min = 0; pad_max = 0; pad_weight = 0 }))
of_option None is = record {
  size = omega arith;
  size_min = omega arith;
  size_max = omega arith;
  weight = omega arith;
  padding = omega arith;
  padding_min = omega arith;
  padding_max = omega arith;
  padding_weight = omega arith;
}
of_option (Some want) is = is

-- what any definition asks for keeps to the bounds
pub want_is : (wants : List Want) → AreWants wants → (file : ℕ) → IsWant (want_at wants file)
want_is wants are file = of_option (slice_get wants file) (All-slice_get IsWant wants file are.each)

pub not_less : (has units : ℕ) → grains_up has ≤ grains_up units → (units ≡ has) ⊎ (units ≡ 8 * grains_up units) → has ≤ units
not_less has units least (inl same) = omega (arith, same)
not_less has units least (inr whole) = omega (arith, least, whole)

-- where a partition stands: it is the anchor and begins the area, or is new and stands behind the anchor
abbrev pub Stands : (ℕ → ℕ) → Option ℕ → ℕ → List ℕ → Spot → Type 0
Stands has anchor from files s =
    ((anchor ≡ Some s.file) × (s.start ≡ 8 * from)) ⊎ (Contains files s.file × IfSome anchor (λ file. 8 * from + has file ≤ s.start))

-- the first of the definitions of an area is its anchor
module _ (wants : List Want) (has : ℕ → ℕ) (from : ℕ) where
  head_stands : (file : ℕ) (files : List ℕ) (x y : ℕ) (shares : List ℕ) → length shares ≡ length (items_of (map (seat wants has) files))
      → has file ≤ units_of (has file) x
      → All (Stands has (Some file) from files) (spots_from from (pieces_of (map (seat wants has) (file ∷ files)) (x ∷ y ∷ shares)))
  head_stands file files x y shares each grown =
      let p : Piece = record { file = file; units = units_of (has file) x; pad = y } in
      let next : ℕ = from + grains_up p.units + p.pad in
      let rest : List Piece = pieces_of (map (seat wants has) files) shares in
      let lie = spots_lie next (next + total rest) rest (omega arith) in
      let named : map (λ (s : Spot). s.file) (spots_from next rest) ≡ files = spots_files next rest
      ∙ pieces_files wants has files shares each in
      let listed : All (λ (s : Spot). Contains files s.file) (spots_from next rest) = subst
      (λ (fs : List ℕ). All (λ (s : Spot). Contains fs s.file) (spots_from next rest)) named
      (mapped_Contains (λ (s : Spot). s.file) (spots_from next rest)) in
      All-cons (Stands has (Some file) from files) (spot_of from p) (spots_from next rest) (inl (refl, refl))
      (λ k d below. inr (listed k d below, omega (arith, grown, (lie k d below).lower)))

  stand : (o : Option ℕ) (files shares : List ℕ) → length shares ≡ length (items_of (map (seat wants has) (cons_option o files)))
      → All (λ (p : Piece). has p.file ≤ p.units) (pieces_of (map (seat wants has) (cons_option o files)) shares)
      → All (Stands has o from files) (spots_from from (pieces_of (map (seat wants has) (cons_option o files)) shares))
  stand None files shares each grown =
      let pieces : List Piece = pieces_of (map (seat wants has) files) shares in
      let named : map (λ (s : Spot). s.file) (spots_from from pieces) ≡ files = spots_files from pieces
      ∙ pieces_files wants has files shares each in
      let listed : All (λ (s : Spot). Contains files s.file) (spots_from from pieces) = subst
      (λ (fs : List ℕ). All (λ (s : Spot). Contains fs s.file) (spots_from from pieces)) named
      (mapped_Contains (λ (s : Spot). s.file) (spots_from from pieces)) in
      λ k d below. inr (listed k d below, tt)
  stand (Some file) files [] each grown = absurd (omega (arith, each))
  stand (Some file) files (x ∷ []) each grown = absurd (omega (arith, each))
  stand (Some file) files (x ∷ y ∷ shares) each grown =
      head_stands file files x y shares (omega (arith, each))
      (All-head (λ (p : Piece). has p.file ≤ p.units) (record { file = file; units = units_of (has file) x; pad = y })
      (pieces_of (map (seat wants has) files) shares) grown)

-- a row that a definition has gives its units
pub units-some : (rows : List Row) (matched : List (Option ℕ)) (file place : ℕ) (row : Row) → slice_get matched file ≡ Some (Some place)
    → slice_get rows place ≡ Some row → row_of rows matched file ≡ Some row
units-some rows matched file place row has found =
    ap (λ (m : Option (Option ℕ)). option_and_then (slice_get rows) (unwrap_or m None)) has ∙ found

pub units-none : (rows : List Row) (matched : List (Option ℕ)) (file : ℕ) → slice_get matched file ≡ Some None
    → row_of rows matched file ≡ None
units-none rows matched file has = ap (λ (m : Option (Option ℕ)). option_and_then (slice_get rows) (unwrap_or m None)) has

module _ (table : Table) (last : ℕ) (matched : List (Option ℕ)) (wants : List Want) (areas : List Area) (news : List New) (kept : Placed)
    (ready : IsReady table last matched wants areas news kept) (i : ℕ) (area : Area) (at : slice_get areas i ≡ Some area) where
  abbrev pub has : ℕ → ℕ
  has = units_at table.rows matched

  inside : i < length areas
  inside = slice_get_within areas i area at

  -- what holds of each area holds of this one
  of_area : (P : Area → Type 0) → All P areas → P area
  of_area P each = subst P (get_or_from_slice_get areas i area area at) (each i area inside)

  pub anchored : IsAnchored table.rows matched wants area
  anchored = of_area (IsAnchored table.rows matched wants) (areas_anchored table last matched wants areas ready.are_areas)

  pub within : IsWithin table.first last area
  within = of_area (IsWithin table.first last)
      (areas_within table last matched wants areas ready.are_areas ready.laid_out ready.bounds)

  fits : area.used + needs_in i news kept.areas ≤ area.span
  fits =
      let placement = placement_at areas news kept.threshold kept.areas (areas_used table last matched wants areas ready.are_areas)
      ready.are_placed in
      subst (λ (o : Option Area). IfSome o (λ a. a.used + needs_in i news kept.areas ≤ a.span)) at (placement.fits i)

  pub limits : (file : ℕ) → IsWant (want_at wants file)
  limits = want_is wants ready.limits

  -- a new definition needs what it asks for
  new_needs : All (λ (n : New). need wants has n.file ≡ n.need) news
  new_needs k d below =
      let file : ℕ = (get_or news k d).file in
      let none : has file ≡ 0 = ap (λ (o : Option Row). option_map_or (λ (row : Row). row.size) o 0)
      (units-none table.rows matched file (ready.are_news.unmatched k d below)) in
      omega (arith, none, ready.are_news.needs k d below)

  -- the least that an anchor takes is what its area uses
  anchor_needs : (file : ℕ) → area.anchor ≡ Some file → need wants has file ≡ area.used
  anchor_needs file is =
      let anchor : IsAnchor table.rows matched wants area file = MatchOption-at_some (area.used ≡ 0)
      (IsAnchor table.rows matched wants area)
      file is anchored in
      let size : has file ≡ anchor.row.size = ap (λ (o : Option Row). option_map_or (λ (row : Row). row.size) o 0)
      (units-some table.rows matched file anchor.place anchor.row anchor.has anchor.found) in
      omega (arith, size, anchor.uses)

  in_area : sum_by (need wants has) (files_in i news kept.areas) ≡ needs_in i news kept.areas
  in_area = needs_are (need wants has) i news kept.areas new_needs

  pub minima : (o : Option ℕ) → area.anchor ≡ o → sum_by (need wants has) (cons_option o (files_in i news kept.areas)) ≤ area.span
  minima None is = omega (arith, in_area, fits)
  minima (Some file) is = omega (
    arith,
    in_area,
    fits,
    anchor_needs file is,
    sum_by-cons (need wants has) file (files_in i news kept.areas),
  )

  -- the new definitions here have no row
  pub new_unmatched : All (λ f. slice_get matched f ≡ Some None) (files_in i news kept.areas)
  new_unmatched = All-in (λ f. slice_get matched f ≡ Some None) i news kept.areas ready.are_news.unmatched

  new_below : All (λ f. f < length matched) (files_in i news kept.areas)
  new_below = All-weaker (λ f. slice_get matched f ≡ Some None) (λ f. f < length matched)
      (λ f none. slice_get_within matched f None none) (files_in i news kept.areas) new_unmatched

  new_rising : AllPairs (λ (f g : ℕ). f < g) (files_in i news kept.areas)
  new_rising = rising_in i news kept.areas ready.are_news.rising

  new_sized : All (λ f. 1 ≤ (want_at wants f).min) (files_in i news kept.areas)
  new_sized = All-in (λ f. 1 ≤ (want_at wants f).min) i news kept.areas ready.are_news.sized

  pub anchor_of : (file : ℕ) → area.anchor ≡ Some file → IsAnchor table.rows matched wants area file
  anchor_of file is = MatchOption-at_some (area.used ≡ 0) (IsAnchor table.rows matched wants area) file is anchored

  -- the anchor has a row, and so is none of the new ones
  pub new_others : (file : ℕ) → area.anchor ≡ Some file → All (λ f. f ≢ file) (files_in i news kept.areas)
  new_others file is = All-weaker (λ f. slice_get matched f ≡ Some None) (λ f. f ≢ file)
      (λ f none same.
      let anchor = anchor_of file is in
      let both : Some None ≡ Some (Some anchor.place) = sym none ∙ ap (slice_get matched) same ∙ anchor.has in
      (let e : None ≡ Some anchor.place = cc in cc))
      (files_in i news kept.areas) new_unmatched

  pub few : (o : Option ℕ) → area.anchor ≡ o → length (cons_option o (files_in i news kept.areas)) ≤ 256
  few None is = omega (
    arith,
    few_rising (files_in i news kept.areas) 0 (length matched) new_rising (λ k d below. omega arith) new_below,
    ready.limits.few,
    ready.one_each,
  )
  few (Some file) is =
      let anchor = anchor_of file is in
      omega (
        arith,
        few_besides (files_in i news kept.areas) file 0 (length matched) new_rising (λ k d below. omega arith) new_below
            (new_others file is) (omega arith) (slice_get_within matched file (Some anchor.place) anchor.has),
        ready.limits.few,
        ready.one_each,
      )

  -- each takes a grain at least
  pub sized : (o : Option ℕ) → area.anchor ≡ o
      → All (λ f. 1 ≤ max (grains_up (has f)) (want_at wants f).min) (cons_option o (files_in i news kept.areas))
  sized None is = All-weaker (λ f. 1 ≤ (want_at wants f).min) (λ f. 1 ≤ max (grains_up (has f)) (want_at wants f).min)
      (λ f some. omega (arith, some)) (files_in i news kept.areas) new_sized
  sized (Some file) is = All-cons (λ f. 1 ≤ max (grains_up (has f)) (want_at wants f).min) file (files_in i news kept.areas)
      (let anchor = anchor_of file is in
      let size : has file ≡ anchor.row.size = ap (λ (o : Option Row). option_map_or (λ (row : Row). row.size) o 0)
      (units-some table.rows matched file anchor.place anchor.row anchor.has anchor.found) in
      let some : 1 ≤ anchor.row.size = subst (λ (r : Row). 1 ≤ r.size)
      (get_or_from_slice_get table.rows anchor.place anchor.row anchor.row anchor.found)
      (ready.laid_out.sized anchor.place anchor.row (slice_get_within table.rows anchor.place anchor.row anchor.found)) in
      omega (arith, size, some))
      (All-weaker (λ f. 1 ≤ (want_at wants f).min) (λ f. 1 ≤ max (grains_up (has f)) (want_at wants f).min)
      (λ f some. omega (arith, some)) (files_in i news kept.areas) new_sized)

  -- the definitions here, the partitions and where they lie
  abbrev pub files_here : List ℕ
  files_here = files_at news kept.areas (i, area)

  abbrev pub pieces_here : List Piece
  pieces_here = stack_in table.rows matched wants news kept.areas (i, area)

  abbrev pub spots_here : List Spot
  spots_here = spots_from area.from pieces_here

  abbrev pub shares_here : List ℕ
  shares_here = shares_of area.span (items_of (map (seat wants has) files_here))

  pub share_here : IsShare area.span (items_of (map (seat wants has) files_here)) shares_here
  share_here = shared_span wants has limits files_here area.span (minima area.anchor refl)

  pub total_here : total pieces_here ≤ area.span
  total_here = fits_span area.span (map (seat wants has) files_here) shares_here share_here

  pub lie_here : All (Lies area.from (area.from + area.span)) spots_here
  lie_here = spots_lie area.from (area.from + area.span) pieces_here (omega (arith, total_here))

  pub end_here : AllPairs Ends spots_here
  end_here = spots_end area.from pieces_here

  pub one_each_here : length shares_here ≡ length (items_of (map (seat wants has) files_here))
  one_each_here = let share = share_here in share.fair.one_each

  pub named_pieces : map (λ (p : Piece). p.file) pieces_here ≡ files_here
  named_pieces = pieces_files wants has files_here shares_here one_each_here

  pub named_here : map (λ (s : Spot). s.file) spots_here ≡ files_here
  named_here = spots_files area.from pieces_here ∙ pieces_files wants has files_here shares_here one_each_here

  pub shared_pieces : All (λ (p : Piece). IsShared (want_at wants p.file) (has p.file) p.units p.pad) pieces_here
  shared_pieces = pieces_shared wants has area.span files_here shares_here share_here

  pub shared_here : All (λ (s : Spot). IsShared (want_at wants s.file) (has s.file) s.size s.pad) spots_here
  shared_here = spots_keep (λ file units pad. IsShared (want_at wants file) (has file) units pad) area.from pieces_here shared_pieces

  pub stand_here : All (Stands has area.anchor area.from (files_in i news kept.areas)) spots_here
  stand_here = stand wants has area.from area.anchor (files_in i news kept.areas) shares_here one_each_here
      (All-weaker (λ (p : Piece). IsShared (want_at wants p.file) (has p.file) p.units p.pad) (λ (p : Piece). has p.file ≤ p.units)
      (λ p shared. not_less (has p.file) p.units shared.least shared.kept) pieces_here shared_pieces)

  -- each has a grain at least
  pub some_here : All (λ (s : Spot). 1 ≤ grains_up s.size) spots_here
  some_here k d below =
      let s : Spot = get_or spots_here k d in
      let listed : Contains files_here s.file = subst (λ (fs : List ℕ). Contains fs s.file) named_here
      (mapped_Contains (λ (t : Spot). t.file) spots_here k d below) in
      let some : 1 ≤ max (grains_up (has s.file)) (want_at wants s.file).min =
      All-contains (λ f. 1 ≤ max (grains_up (has f)) (want_at wants f).min) files_here s.file (sized area.anchor refl) listed in
      let shared = shared_here k d below in
      omega (arith, some, shared.least, shared.min)
