-- What the code asks for, from what partitions are laid out from.
use Rattle.std.proofs.Common.{◌≡◌, ℕ, ◌+◌, ◌*◌, ◌^◌, ◌<◌, ◌≤◌, List, [], ◌∷◌, length, get_or, map, sum_by, Option, Some, None, IfSome, All, slice_get, arith, refl, ap, ◌∙◌, zero, suc}
use Rattle.std.specs.List.{enumerate_from}
use Rattle.std.proofs.lemmas.List.{length-map}
use Rattle.std.proofs.lemmas.List.Elements.{All-head, All-map, All-weaker}
use Rattle.std.proofs.lemmas.List.Sums.{sum_by-cons}
use Rattle.std.proofs.lemmas.Option.{slice_get-get_or, slice_get_within}
use Rattle.rp_base.specs.declared.table.Row.{Row}
use Rattle.rp_base.specs.declared.table.Table.{Table}
use Rattle.rp_base.specs.declared.want.Want.{Want}
use Rattle.rp_areas.specs.declared.gaps.Area.{Area}
use Rattle.rp_areas.proofs.Public.{areas_used}
use Rattle.rp_place.specs.declared.fit.New.{New}
use Rattle.rp_place.specs.declared.threshold.Placed.{Placed}
use Rattle.rp_place.specs.Facts.{IsPlacement}
use Rattle.rp_place.proofs.Public.{placement_at, places_are_least}
use Rattle.rp_layout.specs.declared.seat.Seat.{Seat}
use Rattle.rp_layout.specs.Facts.{IsReady}
use Rattle.rp_layout.specs.Seats.{files_at, files_in, seats_of, units_at}
use Rattle.rp_layout.specs.Stacking.{AreStackable, IsStackable, spots_over}
use Rattle.rp_layout.proofs.Files.{All-in}
use Rattle.rp_layout.proofs.Laid.{all_spots}
use Rattle.rp_layout.proofs.Lists.{All-cons_option, All-enumerated, AllZip-mapped, IfSome-from}
use Rattle.rp_layout.proofs.Shared.{anchor_of, few, has, limits, minima, sized, within}
use Rattle.rp_layout.proofs.Shares.{items_in_order, items_weigh, minima_are, need, seat}
use Rattle.rp_layout.proofs.Written.{over_is}

at_least : (wants : List Want) (has : ℕ → ℕ) (files : List ℕ) → 0 < length (map (seat wants has) files)
    → All (λ f. 1 ≤ need wants has f) files → 1 ≤ sum_by (need wants has) files
at_least wants has [] some each = absurd (omega (arith, some))
at_least wants has (f ∷ fs) some each = omega (arith, sum_by-cons (need wants has) f fs, All-head (λ g. 1 ≤ need wants has g) f fs each)

module _ (table : Table) (last : ℕ) (matched : List (Option ℕ)) (wants : List Want) (areas : List Area) (news : List New) (kept : Placed)
    (ready : IsReady table last matched wants areas news kept) where
  -- the seats of each area
  abbrev pub own_seats : ℕ × Area → List Seat
  own_seats e = seats_of table.rows matched wants (files_at news kept.areas e)

  abbrev pub all_seats_of : List (List Seat)
  all_seats_of = map own_seats (enumerate_from 0 areas)

  placement : IsPlacement areas news kept.threshold kept.areas
  placement = placement_at areas news kept.threshold kept.areas (areas_used table last matched wants areas ready.are_areas) ready.are_placed

  pub ready_places : All (λ p. IfSome p (λ a. a < length areas)) kept.areas
  ready_places = let is = placement in is.in_areas

  pub ready_one_each : length kept.areas ≡ length news
  ready_one_each = let is = places_are_least areas news kept.threshold kept.areas ready.are_placed in is.one_each

  pub ready_anchors : All (λ (a : Area). IfSome a.anchor (λ f. f < length matched)) areas
  ready_anchors k d below = IfSome-from (get_or areas k d).anchor (λ f. f < length matched) (λ f is.
      let anchor = anchor_of table last matched wants areas news kept ready k (get_or areas k d) (slice_get-get_or areas k d below) f is in
      slice_get_within matched f (Some anchor.place) anchor.has)

  stackable : (i : ℕ) (area : Area) → slice_get areas i ≡ Some area → IsStackable area.from area.span (own_seats (i, area))
  stackable i area at =
      let files : List ℕ = files_at news kept.areas (i, area) in
      let own : ℕ → ℕ = units_at table.rows matched in
      let bounds = limits table last matched wants areas news kept ready i area at in
      let fits : sum_by (need wants own) files ≤ area.span = minima table last matched wants areas news kept ready i area at area.anchor
      refl in
      let grains = sized table last matched wants areas news kept ready i area at area.anchor refl in
      let needed : All (λ f. 1 ≤ need wants own f) files = λ k d below. omega (arith, grains k d below) in
      let bound = within table last matched wants areas news kept ready i area at in
      record {
        few = omega (
          arith,
          few table last matched wants areas news kept ready i area at area.anchor refl,
          length-map files (seat wants own),
        );
        limits = items_in_order wants own bounds files;
        weights = items_weigh wants own bounds files;
        minima = omega (arith, fits, minima_are wants own files);
        small = span_small area.from area.span bound.1;
        ends = λ some. let spans : 0 < area.span = omega (arith, fits, at_least wants own files some needed) in
            omega (arith, bound.1 spans, ready.small);
      } where
        span_small : (from span : ℕ) → (0 < span → 8 * (from + span) ≤ last + 1) → span ≤ 2 ^ 32
        span_small from zero ends = omega arith
        span_small from (suc span) ends = omega (arith, ends (omega arith), ready.small)

  pub ready_stackable : AreStackable areas all_seats_of
  ready_stackable = AllZip-mapped (λ (a : Area) s. IsStackable a.from a.span s) own_seats 0 areas
      (All-enumerated (λ e. IsStackable e.1.from e.1.span (own_seats e)) areas stackable)

  pub file_below : (i : ℕ) (area : Area) → slice_get areas i ≡ Some area → All (λ f. f < length wants) (files_at news kept.areas (i, area))
  file_below i area at =
      All-cons_option (λ f. f < length wants) area.anchor (files_in i news kept.areas)
      (IfSome-from area.anchor (λ f. f < length wants) (λ f is.
      let anchor = anchor_of table last matched wants areas news kept ready i area at f is in
      omega (arith, slice_get_within matched f (Some anchor.place) anchor.has, ready.one_each)))
      (All-in (λ f. f < length wants) i news kept.areas
      (All-weaker (λ (n : New). slice_get matched n.file ≡ Some None) (λ (n : New). n.file < length wants)
      (λ n none. omega (arith, slice_get_within matched n.file None none, ready.one_each)) news ready.are_news.unmatched))

  pub ready_files : All (All (λ (s : Seat). s.file < length wants)) all_seats_of
  ready_files = All-map (All (λ (s : Seat). s.file < length wants)) own_seats (enumerate_from 0 areas)
      (All-enumerated (λ e. All (λ (s : Seat). s.file < length wants) (own_seats e)) areas (λ i area at.
      All-map (λ (s : Seat). s.file < length wants) (seat wants (units_at table.rows matched)) (files_at news kept.areas (i, area))
      (file_below i area at)))

  pub over_all : spots_over areas all_seats_of ≡ all_spots table last matched wants areas news kept ready
  over_all = over_is own_seats 0 areas

  -- the seats by the same rows and places
  pub seats_same : (rows : List Row) (places : List (Option ℕ)) (seats : List (List Seat)) → rows ≡ table.rows → places ≡ kept.areas
      → seats ≡ map (λ e. seats_of rows matched wants (files_at news places e)) (enumerate_from 0 areas) → seats ≡ all_seats_of
  seats_same rows places seats one two is =
      is
      ∙ ap (λ (rs : List Row). map (λ (e : ℕ × Area). seats_of rs matched wants (files_at news places e)) (enumerate_from 0 areas)) one
      ∙ ap (λ (ps : List (Option ℕ)). map (λ (e : ℕ × Area). seats_of table.rows matched wants (files_at news ps e))
      (enumerate_from 0 areas)) two
